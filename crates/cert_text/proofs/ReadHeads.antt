-- Head lines of certificates.
use Rattle.std.proofs.Common.{◌≡◌, ⊎_elim, ℕ, ◌+◌, ◌≤◌, Bool, true, false, nat_le, List, [], ◌∷◌}
use Rattle.std.proofs.Common.{◌++◌, length, take, drop, Option, None, Some, decimal, refl, sym, ap}
use Rattle.std.proofs.Common.{◌∙◌, arith, lit≤, lit<}
use Rattle.std.specs.Prelude.{codes, IsTrue, ◌↔◌, is_some, option_copied}
use Rattle.std.specs.Borrow.{Bor}
use Rattle.std.proofs.lemmas.Bool.{cases_lt}
use Rattle.std.proofs.lemmas.Bool.Decides.{nat_tests}
use Rattle.std.proofs.lemmas.List.{append_assoc, drop_all, drop_at, length-take-le, take_at}
use Rattle.compact_types.specs.declared.limits.TheConstants.{MOST_PITCH}
use Rattle.cert_text.specs.Certificates.{HasNoHead, IsCutAtHead, IsCutAtLastHead, IsPitch}
use Rattle.cert_text.specs.Texts.{head_line, head_start}
use Rattle.cert_text.specs.inner.Reading.{after_byte, after_word, head_of, number_read}
use Rattle.cert_text.proofs.ReadNumbers.{IsLimit, number_is, number_is_read}
use Rattle.cert_text.proofs.ReadWords.{after_byte_is, after_word_is, bind_some, cond_some}
use Rattle.cert_text.proofs.ReadWords.{word_is_read}

-- no head line begins at this place
abbrev pub HasNoHeadAt : List ℕ → ℕ → Type 0
HasNoHeadAt text at = IsCutAtHead text (take at text) (drop at text) → ⊥

-- no head line begins at this place or behind it
pub record HasNoHeadFrom (text : List ℕ) (at : ℕ) : Type 0 where
  pub none : (place : ℕ) → at ≤ place → HasNoHeadAt text place
  pub within : at ≤ length text

no_head_past : (text : List ℕ) (place : ℕ) → length text ≤ place → HasNoHeadAt text place
no_head_past text place past head =
    let e : [] ≡ head_start ++ head.head.0 = sym (drop_all place text past) ∙ head.head.1 in
    absurd (let f : [] ≡ 35 ∷ (codes "! compaction " ++ head.head.0) = e in cc)

pub no_head_at_end : (text : List ℕ) → HasNoHeadFrom text (length text)
no_head_at_end text = record { none = no_head_past text; within = omega arith }

pub no_head_one_before : (text : List ℕ) (at before : ℕ) → HasNoHeadFrom text at → at ≡ before + 1 →
    HasNoHeadAt text before → HasNoHeadFrom text before
no_head_one_before text at before from next here = record {
  none = λ place h. ⊎_elim (λ below. from.none place (omega arith))
      (λ past. let same : place ≡ before = omega arith in rw same here)
      (cases_lt before place);
  within = omega (arith, from.within);
}

-- a head line begins where the front ends
head_place : (text front rest : List ℕ) → IsCutAtHead text front rest →
    IsCutAtHead text (take (length front) text) (drop (length front) text)
head_place text front rest cut =
    let t : take (length front) text ≡ front = ap (take (length front)) (cut.cut)
    ∙ take_at front rest (length front) refl in
    let d : drop (length front) text ≡ rest = ap (drop (length front)) (cut.cut)
    ∙ drop_at front rest (length front) refl in
    rw (t, d) cut

pub no_head : (text : List ℕ) (at : ℕ) → HasNoHeadFrom text at → at ≡ 0 → HasNoHead text
no_head text at from start = λ front rest cut.
    from.none (length front) (omega arith) (head_place text front rest cut)

pub last_head_is : (text : List ℕ) (at before : ℕ) → HasNoHeadFrom text at → at ≡ before + 1 →
    IsCutAtHead text (take before text) (drop before text) →
    IsCutAtLastHead text (take before text) (drop before text)
last_head_is text at before from next head = record {
  head = head;
  last = λ other after cut. rw (length-take-le before text (omega (arith, from.within)))
      (⊎_elim (λ below. absurd (from.none (length other) (omega arith)
      (head_place text other after cut)))
      (λ within. within) (cases_lt before (length other)));
}

-- the last head line is one
pub record IsSameCut (front other rest after : List ℕ) : Type 0 where
  pub front_is : front ≡ other
  pub rest_is : rest ≡ after

pub one_last_head : (text front other rest after : List ℕ) → IsCutAtLastHead text front rest →
    IsCutAtLastHead text other after → IsSameCut front other rest after
one_last_head text front other rest after a b =
    let same : length front ≡ length other = omega
    (arith, a.last other after (b.head), b.last front rest (a.head)) in
    let whole : front ++ rest ≡ other ++ after = sym (a.head.cut) ∙ b.head.cut in
    record {
      front_is = sym (take_at front rest (length front) refl) ∙ ap (take (length front)) whole
          ∙ take_at other after (length front) (sym same);
      rest_is = sym (drop_at front rest (length front) refl) ∙ ap (drop (length front)) whole
          ∙ drop_at other after (length front) (sym same);
    }

pub begins_head_is : (text : List ℕ) (found : Option (Bor (List ℕ))) (is : Bool) →
    option_copied found ≡ after_word head_start text → is ≡ is_some found →
    IsTrue is ↔ ((after : List ℕ) × (text ≡ head_start ++ after))
begins_head_is text None is found e = (
  λ yes. absurd (let f : true ≡ false = sym yes ∙ e in cc),
  λ (after, cut). absurd (let f : None ≡ Some after = found ∙ ap (after_word head_start) cut
      ∙ word_is_read head_start after in cc),
)
begins_head_is text (Some rest) is found e = (
  λ yes. (rest.now, after_word_is head_start text rest.now (sym found)),
  λ has. e,
)

pitch_limit : IsLimit MOST_PITCH
pitch_limit = record { high = lit≤ tt; low = lit< tt }

-- the text begins with a head line
pub record IsHeadOf (text : List ℕ) (pitch : ℕ) (rest : List ℕ) : Type 0 where
  pub cut : text ≡ head_line pitch ++ rest
  pub pitched : IsPitch pitch

abbrev head_words : List ℕ
head_words = codes "#! compaction 1 pitch "

head_front : (pitch : ℕ) (rest : List ℕ) →
    head_line pitch ++ rest ≡ head_words ++ (decimal pitch ++ 10 ∷ rest)
head_front pitch rest = ap (λ end. head_words ++ end) (append_assoc (decimal pitch) (10 ∷ []) rest)

pub head_is : (text : List ℕ) (pitch : ℕ) (rest : List ℕ) → head_of text ≡ Some (pitch, rest) →
    IsHeadOf text pitch rest
unfolding head_of
head_is text pitch rest h =
    let words = bind_some (after_word head_words text) _ (pitch, rest) h in
    let number = bind_some (number_read MOST_PITCH (words.0)) _ (pitch, rest) (words.2) in
    let feed = bind_some (after_byte 10 (number.0.1)) _ (pitch, rest) (number.2) in
    let test = cond_some (nat_le 1 (number.0.0)) (number.0.0, feed.0) (pitch, rest) (feed.2) in
    let is = number_is MOST_PITCH (words.0) (number.0.0) (number.0.1) pitch_limit (number.1) in
    let same_pitch : number.0.0 ≡ pitch = ap (λ (p : ℕ × List ℕ). p.0) (test.1) in
    let same_rest : feed.0 ≡ rest = ap (λ (p : ℕ × List ℕ). p.1) (test.1) in
    let after : number.0.1 ≡ 10 ∷ rest = after_byte_is 10 (number.0.1) (feed.0) (feed.1)
    ∙ ap (λ end. 10 ∷ end) same_rest in
    record {
      cut = after_word_is head_words text (words.0) (words.1)
          ∙ ap (λ end. head_words ++ end) (is.cut ∙ ap (λ end. decimal (number.0.0) ++ end) after
          ∙ ap (λ m. decimal m ++ 10 ∷ rest) same_pitch)
          ∙ sym (head_front pitch rest);
      pitched = record {
        some = grind (arith, nat_tests, test.0, same_pitch);
        most = omega (arith, is.within, same_pitch);
      };
    }

pub head_is_read : (pitch : ℕ) (rest : List ℕ) → IsPitch pitch →
    head_of (head_line pitch ++ rest) ≡ Some (pitch, rest)
unfolding head_of
head_is_read pitch rest is =
    let some : nat_le 1 pitch ≡ true = grind (arith, nat_tests, is.some) in
    ap head_of (head_front pitch rest)
    ∙ rw (
      word_is_read head_words (decimal pitch ++ 10 ∷ rest),
      number_is_read MOST_PITCH pitch (10 ∷ rest) pitch_limit (is.most) refl,
      some,
    ) refl
