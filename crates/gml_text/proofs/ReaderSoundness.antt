-- What the reader's function reads is spelled so.
use Rattle.std.proofs.Common.{◌≡◌, ℕ, zero, suc, ◌+◌, ◌<◌, ◌≤◌, ◌⊎◌, inl, inr, Bool, true, false, eqb, leb, not, List, [], ◌∷◌, ◌++◌, length, take, drop, Option, None, Some, Result, Ok, Err, refl, sym, ◌∙◌, ap, subst, arith, length-append, append_assoc}
use Rattle.std.specs.List.{prefix_len, take_while, list_all}
use Rattle.std.proofs.lemmas.List.{append-nil, take-append-drop, take_at}
use Rattle.std.proofs.lemmas.List.Folds.{length-prefix_len}
use Rattle.std.proofs.lemmas.Bool.{cond-true, cond-false, eqb-true, eq-eqb}
use Rattle.std.proofs.lemmas.Bool.Decides.{nat_tests}
use Rattle.gml_text.specs.declared.fault.GmlFault.{GmlFault}
use Rattle.gml_text.specs.declared.fault.GmlKind.{GmlKind}
use Rattle.gml_text.specs.declared.fault.GmlKind.TheVariants.{BadKey, BadValue, BadNumeral, OpenString, StrayClose, TooDeep}
use Rattle.gml_text.specs.declared.number.NumeralKind.{NumeralKind}
use Rattle.gml_text.specs.declared.number.NumeralKind.TheVariants as kinds
use Rattle.gml_text.specs.declared.reader.Parent.{Parent}
use Rattle.gml_text.specs.declared.tree.Tree.{Tree, out-roll-Tree}
use Rattle.gml_text.specs.declared.tree.Pair.{Pair}
use Rattle.gml_text.specs.declared.tree.Value.{Value}
use Rattle.gml_text.specs.declared.tree.Value.TheVariants.{Text}
use Rattle.gml_text.specs.Bytes.{is_space, is_word_byte, is_key, are_spaces, lacks, begins_numeral, begins_with_word, ends_in_word, first_word}
use Rattle.gml_text.specs.Faults.{KeyPlace, ValuePlace, FirstFault, after_a_key, bad_key, no_value, bad_value, bad_numeral, open_string, open_list, open_list_in_a_comment, stray_close, too_deep}
use Rattle.gml_text.specs.Numerals.{HasParts}
use Rattle.gml_text.specs.NumeralKinds.{kind_of}
use Rattle.gml_text.specs.Texts.{HasValue, no_more, a_whole_numeral, a_real_numeral, a_string, IsText, to_the_end, in_a_comment, Spells}
use Rattle.gml_text.specs.declared.limits.TheConstants.{MOST_DEPTH}
use Rattle.gml_text.specs.inner.Reading.{ReaderState, ReaderStep, goes_on, stops, reader_step, run, finish, finish_in, answer_of, at_the_start, moved_to, with_pair, close_in, read_value, read_inside, read_string, read_numeral, read_numeral_of, numeral_value, begin_list, read_after}
use Rattle.gml_text.proofs.NumeralLaws.{whole-kind_of, real-kind_of, none-kind_of}
use Rattle.gml_text.proofs.ByteFacts.{is_space-no_word, begins_numeral-word}
use Rattle.gml_text.proofs.LongestFronts.{begins, and-left, take_while-front, list_all-take_while, begins-drop_while, prefix_len-yes}
use Rattle.gml_text.proofs.KeysAreWords.{ends_in_word-append, begins-word, is_key-some, ends-spaces}
use Rattle.gml_text.proofs.ReaderRuns.{run-goes_on, run-stops}
use Rattle.gml_text.proofs.TokenSteps.{step-space, step-other, step-close, step-whole_comment, step-last_comment, read_after-key, eqb-less}
use Rattle.gml_text.proofs.ReadFronts.{Opened, outside, within, Opened-depth, grow-space, grow-comment, grow-value, AfterClose, after_close, open_one, innermost, key_place, Opened-most}
use Rattle.gml_text.proofs.ReaderCompleteness.{Joins, begins_with_word-append}

-- the answer is right for the text
abbrev pub Answers : List ℕ → Result Tree GmlFault → Type 0
Answers text (Ok tree) = Spells text tree
Answers text (Err fault) = FirstFault text fault

-- the next place where a key may stand, after a part of what follows the front
pub record IsNext (front text : List ℕ) (next : ReaderState) : Type 0 where
  pub taken : List ℕ
  pub rest : List ℕ
  pub depth : ℕ
  pub split : text ≡ taken ++ rest
  pub some : 0 < length taken
  pub place : next.at ≡ length (front ++ taken)
  pub opened : Opened depth (front ++ taken) next.parents next.pairs
  pub joins : Joins (front ++ taken) rest

-- the text ends in a comment, with the right answer
pub record IsLast (front text : List ℕ) (next : ReaderState) : Type 0 where
  pub place : next.at ≡ length (front ++ text)
  pub answers : Answers (front ++ text) (finish next)

abbrev pub IsRight : List ℕ → List ℕ → ReaderStep → Type 0
IsRight front text (goes_on next) = IsNext front text next ⊎ IsLast front text next
IsRight front text (stops fault) = FirstFault (front ++ text) fault

not_false : (test : Bool) → not test ≡ false → test ≡ true
not_false true e = refl
not_false false e = sym e

leb-most : (a : ℕ) → leb 64 a ≡ true → 64 ≤ a
leb-most a h = grind (arith, nat_tests)

leb-less : (a : ℕ) → leb 64 a ≡ false → a < 64
leb-less a h = grind (arith, nat_tests)

right : (front text : List ℕ) (a b : ReaderStep) → a ≡ b → IsRight front text b → IsRight front text a
right front text a b e h = subst (IsRight front text) (sym e) h

ends_with : (front text : List ℕ) (b : ℕ) → is_word_byte b ≡ false → ends_in_word (front ++ text ++ b ∷ []) ≡ false
ends_with front text b h = ends_in_word-append (front ++ text) (b ∷ []) (omega arith) ∙ h

-- a word that stands there is the longest
no_word_before : (front : List ℕ) (b : ℕ) (text : List ℕ) → Joins front (b ∷ text) → is_word_byte b ≡ true → ends_in_word front ≡ false
no_word_before front b text (inl e) h = e
no_word_before front b text (inr e) h = absurd cc

word_apart : (front word rest : List ℕ) → Joins front (word ++ rest) → list_all is_word_byte word ≡ true → 0 < length word → ends_in_word front ≡ false
word_apart front [] rest joins all some = absurd (omega arith)
word_apart front (b ∷ word) rest joins all some = no_word_before front b (word ++ rest) joins (and-left (is_word_byte b) (list_all is_word_byte word) all)

right-space : (front : List ℕ) (b : ℕ) (text : List ℕ) (s : ReaderState) (depth : ℕ) → Opened depth front s.parents s.pairs → s.at ≡ length front →
    is_space b ≡ true → IsRight front (b ∷ text) (goes_on (moved_to s (s.at + 1)))
right-space front b text s depth opened place space = inl (record {
  taken = b ∷ [];
  rest = text;
  depth = depth;
  split = refl;
  some = omega arith;
  place = omega (arith, length-append front (b ∷ []));
  opened = grow-space opened b space;
  joins = inl (ends_in_word-append front (b ∷ []) (omega arith) ∙ is_space-no_word b space);
})

finish-comment : {depth : ℕ} {front : List ℕ} {parents : List Parent} {pairs : List Pair} → Opened depth front parents pairs →
    (words : List ℕ) → ends_in_word front ≡ false → lacks 10 words ≡ true → Answers (front ++ 35 ∷ words) (finish_in parents pairs)
finish-comment (outside text pairs h) words ends lack =
    subst (IsText (text ++ 35 ∷ words)) (sym (ap (λ r. r.pairs) (out-roll-Tree (record { pairs = pairs })))) (in_a_comment text pairs words h ends lack)
finish-comment (within depth front parents before key gap inside pairs outer end is_one spaces room h) words ends lack =
    open_list_in_a_comment (suc depth) (front ++ key ++ gap ++ 91 ∷ inside) (length (front ++ key ++ gap)) words
    (key_place (within depth front parents before key gap inside pairs outer end is_one spaces room h)) ends lack

finish-right : {depth : ℕ} {front : List ℕ} {parents : List Parent} {pairs : List Pair} → Opened depth front parents pairs →
    Answers front (finish_in parents pairs)
finish-right (outside text pairs h) =
    subst (IsText text) (sym (ap (λ r. r.pairs) (out-roll-Tree (record { pairs = pairs })))) (to_the_end text pairs h)
finish-right (within depth front parents before key gap inside pairs outer end is_one spaces room h) =
    open_list (suc depth) (front ++ key ++ gap ++ 91 ∷ inside) (length (front ++ key ++ gap))
    (key_place (within depth front parents before key gap inside pairs outer end is_one spaces room h))

-- after the bytes before a line feed come a line feed or the text's end
right-comment : (front words left : List ℕ) (s : ReaderState) (depth : ℕ) → Opened depth front s.parents s.pairs → s.at ≡ length front →
    ends_in_word front ≡ false → lacks 10 words ≡ true → begins (λ b. not (eqb b 10)) left ≡ false →
    IsRight front (35 ∷ (words ++ left)) (reader_step s (35 ∷ (words ++ left)))
right-comment front words [] s depth opened place ends lack line =
    let none : words ++ [] ≡ words = append-nil words in
    subst (λ text. IsRight front (35 ∷ text) (reader_step s (35 ∷ text))) (sym none)
    (right front (35 ∷ words) (reader_step s (35 ∷ words)) (goes_on (moved_to s (s.at + suc (length words)))) (step-last_comment s words lack)
    (inr (record {
      place = omega (arith, length-append front (35 ∷ words));
      answers = finish-comment opened words ends lack;
    })))
right-comment front words (b ∷ left) s depth opened place ends lack line =
    let feed : b ≡ 10 = eqb-true b 10 (not_false (eqb b 10) line) in
    subst (λ b. IsRight front (35 ∷ (words ++ b ∷ left)) (reader_step s (35 ∷ (words ++ b ∷ left)))) (sym feed)
    (right front (35 ∷ (words ++ 10 ∷ left)) (reader_step s (35 ∷ (words ++ 10 ∷ left))) (goes_on (moved_to s (s.at + (length words + 2)))) (step-whole_comment s words left lack)
    (inl (record {
      taken = 35 ∷ words ++ 10 ∷ [];
      rest = left;
      depth = depth;
      split = simp append_assoc;
      some = omega arith;
      place = omega (arith, length-append front (35 ∷ words ++ 10 ∷ []), length-append words (10 ∷ []));
      opened = grow-comment opened ends words lack;
      joins = inl (ends_in_word-append front (35 ∷ words ++ 10 ∷ []) (omega arith) ∙ ends_in_word-append (35 ∷ words) (10 ∷ []) (omega arith));
    })))

fault_moved : (text : List ℕ) (a b : ℕ) (kind : GmlKind) → a ≡ b → FirstFault text (record { at = a; kind = kind }) → FirstFault text (record { at = b; kind = kind })
fault_moved text a b kind e h = subst (λ at. FirstFault text (record { at = at; kind = kind })) e h

right-close : (front text : List ℕ) (depth : ℕ) (parents : List Parent) (pairs : List Pair) (at : ℕ) →
    KeyPlace depth front (innermost parents) → length parents ≡ depth → AfterClose front parents pairs → at ≡ length front →
    IsRight front (93 ∷ text) (close_in parents pairs at)
right-close front text depth [] pairs at here deep after place =
    fault_moved (front ++ 93 ∷ text) (length front) at StrayClose (sym place)
    (stray_close front text (subst (λ depth. KeyPlace depth front None) (sym deep) here))
right-close front text depth (parent ∷ parents) pairs at here deep after place = inl (record {
  taken = 93 ∷ [];
  rest = text;
  depth = after.0;
  split = refl;
  some = omega arith;
  place = omega (arith, length-append front (93 ∷ []));
  opened = after.1;
  joins = inl (ends_in_word-append front (93 ∷ []) (omega arith));
})

-- where a value may stand: after a front, a key and white space
pub record IsPlace (front key gap text : List ℕ) (s : ReaderState) (depth at : ℕ) : Type 0 where
  pub opened : Opened depth front s.parents s.pairs
  pub ends : ends_in_word front ≡ false
  pub is_one : is_key key ≡ true
  pub spaces : are_spaces gap ≡ true
  pub apart : begins_with_word text ≡ true → gap ≡ [] → ⊥
  pub place : at ≡ length (front ++ key ++ gap)
  pub some : 0 < length (key ++ gap)

value_place : {front key gap text : List ℕ} {s : ReaderState} {depth at : ℕ} → IsPlace front key gap text s depth at → ValuePlace depth (front ++ key ++ gap)
value_place {front} {key} {gap} {text} {s} {depth} {at} here =
    after_a_key depth front (innermost s.parents) key gap (key_place here.opened) here.ends here.is_one here.spaces

value_fault : (front key gap text : List ℕ) (s : ReaderState) (depth at : ℕ) (kind : GmlKind) → IsPlace front key gap text s depth at →
    FirstFault ((front ++ key ++ gap) ++ text) (record { at = length (front ++ key ++ gap); kind = kind }) →
    FirstFault (front ++ (key ++ gap ++ text)) (record { at = at; kind = kind })
value_fault front key gap text s depth at kind here h =
    let regrouped : (front ++ key ++ gap) ++ text ≡ front ++ (key ++ gap ++ text) = simp append_assoc in
    fault_moved (front ++ (key ++ gap ++ text)) (length (front ++ key ++ gap)) at kind (sym here.place)
    (subst (λ text. FirstFault text (record { at = length (front ++ key ++ gap); kind = kind })) regrouped h)

value_apart : (front key gap : List ℕ) (b : ℕ) (text : List ℕ) (s : ReaderState) (depth at : ℕ) → IsPlace front key gap (b ∷ text) s depth at →
    is_word_byte b ≡ true → ends_in_word (front ++ key ++ gap) ≡ false
value_apart front key [] b text s depth at here word = absurd (here.apart word refl)
value_apart front key (space ∷ gap) b text s depth at here word =
    ends_in_word-append (front ++ key) (space ∷ gap) (omega arith) ∙ ends-spaces (space ∷ gap) here.spaces

-- a value that is read
right-value : (front key gap text piece rest : List ℕ) (value : Value) (s : ReaderState) (depth at : ℕ) → IsPlace front key gap text s depth at →
    text ≡ piece ++ rest → (begins_with_word piece ≡ true → gap ≡ [] → ⊥) → HasValue depth at piece value → Joins (front ++ (key ++ gap ++ piece)) rest →
    IsRight front (key ++ gap ++ text) (goes_on (with_pair s (record { key = key; value = value; at = at }) (at + length piece)))
right-value front key gap text piece rest value s depth at here split apart has joins = inl (record {
  taken = key ++ gap ++ piece;
  rest = rest;
  depth = depth;
  split = ap (λ text. key ++ gap ++ text) split ∙ sym (append_assoc (key ++ gap) piece rest);
  some = omega (arith, here.some, length-append (key ++ gap) piece);
  place = omega (arith, here.place, length-append front (key ++ gap ++ piece), length-append (key ++ gap) piece, length-append (front ++ key) gap, length-append front key, length-append key gap);
  opened = grow-value here.opened here.ends key gap piece value at here.is_one here.spaces apart here.place has;
  joins = joins;
})

-- a string: so many bytes inside, and what is left begins with a quote or is nothing
right-inside : (front key gap inside left : List ℕ) (s : ReaderState) (depth at : ℕ) → IsPlace front key gap (34 ∷ (inside ++ left)) s depth at →
    lacks 34 inside ≡ true → begins (λ b. not (eqb b 34)) left ≡ false →
    IsRight front (key ++ gap ++ 34 ∷ (inside ++ left)) (read_inside s key at (inside ++ left) (length inside))
right-inside front key gap inside [] s depth at here lack quote =
    let whole : length inside ≡ length (inside ++ []) = ap length (sym (append-nil inside)) in
    right front (key ++ gap ++ 34 ∷ (inside ++ [])) _ (stops (record { at = at; kind = OpenString })) (cond-true (eqb (length inside) (length (inside ++ []))) _ _ (eq-eqb (length inside) (length (inside ++ [])) whole))
    (value_fault front key gap (34 ∷ (inside ++ [])) s depth at OpenString here (open_string depth (front ++ key ++ gap) (inside ++ []) (value_place here) (subst (λ rest. lacks 34 rest ≡ true) (sym (append-nil inside)) lack)))
right-inside front key gap inside (b ∷ left) s depth at here lack quote =
    let mark : b ≡ 34 = eqb-true b 34 (not_false (eqb b 34) quote) in
    let more : length inside < length (inside ++ b ∷ left) = omega (arith, length-append inside (b ∷ left)) in
    let pair_of : List ℕ → Pair = λ inside. record { key = key; value = Text inside; at = at } in
    let end : at + length (34 ∷ inside ++ 34 ∷ []) ≡ at + length inside + 2 = omega (arith, length-append inside (34 ∷ [])) in
    let split : 34 ∷ (inside ++ b ∷ left) ≡ (34 ∷ inside ++ 34 ∷ []) ++ left = ap (λ b. 34 ∷ (inside ++ b ∷ left)) mark ∙ simp append_assoc in
    let piece : List ℕ = 34 ∷ inside ++ 34 ∷ [] in
    right front (key ++ gap ++ 34 ∷ (inside ++ b ∷ left)) _ (goes_on (with_pair s (pair_of inside) (at + length piece)))
    (cond-false (eqb (length inside) (length (inside ++ b ∷ left))) _ _ (eqb-less (length inside) (length (inside ++ b ∷ left)) more)
    ∙ (ap (λ taken. goes_on (with_pair s (pair_of taken) (at + length inside + 2))) (take_at inside (b ∷ left) (length inside) refl)
    ∙ ap (λ n. goes_on (with_pair s (pair_of inside) n)) (sym end)))
    (right-value front key gap (34 ∷ (inside ++ b ∷ left)) piece left (Text inside) s depth at here split (λ begin. absurd cc) (a_string depth at inside lack)
    (inl (ends_in_word-append front (key ++ gap ++ piece) (omega (arith, length-append (key ++ gap) piece))
    ∙ (ends_in_word-append (key ++ gap) piece (omega arith) ∙ ends_in_word-append (34 ∷ inside) (34 ∷ []) (omega arith)))))

right-string : (front key gap text : List ℕ) (s : ReaderState) (depth at : ℕ) → IsPlace front key gap (34 ∷ text) s depth at →
    IsRight front (key ++ gap ++ 34 ∷ text) (read_string s key at (34 ∷ text))
right-string front key gap text s depth at here =
    let p : ℕ → Bool = λ b. not (eqb b 34) in
    let inside : List ℕ = take_while p text in
    let left : List ℕ = drop (prefix_len p text) text in
    let split : inside ++ left ≡ text = take-append-drop (prefix_len p text) text in
    let size : length inside ≡ prefix_len p text = length-prefix_len p text in
    let all : IsRight front (key ++ gap ++ 34 ∷ (inside ++ left)) (read_inside s key at (inside ++ left) (length inside)) =
    right-inside front key gap inside left s depth at (subst (λ text. IsPlace front key gap (34 ∷ text) s depth at) (sym split) here)
    (list_all-take_while p text) (begins-drop_while p text) in
    subst (λ n. IsRight front (key ++ gap ++ 34 ∷ text) (read_inside s key at text n)) size
    (subst (λ text. IsRight front (key ++ gap ++ 34 ∷ text) (read_inside s key at text (length inside))) split all)

has-numeral : (depth at : ℕ) (word : List ℕ) (kind : NumeralKind) → kind_of word ≡ Some kind → HasValue depth at word (numeral_value kind word)
has-numeral depth at word kinds.Whole h = a_whole_numeral depth at word (whole-kind_of word h)
has-numeral depth at word kinds.Real h = a_real_numeral depth at word (real-kind_of word h)

right-numeral : (front key gap word rest : List ℕ) (found : Option NumeralKind) (s : ReaderState) (depth at : ℕ) →
    IsPlace front key gap (word ++ rest) s depth at → 0 < length word → begins is_word_byte rest ≡ false → list_all is_word_byte word ≡ true →
    begins begins_numeral word ≡ true → kind_of word ≡ found → IsRight front (key ++ gap ++ (word ++ rest)) (read_numeral_of found s key at word)
right-numeral front key gap [] rest None s depth at here some ends all first e = absurd (omega arith)
right-numeral front key gap (b ∷ word) rest None s depth at here some ends all first e =
    let same : first_word (b ∷ (word ++ rest)) ≡ b ∷ word = take_while-front is_word_byte (b ∷ word) rest all ends in
    value_fault front key gap (b ∷ (word ++ rest)) s depth at BadNumeral here
    (bad_numeral depth (front ++ key ++ gap) b (word ++ rest) (value_place here)
    (value_apart front key gap b (word ++ rest) s depth at here (and-left (is_word_byte b) (list_all is_word_byte word) all)) first
    (λ n parts. none-kind_of (b ∷ word) e n (subst (λ word. HasParts word n) same parts)))
right-numeral front key gap word rest (Some kind) s depth at here some ends all first e =
    right-value front key gap (word ++ rest) word rest (numeral_value kind word) s depth at here refl
    (λ begin. here.apart (begins_with_word-append word rest some ∙ begin)) (has-numeral depth at word kind e)
    (inr (sym (begins-word rest) ∙ ends))

right-list : (front key gap text : List ℕ) (s : ReaderState) (depth at : ℕ) → IsPlace front key gap (91 ∷ text) s depth at →
    IsRight front (key ++ gap ++ 91 ∷ text) (begin_list s key at)
right-list front key gap text s depth at here = go (leb MOST_DEPTH (length s.parents)) refl
  where
    parent : Parent
    parent = record { before = s.pairs; key = key; at = at }

    go : (test : Bool) → leb MOST_DEPTH (length s.parents) ≡ test → IsRight front (key ++ gap ++ 91 ∷ text) (begin_list s key at)
    go true e = right front (key ++ gap ++ 91 ∷ text) (begin_list s key at) (stops (record { at = at; kind = TooDeep })) (cond-true (leb MOST_DEPTH (length s.parents)) _ _ e)
        (value_fault front key gap (91 ∷ text) s depth at TooDeep here
        (too_deep (front ++ key ++ gap) text (subst (λ depth. ValuePlace depth (front ++ key ++ gap)) (omega (arith, leb-most (length s.parents) e, Opened-depth here.opened, Opened-most here.opened)) (value_place here))))
    go false e =
        let room : depth < MOST_DEPTH = omega (arith, leb-less (length s.parents) e, Opened-depth here.opened) in
        right front (key ++ gap ++ 91 ∷ text) (begin_list s key at) (goes_on (record { parents = record { before = s.pairs; key = key; at = at } ∷ s.parents; pairs = []; at = at + 1 })) (cond-false (leb MOST_DEPTH (length s.parents)) _ _ e)
        (inl (record {
          taken = key ++ gap ++ 91 ∷ [];
          rest = text;
          depth = suc depth;
          split = sym (append_assoc (key ++ gap) (91 ∷ []) text);
          some = omega (arith, length-append (key ++ gap) (91 ∷ []));
          place = omega (arith, here.place, length-append front (key ++ gap ++ 91 ∷ []), length-append (key ++ gap) (91 ∷ []), length-append (front ++ key) gap, length-append front key, length-append key gap);
          opened = open_one here.opened here.ends key gap at here.is_one here.spaces room here.place;
          joins = inl (ends_in_word-append front (key ++ gap ++ 91 ∷ []) (omega (arith, length-append (key ++ gap) (91 ∷ []))) ∙ ends_in_word-append (key ++ gap) (91 ∷ []) (omega arith));
        }))

-- what stands after a key and white space
right-value_at : (front key gap text : List ℕ) (s : ReaderState) (depth at : ℕ) → IsPlace front key gap text s depth at → begins is_space text ≡ false →
    IsRight front (key ++ gap ++ text) (read_value s key at text)
right-value_at front key gap [] s depth at here ends =
    let all : List ℕ = front ++ key ++ gap in
    value_fault front key gap [] s depth at BadValue here
    (subst (λ text. FirstFault text (record { at = length all; kind = BadValue })) (sym (append-nil all)) (no_value depth all (value_place here)))
right-value_at front key gap (b ∷ text) s depth at here ends = go (eqb b 34) (eqb b 91) (begins_numeral b) refl refl refl
  where
    go : (quote list numeral : Bool) → eqb b 34 ≡ quote → eqb b 91 ≡ list → begins_numeral b ≡ numeral →
        IsRight front (key ++ gap ++ b ∷ text) (read_value s key at (b ∷ text))
    go true list numeral e f g =
        subst (λ b. IsRight front (key ++ gap ++ b ∷ text) (read_value s key at (b ∷ text))) (sym (eqb-true b 34 e))
        (right-string front key gap text s depth at (subst (λ b. IsPlace front key gap (b ∷ text) s depth at) (eqb-true b 34 e) here))
    go false true numeral e f g =
        subst (λ b. IsRight front (key ++ gap ++ b ∷ text) (read_value s key at (b ∷ text))) (sym (eqb-true b 91 f))
        (right-list front key gap text s depth at (subst (λ b. IsPlace front key gap (b ∷ text) s depth at) (eqb-true b 91 f) here))
    go false false true e f g =
        let word : List ℕ = take_while is_word_byte (b ∷ text) in
        let rest : List ℕ = drop (prefix_len is_word_byte (b ∷ text)) (b ∷ text) in
        let split : word ++ rest ≡ b ∷ text = take-append-drop (prefix_len is_word_byte (b ∷ text)) (b ∷ text) in
        let size : length word ≡ prefix_len is_word_byte (b ∷ text) = length-prefix_len is_word_byte (b ∷ text) in
        let one : prefix_len is_word_byte (b ∷ text) ≡ suc (prefix_len is_word_byte text) = prefix_len-yes is_word_byte b text (begins_numeral-word b g) in
        right front (key ++ gap ++ b ∷ text) (read_value s key at (b ∷ text)) (read_numeral s key at (b ∷ text))
        (cond-false (eqb b 34) _ _ e ∙ (cond-false (eqb b 91) _ _ f ∙ cond-true (begins_numeral b) _ _ g))
        (subst (λ text. IsRight front (key ++ gap ++ text) (read_numeral_of (kind_of word) s key at word)) split
        (right-numeral front key gap word rest (kind_of word) s depth at (subst (λ text. IsPlace front key gap text s depth at) (sym split) here)
        (omega arith) (begins-drop_while is_word_byte (b ∷ text)) (list_all-take_while is_word_byte (b ∷ text))
        (ap (λ n. begins begins_numeral (take n (b ∷ text))) one ∙ g) refl))
    go false false false e f g =
        right front (key ++ gap ++ b ∷ text) (read_value s key at (b ∷ text)) (stops (record { at = at; kind = BadValue }))
        (cond-false (eqb b 34) _ _ e ∙ (cond-false (eqb b 91) _ _ f ∙ cond-false (begins_numeral b) _ _ g))
        (value_fault front key gap (b ∷ text) s depth at BadValue here
        (bad_value depth (front ++ key ++ gap) b text (value_place here) ends e f g (value_apart front key gap b text s depth at here)))

gap-apart : (gap text : List ℕ) → begins is_word_byte (gap ++ text) ≡ false → begins_with_word text ≡ true → gap ≡ [] → ⊥
gap-apart gap text ends begin none =
    let h : begins is_word_byte text ≡ false = subst (λ gap. begins is_word_byte (gap ++ text) ≡ false) none ends in
    let e : begins_with_word text ≡ false = sym (begins-word text) ∙ h in absurd cc

-- a key, white space and what follows
right-key : (front key gap text : List ℕ) (s : ReaderState) (depth : ℕ) → Opened depth front s.parents s.pairs → s.at ≡ length front → ends_in_word front ≡ false →
    is_key key ≡ true → are_spaces gap ≡ true → begins is_space text ≡ false → begins is_word_byte (gap ++ text) ≡ false →
    IsRight front (key ++ gap ++ text) (read_after s key (gap ++ text))
right-key front key gap text s depth opened place ends is_one spaces begin apart =
    let at : ℕ = s.at + (length key + length gap) in
    right front (key ++ gap ++ text) (read_after s key (gap ++ text)) (read_value s key at text) (read_after-key s key gap text is_one spaces begin)
    (right-value_at front key gap text s depth at (record {
      opened = opened;
      ends = ends;
      is_one = is_one;
      spaces = spaces;
      apart = gap-apart gap text apart;
      place = omega (arith, length-append (front ++ key) gap, length-append front key);
      some = omega (arith, length-append key gap, is_key-some key is_one);
    }) begin)

right-word : (front word rest : List ℕ) (s : ReaderState) (depth : ℕ) → Opened depth front s.parents s.pairs → s.at ≡ length front → Joins front (word ++ rest) →
    list_all is_word_byte word ≡ true → begins is_word_byte rest ≡ false →
    (is_key word ≡ false → FirstFault (front ++ (word ++ rest)) (record { at = length front; kind = BadKey })) →
    IsRight front (word ++ rest) (read_after s word rest)
right-word front word rest s depth opened place joins all ends bad = go (is_key word) refl
  where
    go : (test : Bool) → is_key word ≡ test → IsRight front (word ++ rest) (read_after s word rest)
    go true e =
        let gap : List ℕ = take_while is_space rest in
        let text : List ℕ = drop (prefix_len is_space rest) rest in
        let split : gap ++ text ≡ rest = take-append-drop (prefix_len is_space rest) rest in
        subst (λ rest. IsRight front (word ++ rest) (read_after s word rest)) split
        (subst (λ whole. IsRight front whole (read_after s word (gap ++ text))) (append_assoc word gap text)
        (right-key front word gap text s depth opened place (word_apart front word rest joins all (is_key-some word e)) e
        (list_all-take_while is_space rest) (begins-drop_while is_space rest) (subst (λ rest. begins is_word_byte rest ≡ false) (sym split) ends)))
    go false e = right front (word ++ rest) (read_after s word rest) (stops (record { at = s.at; kind = BadKey })) (cond-false (is_key word) _ _ e)
        (fault_moved (front ++ (word ++ rest)) (length front) s.at BadKey (sym place) (bad e))

right-step : (front text : List ℕ) (s : ReaderState) (depth : ℕ) → Opened depth front s.parents s.pairs → s.at ≡ length front → Joins front text →
    0 < length text → IsRight front text (reader_step s text)
right-step front [] s depth opened place joins some = absurd (omega arith)
right-step front (b ∷ text) s depth opened place joins some = go (is_space b) (eqb b 35) (eqb b 93) refl refl refl
  where
    go : (space comment close : Bool) → is_space b ≡ space → eqb b 35 ≡ comment → eqb b 93 ≡ close → IsRight front (b ∷ text) (reader_step s (b ∷ text))
    go true comment close e f g =
        right front (b ∷ text) (reader_step s (b ∷ text)) (goes_on (moved_to s (s.at + 1))) (step-space s b text e) (right-space front b text s depth opened place e)
    go false true close e f g =
        let p : ℕ → Bool = λ b. not (eqb b 10) in
        let split : take_while p text ++ drop (prefix_len p text) text ≡ text = take-append-drop (prefix_len p text) text in
        subst (λ b. IsRight front (b ∷ text) (reader_step s (b ∷ text))) (sym (eqb-true b 35 f))
        (subst (λ text. IsRight front (35 ∷ text) (reader_step s (35 ∷ text))) split
        (right-comment front (take_while p text) (drop (prefix_len p text) text) s depth opened place
        (no_word_before front 35 text (subst (λ b. Joins front (b ∷ text)) (eqb-true b 35 f) joins) refl)
        (list_all-take_while p text) (begins-drop_while p text)))
    go false false true e f g =
        subst (λ b. IsRight front (b ∷ text) (reader_step s (b ∷ text))) (sym (eqb-true b 93 g))
        (right front (93 ∷ text) (reader_step s (93 ∷ text)) (close_in s.parents s.pairs s.at) (step-close s text)
        (right-close front text depth s.parents s.pairs s.at (key_place opened) (Opened-depth opened) (after_close opened) place))
    go false false false e f g =
        let word : List ℕ = take_while is_word_byte (b ∷ text) in
        let rest : List ℕ = drop (prefix_len is_word_byte (b ∷ text)) (b ∷ text) in
        let split : word ++ rest ≡ b ∷ text = take-append-drop (prefix_len is_word_byte (b ∷ text)) (b ∷ text) in
        right front (b ∷ text) (reader_step s (b ∷ text)) (read_after s word rest) (step-other s b text e f g)
        (subst (λ text. IsRight front text (read_after s word rest)) split
        (right-word front word rest s depth opened place (subst (Joins front) (sym split) joins)
        (list_all-take_while is_word_byte (b ∷ text)) (begins-drop_while is_word_byte (b ∷ text))
        (λ no_key. subst (λ text. FirstFault (front ++ text) (record { at = length front; kind = BadKey })) (sym split)
        (bad_key depth front (innermost s.parents) b text (key_place opened) e f g (no_word_before front b text joins) no_key))))

-- the answer from here on is right for the whole text
right-run : (n : ℕ) (front text : List ℕ) (s : ReaderState) (depth : ℕ) → length text ≤ n → Opened depth front s.parents s.pairs → s.at ≡ length front →
    Joins front text → Answers (front ++ text) (run 0 s text)
right-run n front [] s depth fits opened place joins =
    subst (λ text. Answers text (finish s)) (sym (append-nil front)) (finish-right opened)
right-run zero front (b ∷ text) s depth fits opened place joins = absurd (omega arith)
right-run (suc n) front (b ∷ text) s depth fits opened place joins =
    go (reader_step s (b ∷ text)) refl (right-step front (b ∷ text) s depth opened place joins (omega arith))
    (λ next is. right-run n (front ++ is.taken) is.rest next is.depth (omega (arith, ap length is.split, length-append is.taken is.rest, is.some)) is.opened is.place is.joins)
  where
    go : (step : ReaderStep) → reader_step s (b ∷ text) ≡ step → IsRight front (b ∷ text) step →
        ((next : ReaderState) (is : IsNext front (b ∷ text) next) → Answers ((front ++ is.taken) ++ is.rest) (run 0 next is.rest)) →
        Answers (front ++ b ∷ text) (run 0 s (b ∷ text))
    go (goes_on next) e (inl is) after =
        let move : run 0 s (is.taken ++ is.rest) ≡ run 0 next is.rest =
        run-goes_on s next is.taken is.rest is.some (ap (reader_step s) (sym is.split) ∙ e) (omega (arith, is.place, length-append front is.taken)) in
        subst (λ text. Answers (front ++ text) (run 0 s text)) (sym is.split)
        (subst (Answers (front ++ (is.taken ++ is.rest))) (sym move)
        (subst (λ text. Answers text (run 0 next is.rest)) (append_assoc front is.taken is.rest) (after next is)))
    go (goes_on next) e (inr is) after =
        let none : (b ∷ text) ++ [] ≡ b ∷ text = append-nil (b ∷ text) in
        let move : run 0 s ((b ∷ text) ++ []) ≡ run 0 next [] =
        run-goes_on s next (b ∷ text) [] (omega arith) (ap (reader_step s) none ∙ e) (omega (arith, is.place, length-append front (b ∷ text))) in
        subst (Answers (front ++ b ∷ text)) (sym (ap (run 0 s) (sym none) ∙ move)) is.answers
    go (stops fault) e h after = subst (Answers (front ++ b ∷ text)) (sym (run-stops s (b ∷ text) fault (omega arith) e)) h

pub answer_of-right : (text : List ℕ) → Answers text (answer_of text)
answer_of-right text = right-run (length text) [] text at_the_start 0 (omega arith) (outside [] [] (no_more 0 0)) refl (inl refl)
