-- The reader's function finds the first fault.
use Rattle.std.proofs.Common.{◌≡◌, ℕ, suc, ◌+◌, ◌<◌, inl, inr, Bool, true, false, eqb, leb, not, List, [], ◌∷◌, ◌++◌, length, Option, None, Some, Err, refl, sym, ◌∙◌, ap, arith, length-append, append_assoc}
use Rattle.std.specs.List.{prefix_len}
use Rattle.std.proofs.lemmas.List.{append-nil}
use Rattle.std.proofs.lemmas.Bool.{cond-true, cond-false, eq-eqb}
use Rattle.gml_text.specs.declared.fault.GmlFault.{GmlFault}
use Rattle.gml_text.specs.declared.fault.GmlKind.TheVariants.{BadKey, BadValue, BadNumeral, OpenString, OpenList, StrayClose, TooDeep}
use Rattle.gml_text.specs.declared.number.NumeralKind.{NumeralKind}
use Rattle.gml_text.specs.declared.reader.Parent.{Parent}
use Rattle.gml_text.specs.declared.tree.Pair.{Pair}
use Rattle.gml_text.specs.Bytes.{is_space, is_word_byte, is_key, lacks, begins_numeral, begins_with_word, ends_in_word, first_word}
use Rattle.gml_text.specs.Faults.{KeyPlace, ValuePlace, FirstFault, at_the_top, in_a_list, after_a_key, bad_key, no_value, bad_value, bad_numeral, open_string, open_list, open_list_in_a_comment, stray_close, too_deep}
use Rattle.gml_text.specs.Numerals.{Numeral, HasParts}
use Rattle.gml_text.specs.NumeralKinds.{kind_of, parts_of}
use Rattle.gml_text.specs.declared.limits.TheConstants.{MOST_DEPTH}
use Rattle.gml_text.specs.inner.Reading.{ReaderState, goes_on, stops, reader_step, run, finish_in, answer_of, at_the_start, moved_to, close_in, stop_at, read_value, read_inside, read_numeral_of}
use Rattle.gml_text.proofs.ByteFacts.{begins_numeral-no_space, begins_numeral-no_quote, begins_numeral-no_list}
use Rattle.gml_text.proofs.NumeralLaws.{parts-kind_of}
use Rattle.gml_text.proofs.LongestFronts.{begins, prefix_len-front}
use Rattle.gml_text.proofs.KeysAreWords.{is_key-word, is_key-some, ends_in_word-append, ends_in_word-word}
use Rattle.gml_text.proofs.ReaderRuns.{run-goes_on, run-stops}
use Rattle.gml_text.proofs.TokenSteps.{step-other, step-close, step-key, step-last_comment, value-list}
use Rattle.gml_text.proofs.ReadFronts.{innermost}
use Rattle.gml_text.proofs.ReaderCompleteness.{Joins, run-pairs, step-value}

-- what the reader has read of a text after which a key may stand
pub record IsReached (depth : ℕ) (text : List ℕ) (around : Option ℕ) : Type 0 where
  pub parents : List Parent
  pub pairs : List Pair
  pub deep : length parents ≡ depth
  pub inner : innermost parents ≡ around
  pub reads : (rest : List ℕ) → Joins text rest →
      run 0 at_the_start (text ++ rest) ≡ run 0 (record { parents = parents; pairs = pairs; at = length text }) rest

joins-inside : (front inside rest : List ℕ) → Joins (front ++ 91 ∷ inside) rest → Joins inside rest
joins-inside front inside rest (inl e) = inl (sym (ends_in_word-append front (91 ∷ inside) (omega arith)) ∙ e)
joins-inside front inside rest (inr e) = inr e

place_after : (front key gap : List ℕ) → length (front ++ key ++ gap) ≡ length front + (length key + length gap)
place_after front key gap = omega (arith, length-append (front ++ key) gap, length-append front key)

pub reached : {depth : ℕ} {text : List ℕ} {around : Option ℕ} → KeyPlace depth text around → IsReached depth text around
reached (at_the_top text pairs h) = record {
  parents = [];
  pairs = pairs;
  deep = refl;
  inner = refl;
  reads = λ rest joins. run-pairs h at_the_start rest refl refl joins ∙ ap (λ at. run 0 (record { parents = []; pairs = pairs; at = at }) rest) (omega arith);
}
reached (in_a_list depth front around key gap inside pairs outer ends is_one spaces room h) =
    let before : IsReached depth front around = reached outer in
    let begin : List ℕ = front ++ key ++ gap in
    let there : ReaderState = record { parents = before.parents; pairs = before.pairs; at = length front } in
    let parent : Parent = record { before = before.pairs; key = key; at = length begin } in
    let opened : ReaderState = record { parents = parent ∷ before.parents; pairs = []; at = length begin + 1 } in
    let place : length begin ≡ length front + (length key + length gap) = place_after front key gap in
    let fits : length before.parents < MOST_DEPTH = omega (arith, before.deep) in
    record {
      parents = parent ∷ before.parents;
      pairs = pairs;
      deep = ap suc before.deep;
      inner = refl;
      reads = λ rest joins.
          let regrouped : (begin ++ 91 ∷ inside) ++ rest ≡ front ++ ((key ++ gap ++ 91 ∷ []) ++ (inside ++ rest)) = simp append_assoc in
          let size : length (key ++ gap ++ 91 ∷ []) ≡ length key + length gap + 1 = omega (arith, length-append (key ++ gap) (91 ∷ []), length-append key gap) in
          let end : length begin + 1 + length inside ≡ length (begin ++ 91 ∷ inside) = omega (arith, length-append begin (91 ∷ inside)) in
          ap (run 0 at_the_start) regrouped
          ∙ (before.reads ((key ++ gap ++ 91 ∷ []) ++ (inside ++ rest)) (inl ends)
          ∙ (run-goes_on there opened (key ++ gap ++ 91 ∷ []) (inside ++ rest) (omega arith)
          (step-value there key gap (91 ∷ []) (inside ++ rest) (length begin) (goes_on opened) is_one spaces refl (λ begin. absurd cc) place
          (value-list there key (length begin) (inside ++ rest) fits)) (omega arith)
          ∙ (run-pairs h opened rest (ap suc before.deep) refl (joins-inside begin inside rest joins)
          ∙ ap (λ at. run 0 (record { parents = parent ∷ before.parents; pairs = pairs; at = at }) rest) end)));
    }

apart_from : (front key gap text : List ℕ) → is_key key ≡ true → (begins_with_word text ≡ true → ends_in_word (front ++ key ++ gap) ≡ false) →
    begins_with_word text ≡ true → gap ≡ [] → ⊥
apart_from front key gap text is_one apart begin none =
    let word : ends_in_word (front ++ key ++ gap) ≡ true =
    ap (λ gap. ends_in_word (front ++ key ++ gap)) none
    ∙ (ap ends_in_word (append-nil (front ++ key))
    ∙ (ends_in_word-append front key (is_key-some key is_one) ∙ ends_in_word-word key (is_key-some key is_one) (is_key-word key is_one))) in
    let other = apart begin in cc

-- a fault where a value must stand
value-stops : {depth : ℕ} {text : List ℕ} → ValuePlace depth text → (rest : List ℕ) (fault : GmlFault) → begins is_space rest ≡ false →
    (begins_with_word rest ≡ true → ends_in_word text ≡ false) →
    ((s : ReaderState) (key : List ℕ) → length s.parents ≡ depth → read_value s key (length text) rest ≡ stops fault) →
    run 0 at_the_start (text ++ rest) ≡ Err fault
value-stops (after_a_key depth front around key gap before ends is_one spaces) rest fault begin apart found =
    let here : IsReached depth front around = reached before in
    let there : ReaderState = record { parents = here.parents; pairs = here.pairs; at = length front } in
    let regrouped : (front ++ key ++ gap) ++ rest ≡ front ++ (key ++ (gap ++ rest)) = simp append_assoc in
    ap (run 0 at_the_start) regrouped
    ∙ (here.reads (key ++ (gap ++ rest)) (inl ends)
    ∙ run-stops there (key ++ (gap ++ rest)) fault (omega (arith, length-append key (gap ++ rest), is_key-some key is_one))
    (step-key there key gap rest is_one spaces begin (apart_from front key gap rest is_one apart)
    ∙ (ap (λ at. read_value there key at rest) (sym (place_after front key gap)) ∙ found there key here.deep)))

joins-byte : (front : List ℕ) (b : ℕ) (rest : List ℕ) → (is_word_byte b ≡ true → ends_in_word front ≡ false) → Joins front (b ∷ rest)
joins-byte front b rest apart = go (is_word_byte b) refl
  where
    go : (test : Bool) → is_word_byte b ≡ test → Joins front (b ∷ rest)
    go true e = inl (apart e)
    go false e = inr e

none-kind : (word : List ℕ) → ((n : Numeral) → HasParts word n → ⊥) → kind_of word ≡ None
none-kind word none = go (kind_of word) refl
  where
    go : (found : Option NumeralKind) → kind_of word ≡ found → kind_of word ≡ None
    go None e = e
    go (Some kind) e = absurd (none (parts_of word) (parts-kind_of word kind e))

finish-inner : (parents : List Parent) (pairs : List Pair) (at : ℕ) → innermost parents ≡ Some at →
    finish_in parents pairs ≡ Err (record { at = at; kind = OpenList })
finish-inner [] pairs at e = absurd cc
finish-inner (parent ∷ parents) pairs at e = let same : parent.at ≡ at = cc in ap (λ at. Err (record { at = at; kind = OpenList })) same

close-outside : (parents : List Parent) (pairs : List Pair) (at : ℕ) → length parents ≡ 0 → close_in parents pairs at ≡ stop_at at StrayClose
close-outside [] pairs at e = refl
close-outside (parent ∷ parents) pairs at e = absurd (omega arith)

lacks-all : (text : List ℕ) → lacks 34 text ≡ true → prefix_len (λ b. not (eqb b 34)) text ≡ length text
lacks-all text h = ap (prefix_len (λ b. not (eqb b 34))) (sym (append-nil text)) ∙ prefix_len-front (λ b. not (eqb b 34)) text [] h refl

pub answer_of-fault : {text : List ℕ} {fault : GmlFault} → FirstFault text fault → answer_of text ≡ Err fault
answer_of-fault (bad_key depth front around b rest before space comment close apart no_key) =
    let here : IsReached depth front around = reached before in
    let there : ReaderState = record { parents = here.parents; pairs = here.pairs; at = length front } in
    here.reads (b ∷ rest) (joins-byte front b rest apart)
    ∙ run-stops there (b ∷ rest) (record { at = length front; kind = BadKey }) (omega arith)
    (step-other there b rest space comment close ∙ cond-false (is_key (first_word (b ∷ rest))) _ _ no_key)
answer_of-fault (no_value depth text place) =
    ap (run 0 at_the_start) (sym (append-nil text))
    ∙ value-stops place [] (record { at = length text; kind = BadValue }) refl (λ begin. absurd cc) (λ s key deep. refl)
answer_of-fault (bad_value depth front b rest place space quote list numeral apart) =
    value-stops place (b ∷ rest) (record { at = length front; kind = BadValue }) space apart
    (λ s key deep. cond-false (eqb b 34) _ _ quote ∙ (cond-false (eqb b 91) _ _ list ∙ cond-false (begins_numeral b) _ _ numeral))
answer_of-fault (bad_numeral depth front b rest place ends numeral none) =
    value-stops place (b ∷ rest) (record { at = length front; kind = BadNumeral }) (begins_numeral-no_space b numeral) (λ begin. ends)
    (λ s key deep. cond-false (eqb b 34) _ _ (begins_numeral-no_quote b numeral)
    ∙ (cond-false (eqb b 91) _ _ (begins_numeral-no_list b numeral)
    ∙ (cond-true (begins_numeral b) _ _ numeral
    ∙ ap (λ found. read_numeral_of found s key (length front) (first_word (b ∷ rest))) (none-kind (first_word (b ∷ rest)) none))))
answer_of-fault (open_string depth front rest place lack) =
    value-stops place (34 ∷ rest) (record { at = length front; kind = OpenString }) refl (λ begin. absurd cc)
    (λ s key deep. ap (read_inside s key (length front) rest) (lacks-all rest lack)
    ∙ cond-true (eqb (length rest) (length rest)) _ _ (eq-eqb (length rest) (length rest) refl))
answer_of-fault (open_list depth text at before) =
    let here : IsReached depth text (Some at) = reached before in
    ap (run 0 at_the_start) (sym (append-nil text)) ∙ (here.reads [] (inr refl) ∙ finish-inner here.parents here.pairs at here.inner)
answer_of-fault (open_list_in_a_comment depth front at words before ends lack) =
    let here : IsReached depth front (Some at) = reached before in
    let there : ReaderState = record { parents = here.parents; pairs = here.pairs; at = length front } in
    let last : List ℕ = 35 ∷ words in
    here.reads last (inl ends)
    ∙ (ap (run 0 there) (sym (append-nil last))
    ∙ (run-goes_on there (moved_to there (there.at + suc (length words))) last [] (omega arith)
    (ap (reader_step there) (append-nil last) ∙ step-last_comment there words lack) refl
    ∙ finish-inner here.parents here.pairs at here.inner))
answer_of-fault (stray_close front rest before) =
    let here : IsReached 0 front None = reached before in
    let there : ReaderState = record { parents = here.parents; pairs = here.pairs; at = length front } in
    here.reads (93 ∷ rest) (inr refl)
    ∙ run-stops there (93 ∷ rest) (record { at = length front; kind = StrayClose }) (omega arith)
    (step-close there rest ∙ close-outside here.parents here.pairs (length front) here.deep)
answer_of-fault (too_deep front rest place) =
    value-stops place (91 ∷ rest) (record { at = length front; kind = TooDeep }) refl (λ begin. absurd cc)
    (λ s key deep. cond-true (leb MOST_DEPTH (length s.parents)) _ _ (ap (leb MOST_DEPTH) deep))
