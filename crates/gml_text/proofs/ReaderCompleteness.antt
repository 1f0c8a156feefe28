-- The reader's function reads what is spelled so.
use Rattle.std.proofs.Common.{◌≡◌, ℕ, suc, ◌+◌, ◌<◌, ◌⊎◌, inl, inr, Bool, true, false, List, [], ◌∷◌, ◌++◌, length, Some, Ok, refl, sym, ◌∙◌, ap, arith, length-append, append_assoc}
use Rattle.std.proofs.lemmas.List.{append-nil}
use Rattle.gml_text.specs.declared.number.NumeralKind.{NumeralKind}
use Rattle.gml_text.specs.declared.number.NumeralKind.TheVariants as kinds
use Rattle.gml_text.specs.declared.reader.Parent.{Parent}
use Rattle.gml_text.specs.declared.tree.Tree.{Tree, roll-Tree, roll-out-Tree}
use Rattle.gml_text.specs.declared.tree.Pair.{Pair}
use Rattle.gml_text.specs.declared.tree.Value.{Value}
use Rattle.gml_text.specs.declared.tree.Value.TheVariants.{Text, Inner}
use Rattle.gml_text.specs.Bytes.{is_space, is_key, are_spaces, begins_numeral, begins_with_word, ends_in_word}
use Rattle.gml_text.specs.NumeralKinds.{kind_of}
use Rattle.gml_text.specs.Texts.{Pairs, OnePair, HasValue, no_more, a_space, a_comment, one_more, a_pair, a_whole_numeral, a_real_numeral, a_string, a_list, IsText, to_the_end, in_a_comment, Spells}
use Rattle.gml_text.specs.declared.limits.TheConstants.{MOST_DEPTH}
use Rattle.gml_text.specs.inner.Reading.{ReaderState, ReaderStep, goes_on, reader_step, run, answer_of, at_the_start, moved_to, with_pair, read_value, numeral_value}
use Rattle.gml_text.proofs.ByteFacts.{is_space-no_word, begins_numeral-no_space}
use Rattle.gml_text.proofs.NumeralLaws.{kind_of-whole, kind_of-real}
use Rattle.gml_text.proofs.LongestFronts.{begins}
use Rattle.gml_text.proofs.KeysAreWords.{IsNumeralWord, IsNumeralWord-whole, IsNumeralWord-real, ends_in_word-append, ends_in_word-word, begins-some}
use Rattle.gml_text.proofs.ReaderRuns.{run-goes_on}
use Rattle.gml_text.proofs.TokenSteps.{step-space, step-whole_comment, step-last_comment, step-close, step-key, value-string, value-numeral, value-list}

-- no word of the text goes on in the rest
abbrev pub Joins : List ℕ → List ℕ → Type 0
Joins text rest = (ends_in_word text ≡ false) ⊎ (begins_with_word rest ≡ false)

-- more pairs, up to a place
abbrev pub with_pairs : ReaderState → List Pair → ℕ → ReaderState
with_pairs s pairs at = record { parents = s.parents; pairs = s.pairs ++ pairs; at = at }

same_state : (parents : List Parent) (p q : List Pair) (a b : ℕ) → p ≡ q → a ≡ b →
    (let r : ReaderState = record { parents = parents; pairs = p; at = a } in r) ≡ record { parents = parents; pairs = q; at = b }
same_state parents p q a b e h =
    ap (λ pairs. record { parents = parents; pairs = pairs; at = a }) e ∙ ap (λ at. record { parents = parents; pairs = q; at = at }) h

-- the front of a text read, where the rest is read from a state that is the same
same_run : (parents : List Parent) (p q : List Pair) (a b : ℕ) (rest : List ℕ) → p ≡ q → a ≡ b →
    run 0 (record { parents = parents; pairs = p; at = a }) rest ≡ run 0 (record { parents = parents; pairs = q; at = b }) rest
same_run parents p q a b rest e h = ap (λ s. run 0 s rest) (same_state parents p q a b e h)

-- a key, white space and the front of what follows
pub step-value : (s : ReaderState) (key gap text rest : List ℕ) (offset : ℕ) (next : ReaderStep) → is_key key ≡ true → are_spaces gap ≡ true →
    begins is_space (text ++ rest) ≡ false → (begins_with_word (text ++ rest) ≡ true → gap ≡ [] → ⊥) →
    offset ≡ s.at + (length key + length gap) → read_value s key offset (text ++ rest) ≡ next →
    reader_step s ((key ++ gap ++ text) ++ rest) ≡ next
step-value s key gap text rest offset next is_one spaces ends apart place value =
    let regrouped : (key ++ gap ++ text) ++ rest ≡ key ++ (gap ++ (text ++ rest)) = simp append_assoc in
    ap (reader_step s) regrouped
    ∙ (step-key s key gap (text ++ rest) is_one spaces ends apart
    ∙ (ap (λ at. read_value s key at (text ++ rest)) (sym place) ∙ value))

pub begins-append : (p : ℕ → Bool) (text rest : List ℕ) (test : Bool) → begins p text ≡ test → 0 < length text → begins p (text ++ rest) ≡ test
begins-append p [] rest test e some = absurd (omega arith)
begins-append p (b ∷ text) rest test e some = e

pub begins_with_word-append : (text rest : List ℕ) → 0 < length text → begins_with_word (text ++ rest) ≡ begins_with_word text
begins_with_word-append [] rest some = absurd (omega arith)
begins_with_word-append (b ∷ text) rest some = refl

pub numeral-no_space : (word : List ℕ) → begins begins_numeral word ≡ true → begins is_space word ≡ false
numeral-no_space [] h = refl
numeral-no_space (b ∷ word) h = begins_numeral-no_space b h

pub joins-word : (word rest : List ℕ) → IsNumeralWord word → Joins word rest → begins_with_word rest ≡ false
joins-word word rest numeral (inl e) =
    let h : ends_in_word word ≡ true = ends_in_word-word word (begins-some begins_numeral word numeral.first) numeral.all in absurd cc
joins-word word rest numeral (inr e) = e

joins-append : (front text rest : List ℕ) → 0 < length text → Joins (front ++ text) rest → Joins text rest
joins-append front text rest some (inl e) = inl (sym (ends_in_word-append front text some) ∙ e)
joins-append front text rest some (inr e) = inr e

-- a numeral is read whole
run-numeral : (s : ReaderState) (key gap word rest : List ℕ) (offset : ℕ) (kind : NumeralKind) → is_key key ≡ true → are_spaces gap ≡ true →
    (begins_with_word word ≡ true → gap ≡ [] → ⊥) → offset ≡ s.at + (length key + length gap) → kind_of word ≡ Some kind →
    IsNumeralWord word → Joins word rest →
    run 0 s ((key ++ gap ++ word) ++ rest) ≡ run 0 (with_pair s (record { key = key; value = numeral_value kind word; at = offset }) (offset + length word)) rest
run-numeral s key gap word rest offset kind is_one spaces apart place kind_is numeral joins =
    let some : 0 < length word = begins-some begins_numeral word numeral.first in
    let next : ReaderState = with_pair s (record { key = key; value = numeral_value kind word; at = offset }) (offset + length word) in
    let size : length (key ++ gap ++ word) ≡ length key + length gap + length word = simp length-append refl in
    run-goes_on s next (key ++ gap ++ word) rest (omega arith)
    (step-value s key gap word rest offset (goes_on next) is_one spaces
    (begins-append is_space word rest false (numeral-no_space word numeral.first) some)
    (λ begin. apart (sym (begins_with_word-append word rest some) ∙ begin)) place
    (value-numeral s key offset word rest kind kind_is numeral.all numeral.first (joins-word word rest numeral joins)))
    (omega arith)

pub HasValue-some : {depth offset : ℕ} {text : List ℕ} {value : Value} → HasValue depth offset text value → 0 < length text
HasValue-some (a_whole_numeral depth offset word whole) = begins-some begins_numeral word (IsNumeralWord-whole word whole).first
HasValue-some (a_real_numeral depth offset word real) = begins-some begins_numeral word (IsNumeralWord-real word real).first
HasValue-some (a_string depth offset inside h) = omega arith
HasValue-some (a_list depth offset inside pairs room h) = omega arith

OnePair-some : {depth offset : ℕ} {piece : List ℕ} {pair : Pair} → OnePair depth offset piece pair → 0 < length piece
OnePair-some (a_pair depth offset key gap text value is_one spaces apart h) =
    omega (arith, length-append (key ++ gap) text, HasValue-some h)

mutual
  pub run-pairs : {depth offset : ℕ} {text : List ℕ} {pairs : List Pair} → Pairs depth offset text pairs → (s : ReaderState) (rest : List ℕ) →
      length s.parents ≡ depth → s.at ≡ offset → Joins text rest → run 0 s (text ++ rest) ≡ run 0 (with_pairs s pairs (offset + length text)) rest
  run-pairs (no_more depth offset) s rest deep place joins =
      same_run s.parents s.pairs (s.pairs ++ []) s.at (offset + 0) rest (sym (append-nil s.pairs)) (omega arith)
  run-pairs (a_space depth offset text pairs b before space) s rest deep place joins =
      let there : ReaderState = with_pairs s pairs (offset + length text) in
      ap (run 0 s) (append_assoc text (b ∷ []) rest)
      ∙ (run-pairs before s (b ∷ rest) deep place (inr (is_space-no_word b space))
      ∙ (run-goes_on there (moved_to there (there.at + 1)) (b ∷ []) rest (omega arith) (step-space there b rest space) refl
      ∙ same_run s.parents (s.pairs ++ pairs) (s.pairs ++ pairs) (there.at + 1) (offset + length (text ++ b ∷ [])) rest refl (omega (arith, length-append text (b ∷ [])))))
  run-pairs (a_comment depth offset text pairs words before ends h) s rest deep place joins =
      let there : ReaderState = with_pairs s pairs (offset + length text) in
      let regrouped : (text ++ 35 ∷ words ++ 10 ∷ []) ++ rest ≡ text ++ 35 ∷ (words ++ 10 ∷ rest) = simp append_assoc in
      let same : (35 ∷ words ++ 10 ∷ []) ++ rest ≡ 35 ∷ (words ++ 10 ∷ rest) = simp append_assoc in
      let size : length (35 ∷ words ++ 10 ∷ []) ≡ length words + 2 = omega (arith, length-append words (10 ∷ [])) in
      let whole : length (text ++ 35 ∷ words ++ 10 ∷ []) ≡ length text + length words + 2 =
      omega (arith, length-append (text ++ 35 ∷ words) (10 ∷ []), length-append text (35 ∷ words)) in
      ap (run 0 s) regrouped
      ∙ (run-pairs before s (35 ∷ (words ++ 10 ∷ rest)) deep place (inl ends)
      ∙ (ap (run 0 there) (sym same)
      ∙ (run-goes_on there (moved_to there (there.at + (length words + 2))) (35 ∷ words ++ 10 ∷ []) rest (omega arith)
      (ap (reader_step there) same ∙ step-whole_comment there words rest h) (omega arith)
      ∙ same_run s.parents (s.pairs ++ pairs) (s.pairs ++ pairs) (there.at + (length words + 2)) (offset + length (text ++ 35 ∷ words ++ 10 ∷ [])) rest refl (omega arith))))
  run-pairs (one_more depth offset text pairs piece pair before ends h) s rest deep place joins =
      let there : ReaderState = with_pairs s pairs (offset + length text) in
      ap (run 0 s) (append_assoc text piece rest)
      ∙ (run-pairs before s (piece ++ rest) deep place (inl ends)
      ∙ (run-pair h there rest deep refl (joins-append text piece rest (OnePair-some h) joins)
      ∙ same_run s.parents (s.pairs ++ pairs ++ pair ∷ []) (s.pairs ++ (pairs ++ pair ∷ [])) (offset + length text + length piece) (offset + length (text ++ piece)) rest
      (append_assoc s.pairs pairs (pair ∷ [])) (omega (arith, length-append text piece))))

  pub run-pair : {depth offset : ℕ} {piece : List ℕ} {pair : Pair} → OnePair depth offset piece pair → (s : ReaderState) (rest : List ℕ) →
      length s.parents ≡ depth → s.at ≡ offset → Joins piece rest → run 0 s (piece ++ rest) ≡ run 0 (with_pair s pair (offset + length piece)) rest
  run-pair (a_pair depth offset key gap text value is_one spaces apart h) s rest deep place joins =
      let size : length (key ++ gap ++ text) ≡ length key + length gap + length text = simp length-append refl in
      let pairs : List Pair = s.pairs ++ (record { key = key; value = value; at = offset + length key + length gap }) ∷ [] in
      run-value h s key gap rest deep is_one spaces apart (omega arith) (joins-append (key ++ gap) text rest (HasValue-some h) joins)
      ∙ same_run s.parents pairs pairs (offset + length key + length gap + length text) (offset + length (key ++ gap ++ text)) rest refl (omega arith)

  pub run-value : {depth offset : ℕ} {text : List ℕ} {value : Value} → HasValue depth offset text value → (s : ReaderState) (key gap rest : List ℕ) →
      length s.parents ≡ depth → is_key key ≡ true → are_spaces gap ≡ true → (begins_with_word text ≡ true → gap ≡ [] → ⊥) →
      offset ≡ s.at + (length key + length gap) → Joins text rest →
      run 0 s ((key ++ gap ++ text) ++ rest) ≡ run 0 (with_pair s (record { key = key; value = value; at = offset }) (offset + length text)) rest
  run-value (a_whole_numeral depth offset word whole) s key gap rest deep is_one spaces apart place joins =
      run-numeral s key gap word rest offset kinds.Whole is_one spaces apart place (kind_of-whole word whole) (IsNumeralWord-whole word whole) joins
  run-value (a_real_numeral depth offset word real) s key gap rest deep is_one spaces apart place joins =
      run-numeral s key gap word rest offset kinds.Real is_one spaces apart place (kind_of-real word real) (IsNumeralWord-real word real) joins
  run-value (a_string depth offset inside h) s key gap rest deep is_one spaces apart place joins =
      let next : ReaderState = with_pair s (record { key = key; value = Text inside; at = offset }) (offset + length (34 ∷ inside ++ 34 ∷ [])) in
      let whole : length (key ++ gap ++ (34 ∷ inside ++ 34 ∷ [])) ≡ length key + length gap + length (34 ∷ inside ++ 34 ∷ []) =
      omega (arith, length-append (key ++ gap) (34 ∷ inside ++ 34 ∷ []), length-append key gap) in
      let end : offset + length inside + 2 ≡ offset + length (34 ∷ inside ++ 34 ∷ []) = omega (arith, length-append inside (34 ∷ [])) in
      let same : (34 ∷ inside ++ 34 ∷ []) ++ rest ≡ 34 ∷ (inside ++ 34 ∷ rest) = simp append_assoc in
      run-goes_on s next (key ++ gap ++ (34 ∷ inside ++ 34 ∷ [])) rest (omega arith)
      (step-value s key gap (34 ∷ inside ++ 34 ∷ []) rest offset (goes_on next) is_one spaces refl (λ begin. absurd cc) place
      (ap (read_value s key offset) same ∙ (value-string s key offset inside rest h
      ∙ ap (λ at. goes_on (with_pair s (record { key = key; value = Text inside; at = offset }) at)) end)))
      (omega arith)
  run-value (a_list depth offset inside pairs room h) s key gap rest deep is_one spaces apart place joins =
      let parent : Parent = record { before = s.pairs; key = key; at = offset } in
      let opened : ReaderState = record { parents = parent ∷ s.parents; pairs = []; at = offset + 1 } in
      let done : ReaderState = with_pairs opened pairs (suc offset + length inside) in
      let pair : Pair = record { key = key; value = Inner (roll-Tree (record { pairs = pairs })); at = offset } in
      let next : ReaderState = with_pair s pair (suc offset + length inside + 1) in
      let regrouped : (key ++ gap ++ (91 ∷ inside ++ 93 ∷ [])) ++ rest ≡ (key ++ gap ++ 91 ∷ []) ++ (inside ++ 93 ∷ rest) = simp append_assoc in
      let size : length (key ++ gap ++ 91 ∷ []) ≡ length key + length gap + 1 = omega (arith, length-append (key ++ gap) (91 ∷ []), length-append key gap) in
      let fits : length s.parents < MOST_DEPTH = omega arith in
      ap (run 0 s) regrouped
      ∙ (run-goes_on s opened (key ++ gap ++ 91 ∷ []) (inside ++ 93 ∷ rest) (omega arith)
      (step-value s key gap (91 ∷ []) (inside ++ 93 ∷ rest) offset (goes_on opened) is_one spaces refl (λ begin. absurd cc) place
      (value-list s key offset (inside ++ 93 ∷ rest) fits)) (omega arith)
      ∙ (run-pairs h opened (93 ∷ rest) (omega arith) (omega arith) (inr refl)
      ∙ (run-goes_on done next (93 ∷ []) rest (omega arith) (step-close done rest) refl
      ∙ same_run s.parents (s.pairs ++ pair ∷ []) (s.pairs ++ pair ∷ []) (suc offset + length inside + 1) (offset + length (91 ∷ inside ++ 93 ∷ [])) rest refl
      (omega (arith, length-append inside (93 ∷ []))))))

pub answer_of-text : {text : List ℕ} {pairs : List Pair} → IsText text pairs → answer_of text ≡ Ok (roll-Tree (record { pairs = pairs }))
answer_of-text (to_the_end text pairs h) =
    ap answer_of (sym (append-nil text)) ∙ run-pairs h at_the_start [] refl refl (inr refl)
answer_of-text (in_a_comment text pairs words h ends lack) =
    let there : ReaderState = with_pairs at_the_start pairs (0 + length text) in
    let rest : List ℕ = 35 ∷ words in
    run-pairs h at_the_start rest refl refl (inl ends)
    ∙ (ap (run 0 there) (sym (append-nil rest))
    ∙ run-goes_on there (moved_to there (there.at + suc (length words))) rest [] (omega arith)
    (ap (reader_step there) (append-nil rest) ∙ step-last_comment there words lack) refl)

-- a text is read as the tree that it has
pub answer_of-spelled : (text : List ℕ) (tree : Tree) → Spells text tree → answer_of text ≡ Ok tree
answer_of-spelled text tree h = answer_of-text h ∙ ap Ok (roll-out-Tree tree)
