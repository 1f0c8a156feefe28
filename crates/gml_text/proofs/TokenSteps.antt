-- What the reader's function does at each kind of front of a text.
use Rattle.std.proofs.Common.{◌≡◌, ℕ, suc, ◌+◌, ◌<◌, true, false, eqb, leb, List, [], ◌∷◌, ◌++◌, length, drop, min, not, Some, refl, sym, ◌∙◌, ap, arith, length-append}
use Rattle.std.specs.List.{prefix_len, list_all}
use Rattle.std.proofs.lemmas.List.{take_at, append-nil}
use Rattle.std.proofs.lemmas.Bool.{cond-true, cond-false}
use Rattle.std.proofs.lemmas.Bool.Decides.{nat_tests}
use Rattle.gml_text.specs.declared.number.NumeralKind.{NumeralKind}
use Rattle.gml_text.specs.declared.tree.Value.TheVariants.{Text}
use Rattle.gml_text.specs.Bytes.{is_space, is_word_byte, is_key, are_spaces, lacks, begins_key, begins_numeral, begins_with_word}
use Rattle.gml_text.specs.NumeralKinds.{kind_of}
use Rattle.gml_text.specs.declared.limits.TheConstants.{MOST_DEPTH}
use Rattle.gml_text.specs.inner.Reading.{ReaderState, goes_on, reader_step, moved_to, with_pair, after_comment, close_list, read_inside, numeral_value, read_numeral_of, read_value, read_after, read_pair}
use Rattle.gml_text.proofs.ByteFacts.{begins_key-no_space, begins_key-no_comment, begins_key-no_close, begins_numeral-no_quote, begins_numeral-no_list}
use Rattle.gml_text.proofs.LongestFronts.{begins, and-left, prefix_len-front, take_while-front, drop_while-front}
use Rattle.gml_text.proofs.KeysAreWords.{is_key-word, gap-no_word, begins-word}

pub eqb-less : (a b : ℕ) → a < b → eqb a b ≡ false
eqb-less a b h = grind (arith, nat_tests)

leb-more : (a : ℕ) → a < 64 → leb 64 a ≡ false
leb-more a h = grind (arith, nat_tests)

-- a space
pub step-space : (s : ReaderState) (b : ℕ) (rest : List ℕ) → is_space b ≡ true → reader_step s (b ∷ rest) ≡ goes_on (moved_to s (s.at + 1))
unfolding reader_step
step-space s b rest h = cond-true (is_space b) _ _ h

-- a `#`
pub step-comment : (s : ReaderState) (rest : List ℕ) → reader_step s (35 ∷ rest) ≡ goes_on (after_comment s (35 ∷ rest))
unfolding reader_step
step-comment s rest = refl

-- a `]`
pub step-close : (s : ReaderState) (rest : List ℕ) → reader_step s (93 ∷ rest) ≡ close_list s
unfolding reader_step
step-close s rest = refl

-- anything else
pub step-other : (s : ReaderState) (b : ℕ) (rest : List ℕ) → is_space b ≡ false → eqb b 35 ≡ false → eqb b 93 ≡ false →
    reader_step s (b ∷ rest) ≡ read_pair s (b ∷ rest)
unfolding reader_step
step-other s b rest space comment close =
    cond-false (is_space b) _ _ space ∙ (cond-false (eqb b 35) _ _ comment ∙ cond-false (eqb b 93) _ _ close)

-- a comment with its line feed
pub step-whole_comment : (s : ReaderState) (words rest : List ℕ) → lacks 10 words ≡ true →
    reader_step s (35 ∷ (words ++ 10 ∷ rest)) ≡ goes_on (moved_to s (s.at + (length words + 2)))
step-whole_comment s words rest h =
    let size : prefix_len (λ b. not (eqb b 10)) (35 ∷ (words ++ 10 ∷ rest)) ≡ suc (length words) =
    prefix_len-front (λ b. not (eqb b 10)) (35 ∷ words) (10 ∷ rest) h refl in
    let count : s.at + min (prefix_len (λ b. not (eqb b 10)) (35 ∷ (words ++ 10 ∷ rest)) + 1) (length (35 ∷ (words ++ 10 ∷ rest))) ≡ s.at + (length words + 2) =
    omega (arith, size, length-append words (10 ∷ rest)) in
    step-comment s (words ++ 10 ∷ rest) ∙ ap (λ at. goes_on (moved_to s at)) count

-- a comment up to the text's end
pub step-last_comment : (s : ReaderState) (words : List ℕ) → lacks 10 words ≡ true → reader_step s (35 ∷ words) ≡ goes_on (moved_to s (s.at + suc (length words)))
step-last_comment s words h =
    let size : prefix_len (λ b. not (eqb b 10)) (35 ∷ words) ≡ suc (length words) =
    ap (prefix_len (λ b. not (eqb b 10))) (sym (append-nil (35 ∷ words))) ∙ prefix_len-front (λ b. not (eqb b 10)) (35 ∷ words) [] h refl in
    let count : s.at + min (prefix_len (λ b. not (eqb b 10)) (35 ∷ words) + 1) (length (35 ∷ words)) ≡ s.at + suc (length words) = omega (arith, size) in
    step-comment s words ∙ ap (λ at. goes_on (moved_to s at)) count

pub read_after-key : (s : ReaderState) (key gap text : List ℕ) → is_key key ≡ true → are_spaces gap ≡ true → begins is_space text ≡ false →
    read_after s key (gap ++ text) ≡ read_value s key (s.at + (length key + length gap)) text
read_after-key s key gap text is_one spaces ends =
    cond-true (is_key key) _ _ is_one
    ∙ (ap (λ taken. read_value s key (s.at + (length key + length taken)) (drop (prefix_len is_space (gap ++ text)) (gap ++ text))) (take_while-front is_space gap text spaces ends)
    ∙ ap (λ rest. read_value s key (s.at + (length key + length gap)) rest) (drop_while-front is_space gap text spaces ends))

pub read_pair-word : (s : ReaderState) (word rest : List ℕ) → list_all is_word_byte word ≡ true → begins is_word_byte rest ≡ false →
    read_pair s (word ++ rest) ≡ read_after s word rest
read_pair-word s word rest all ends =
    ap (λ taken. read_after s taken (drop (prefix_len is_word_byte (word ++ rest)) (word ++ rest))) (take_while-front is_word_byte word rest all ends)
    ∙ ap (λ left. read_after s word left) (drop_while-front is_word_byte word rest all ends)

-- a key and white space
pub step-key : (s : ReaderState) (key gap text : List ℕ) → is_key key ≡ true → are_spaces gap ≡ true → begins is_space text ≡ false →
    (begins_with_word text ≡ true → gap ≡ [] → ⊥) →
    reader_step s (key ++ (gap ++ text)) ≡ read_value s key (s.at + (length key + length gap)) text
step-key s [] gap text is_one spaces ends apart = absurd cc
step-key s (b ∷ key) gap text is_one spaces ends apart =
    let first : begins_key b ≡ true = and-left (begins_key b) _ is_one in
    step-other s b (key ++ (gap ++ text)) (begins_key-no_space b first) (begins_key-no_comment b first) (begins_key-no_close b first)
    ∙ (read_pair-word s (b ∷ key) (gap ++ text) (is_key-word (b ∷ key) is_one) (gap-no_word gap text spaces apart)
    ∙ read_after-key s (b ∷ key) gap text is_one spaces ends)

-- a string
pub value-string : (s : ReaderState) (key : List ℕ) (at : ℕ) (inside rest : List ℕ) → lacks 34 inside ≡ true →
    read_value s key at (34 ∷ (inside ++ 34 ∷ rest)) ≡ goes_on (with_pair s (record { key = key; value = Text inside; at = at }) (at + length inside + 2))
value-string s key at inside rest h =
    let more : length inside < length (inside ++ 34 ∷ rest) = simp length-append (omega arith) in
    ap (read_inside s key at (inside ++ 34 ∷ rest)) (prefix_len-front (λ b. not (eqb b 34)) inside (34 ∷ rest) h refl)
    ∙ (cond-false (eqb (length inside) (length (inside ++ 34 ∷ rest))) _ _ (eqb-less (length inside) (length (inside ++ 34 ∷ rest)) more)
    ∙ ap (λ taken. goes_on (with_pair s (record { key = key; value = Text taken; at = at }) (at + length inside + 2))) (take_at inside (34 ∷ rest) (length inside) refl))

-- a numeral
pub value-numeral : (s : ReaderState) (key : List ℕ) (at : ℕ) (word rest : List ℕ) (kind : NumeralKind) → kind_of word ≡ Some kind →
    list_all is_word_byte word ≡ true → begins begins_numeral word ≡ true → begins_with_word rest ≡ false →
    read_value s key at (word ++ rest) ≡ goes_on (with_pair s (record { key = key; value = numeral_value kind word; at = at }) (at + length word))
value-numeral s key at [] rest kind h all first ends = absurd cc
value-numeral s key at (b ∷ word) rest kind h all first ends =
    cond-false (eqb b 34) _ _ (begins_numeral-no_quote b first)
    ∙ (cond-false (eqb b 91) _ _ (begins_numeral-no_list b first)
    ∙ (cond-true (begins_numeral b) _ _ first
    ∙ (ap (λ taken. read_numeral_of (kind_of taken) s key at taken) (take_while-front is_word_byte (b ∷ word) rest all (begins-word rest ∙ ends))
    ∙ ap (λ found. read_numeral_of found s key at (b ∷ word)) h)))

-- a list
pub value-list : (s : ReaderState) (key : List ℕ) (at : ℕ) (rest : List ℕ) → length s.parents < MOST_DEPTH →
    read_value s key at (91 ∷ rest) ≡ goes_on (record { parents = record { before = s.pairs; key = key; at = at } ∷ s.parents; pairs = []; at = at + 1 })
value-list s key at rest room = cond-false (leb MOST_DEPTH (length s.parents)) _ _ (leb-more (length s.parents) room)
