-- What is printed is read as an alike tree.
use Rattle.std.proofs.Common.{◌≡◌, ℕ, zero, suc, ◌+◌, ◌<◌, ◌≤◌, true, false, List, [], ◌∷◌, ◌++◌, length, map, Option, None, Some, refl, sym, ◌∙◌, ap, subst, arith, append_assoc}
use Rattle.std.proofs.lemmas.List.{append-nil}
use Rattle.std.proofs.lemmas.Bool.{and_parts}
use Rattle.gml_text.specs.declared.number.NumeralKind.{NumeralKind}
use Rattle.gml_text.specs.declared.number.NumeralKind.TheVariants as kinds
use Rattle.gml_text.specs.declared.tree.Tree.{Tree, out-Tree, roll-Tree, out-roll-Tree}
use Rattle.gml_text.specs.declared.tree.Pair.{Pair}
use Rattle.gml_text.specs.declared.tree.Value.{Value}
use Rattle.gml_text.specs.declared.tree.Value.TheVariants.{Whole, Real, Text, Inner}
use Rattle.gml_text.specs.Bytes.{is_space, are_spaces, is_key, ends_in_word}
use Rattle.gml_text.specs.NumeralKinds.{kind_of}
use Rattle.gml_text.specs.Texts.{Pairs, HasValue, no_more, a_space, one_more, a_pair, a_whole_numeral, a_real_numeral, a_string, a_list, IsText, to_the_end, Spells}
use Rattle.gml_text.specs.declared.limits.TheConstants.{MOST_DEPTH}
use Rattle.gml_text.specs.NumeralKinds.{is_real_kind}
use Rattle.gml_text.specs.RightWords.{value_has_right_words, pair_has_right_words, have_right_words}
use Rattle.gml_text.specs.Depths.{depth_of_value, depth_of_pairs}
use Rattle.gml_text.specs.Grammar.{IsWithinGrammar}
use Rattle.gml_text.specs.Alike.{IsAlike}
use Rattle.gml_text.proofs.Laws.{bare_value, bare_pair, IsAlike-pairs, within_alike, is_space-no_word, real-kind_of, one_answer, spelled_within, ends_in_word-append}
use Rattle.gml_text.proofs.Laws.{tree_words, pair_words, value_words, tree_depth, pair_depth, value_depth}
use Rattle.gml_text.specs.declared.marks.TheConstants.{SPACE, LINE_FEED, OPENING_BRACKET, CLOSING_BRACKET}
use Rattle.gml_print.specs.Printing.{indentation, bracketed, line, printed, printed_at}
use Rattle.gml_print.specs.inner.Pieces.{value_text, pair_text}
use Rattle.gml_print.specs.TextReadings.{ReadsBack}
use Rattle.gml_print.proofs.AlikeTexts.{lines_of, printed-alike}
use Rattle.gml_print.proofs.TextEquations.{printed_at_lines}

-- ---- white space

indentation-spaces : (depth : ℕ) → are_spaces (indentation depth) ≡ true
indentation-spaces zero = refl
indentation-spaces (suc depth) = indentation-spaces depth

-- no word is at the end of what spaces follow
ends-spaces : (text spaces : List ℕ) → ends_in_word text ≡ false → are_spaces spaces ≡ true → ends_in_word (text ++ spaces) ≡ false
ends-spaces text [] ends all = ap ends_in_word (append-nil text) ∙ ends
ends-spaces text (b ∷ spaces) ends all =
    ap ends_in_word (sym (append_assoc text (b ∷ []) spaces))
    ∙ ends-spaces (text ++ b ∷ []) spaces
    (ends_in_word-append text (b ∷ []) (omega arith) ∙ is_space-no_word b (and_parts (is_space b) (are_spaces spaces) all).0)
    (and_parts (is_space b) (are_spaces spaces) all).1

-- spaces add no pair
pairs-spaces : (depth offset : ℕ) (text : List ℕ) (pairs : List Pair) (spaces : List ℕ) →
    Pairs depth offset text pairs → are_spaces spaces ≡ true → Pairs depth offset (text ++ spaces) pairs
pairs-spaces depth offset text pairs [] h all = subst (λ whole. Pairs depth offset whole pairs) (sym (append-nil text)) h
pairs-spaces depth offset text pairs (b ∷ spaces) h all =
    subst (λ whole. Pairs depth offset whole pairs) (append_assoc text (b ∷ []) spaces)
    (pairs-spaces depth offset (text ++ b ∷ []) pairs spaces
    (a_space depth offset text pairs b h (and_parts (is_space b) (are_spaces spaces) all).0)
    (and_parts (is_space b) (are_spaces spaces) all).1)

-- ---- one more line

-- the offset of the value in a line
abbrev value_offset : ℕ → ℕ → List ℕ → List ℕ → ℕ
value_offset depth offset text key = offset + length (text ++ indentation depth) + length key + 1

-- a text with a whole line more has one more pair
one_more_line : (depth offset : ℕ) (text : List ℕ) (pairs : List Pair) (key words : List ℕ) (value : Value) →
    Pairs depth offset text pairs → ends_in_word text ≡ false → is_key key ≡ true →
    HasValue depth (value_offset depth offset text key) words value →
    Pairs depth offset (text ++ line depth key words)
    (pairs ++ (record { key = key; value = value; at = value_offset depth offset text key }) ∷ [])
one_more_line depth offset text pairs key words value h ends is_one has =
    let indented : List ℕ = text ++ indentation depth in
    let pair : Pair = record { key = key; value = value; at = value_offset depth offset text key } in
    let regrouped : indented ++ (key ++ (SPACE ∷ []) ++ words) ++ LINE_FEED ∷ [] ≡ text ++ line depth key words = simp append_assoc in
    subst (λ whole. Pairs depth offset whole (pairs ++ pair ∷ [])) regrouped
    (a_space depth offset (indented ++ (key ++ (SPACE ∷ []) ++ words)) (pairs ++ pair ∷ []) LINE_FEED
    (one_more depth offset indented pairs (key ++ (SPACE ∷ []) ++ words) pair
    (pairs-spaces depth offset text pairs (indentation depth) h (indentation-spaces depth))
    (ends-spaces text (indentation depth) ends (indentation-spaces depth))
    (a_pair depth (offset + length indented) key (SPACE ∷ []) words value is_one refl (λ begins none. cc) has))
    refl)

ends-line : (depth : ℕ) (text key words : List ℕ) → ends_in_word (text ++ line depth key words) ≡ false
ends-line depth text key words =
    ap ends_in_word (sym (append_assoc text (indentation depth ++ key ++ SPACE ∷ words) (LINE_FEED ∷ [])))
    ∙ ends_in_word-append (text ++ (indentation depth ++ key ++ SPACE ∷ words)) (LINE_FEED ∷ []) (omega arith)

-- ---- values and lists of pairs

-- the text has an alike value
record HasAlike (depth offset : ℕ) (text : List ℕ) (value : Value) : Type 0 where
  read : Value
  alike : bare_value value ≡ bare_value read
  has : HasValue depth offset text read

-- the value, and the pairs, may stand inside so many open lists
record FitsAt (depth : ℕ) (value : Value) : Type 0 where
  words : value_has_right_words value ≡ true
  deep : depth + depth_of_value value ≤ MOST_DEPTH

record AllFitAt (depth : ℕ) (pairs : List Pair) : Type 0 where
  words : have_right_words pairs ≡ true
  deep : depth + depth_of_pairs pairs ≤ MOST_DEPTH

first_key : (depth : ℕ) (pair : Pair) (pairs : List Pair) → AllFitAt depth (pair ∷ pairs) → is_key pair.key ≡ true
first_key depth pair pairs all =
    (and_parts (is_key pair.key) (value_has_right_words pair.value)
    (sym (pair_words pair) ∙ (and_parts (pair_has_right_words pair) (have_right_words pairs) all.words).0)).0

first_fits : (depth : ℕ) (pair : Pair) (pairs : List Pair) → AllFitAt depth (pair ∷ pairs) → FitsAt depth pair.value
first_fits depth pair pairs all = record {
  words =
      (and_parts (is_key pair.key) (value_has_right_words pair.value)
      (sym (pair_words pair) ∙ (and_parts (pair_has_right_words pair) (have_right_words pairs) all.words).0)).1;
  deep = omega (arith, pair_depth pair, all.deep);
}

others_fit : (depth : ℕ) (pair : Pair) (pairs : List Pair) → AllFitAt depth (pair ∷ pairs) → AllFitAt depth pairs
others_fit depth pair pairs all = record {
  words = (and_parts (pair_has_right_words pair) (have_right_words pairs) all.words).1;
  deep = omega (arith, all.deep);
}

-- a list that fits is inside fewer than the most, and what it has fits one deeper
inner_room : (depth : ℕ) (tree : Tree) → FitsAt depth (Inner tree) → depth < MOST_DEPTH
inner_room depth tree fits = omega (arith, fits.deep, value_depth (Inner tree))

inner_fits : (depth : ℕ) (tree : Tree) → FitsAt depth (Inner tree) → AllFitAt (suc depth) (out-Tree tree).pairs
inner_fits depth tree fits = record {
  words = sym (tree_words tree) ∙ (sym (value_words (Inner tree)) ∙ fits.words);
  deep = omega (arith, fits.deep, value_depth (Inner tree), tree_depth tree);
}

-- every value that may stand inside so many open lists is read from its text
abbrev ReadsValues : ℕ → Type 0
ReadsValues depth = (offset : ℕ) (value : Value) → FitsAt depth value → HasAlike depth offset (value_text value depth) value

-- behind the text the lines of these pairs are alike pairs
record HasMore (depth offset : ℕ) (text : List ℕ) (before pairs : List Pair) : Type 0 where
  read : List Pair
  alike : map bare_pair pairs ≡ map bare_pair read
  has : Pairs depth offset (text ++ lines_of depth pairs) (before ++ read)
  ends : ends_in_word (text ++ lines_of depth pairs) ≡ false

more_lines : (depth offset : ℕ) (text : List ℕ) (before : List Pair) → ReadsValues depth → Pairs depth offset text before → ends_in_word text ≡ false →
    (pairs : List Pair) → AllFitAt depth pairs → HasMore depth offset text before pairs
more_lines depth offset text before values h ends [] all = record {
  read = [];
  alike = refl;
  has = rw (append-nil text, append-nil before) h;
  ends = ap ends_in_word (append-nil text) ∙ ends;
}
more_lines depth offset text before values h ends (pair ∷ pairs) all =
    let at : ℕ = value_offset depth offset text pair.key in
    let value = values at pair.value (first_fits depth pair pairs all) in
    let one : Pair = record { key = pair.key; value = value.read; at = at } in
    let next = one_more_line depth offset text before pair.key (value_text pair.value depth) value.read h ends
    (first_key depth pair pairs all) value.has in
    let rest = more_lines depth offset (text ++ pair_text pair depth) (before ++ one ∷ []) values next
    (ends-line depth text pair.key (value_text pair.value depth)) pairs
    (others_fit depth pair pairs all) in
    let grouped : text ++ pair_text pair depth ++ lines_of depth pairs ≡ text ++ (pair_text pair depth ++ lines_of depth pairs) =
    append_assoc text (pair_text pair depth) (lines_of depth pairs) in
    let same_one : bare_pair pair ≡ bare_pair one =
    ap (λ bare. let p : Pair = record { key = pair.key; value = bare; at = 0 } in p) value.alike in
    record {
      read = one ∷ rest.read;
      alike = ap (λ bare. bare ∷ map bare_pair pairs) same_one ∙ ap (λ bares. bare_pair one ∷ bares) rest.alike;
      has = subst (λ read. Pairs depth offset (text ++ (pair_text pair depth ++ lines_of depth pairs)) read) (append_assoc before (one ∷ []) rest.read)
          (subst (λ whole. Pairs depth offset whole (before ++ one ∷ [] ++ rest.read)) grouped rest.has);
      ends = ap ends_in_word (sym grouped) ∙ rest.ends;
    }

real_kind : (kind : Option NumeralKind) → is_real_kind kind ≡ true → kind ≡ Some kinds.Real
real_kind None h = cc
real_kind (Some kinds.Whole) h = cc
real_kind (Some kinds.Real) h = refl

-- a list between its brackets
list-value : (depth offset : ℕ) (tree : Tree) → ReadsValues (suc depth) → FitsAt depth (Inner tree) →
    HasAlike depth offset (bracketed depth (printed_at tree (suc depth))) (Inner tree)
list-value depth offset tree values fits =
    let more = more_lines (suc depth) (suc offset) (LINE_FEED ∷ []) [] values
    (a_space (suc depth) (suc offset) [] [] LINE_FEED (no_more (suc depth) (suc offset)) refl) refl (out-Tree tree).pairs (inner_fits depth tree fits) in
    let lines : List ℕ = lines_of (suc depth) (out-Tree tree).pairs in
    let inside : List ℕ = LINE_FEED ∷ [] ++ lines ++ indentation depth in
    let has : Pairs (suc depth) (suc offset) inside more.read =
    pairs-spaces (suc depth) (suc offset) (LINE_FEED ∷ [] ++ lines) more.read (indentation depth) more.has (indentation-spaces depth) in
    let same : OPENING_BRACKET ∷ inside ++ CLOSING_BRACKET ∷ [] ≡ bracketed depth (printed_at tree (suc depth)) =
    rw (printed_at_lines tree (suc depth)) refl in
    record {
      read = Inner (roll-Tree (record { pairs = more.read }));
      alike = ap Inner (IsAlike-pairs tree more.read more.alike);
      has = subst (λ text. HasValue depth offset text (Inner (roll-Tree (record { pairs = more.read })))) same
          (a_list depth offset inside more.read (inner_room depth tree fits) has);
    }

-- lists within lists stop at the greatest depth
reads_values : (room depth : ℕ) → room + depth ≡ MOST_DEPTH → ReadsValues depth
reads_values room depth e offset (Whole word) fits =
    record { read = Whole word; alike = refl; has = a_whole_numeral depth offset word (sym (value_words (Whole word)) ∙ fits.words) }
reads_values room depth e offset (Real word) fits = record {
  read = Real word;
  alike = refl;
  has = a_real_numeral depth offset word (real-kind_of word (real_kind (kind_of word) (sym (value_words (Real word)) ∙ fits.words)));
}
reads_values room depth e offset (Text inside) fits =
    record { read = Text inside; alike = refl; has = a_string depth offset inside (sym (value_words (Text inside)) ∙ fits.words) }
reads_values zero depth e offset (Inner tree) fits = absurd (omega (arith, inner_room depth tree fits))
reads_values (suc room) depth e offset (Inner tree) fits =
    list-value depth offset tree (reads_values room (suc depth) (omega arith)) fits

-- what is printed of a tree within the grammar has an alike tree, and no other
pub reads_back : (tree : Tree) → IsWithinGrammar tree → ReadsBack tree
reads_back tree within =
    let all : AllFitAt 0 (out-Tree tree).pairs =
    record { words = sym (tree_words tree) ∙ within.words; deep = omega (arith, tree_depth tree, within.depth) } in
    let more = more_lines 0 0 [] [] (reads_values MOST_DEPTH 0 refl) (no_more 0 0) refl (out-Tree tree).pairs all in
    let read : Tree = roll-Tree (record { pairs = more.read }) in
    let alike : IsAlike tree read = IsAlike-pairs tree more.read more.alike in
    let text : IsText (printed tree) more.read =
    subst (λ text. IsText text more.read) (sym (printed_at_lines tree 0)) (to_the_end (lines_of 0 (out-Tree tree).pairs) more.read more.has) in
    let spelled : Spells (printed tree) read = subst (λ r. IsText (printed tree) r.pairs) (sym (out-roll-Tree (record { pairs = more.read }))) text in
    record {
      read = read;
      alike = alike;
      spelled = spelled;
      within = spelled_within (printed tree) read spelled;
      again = sym (printed-alike tree read alike);
      only = λ other h. subst (IsAlike tree) ((one_answer (printed tree)).one_value read other spelled h) alike;
    }

-- and only of such a tree
pub reads_back_within : (tree : Tree) → ReadsBack tree → IsWithinGrammar tree
reads_back_within tree back = within_alike back.read tree (sym back.alike) back.within
