-- The front of a text, up to a place where a key may stand, with what was read of it.
use Rattle.std.proofs.Common.{◌≡◌, ℕ, suc, ◌+◌, ◌<◌, ◌≤◌, Option, None, Some, true, false, List, [], ◌∷◌, ◌++◌, length, refl, sym, ◌∙◌, ap, subst, arith, length-append, append_assoc}
use Rattle.gml_text.specs.declared.reader.Parent.{Parent}
use Rattle.gml_text.specs.declared.tree.Tree.{roll-Tree}
use Rattle.gml_text.specs.declared.tree.Pair.{Pair}
use Rattle.gml_text.specs.declared.tree.Value.{Value}
use Rattle.gml_text.specs.declared.tree.Value.TheVariants.{Inner}
use Rattle.gml_text.specs.Bytes.{is_space, is_key, are_spaces, lacks, begins_with_word, ends_in_word}
use Rattle.gml_text.specs.Texts.{Pairs, OnePair, HasValue, no_more, a_space, a_comment, one_more, a_pair, a_list}
use Rattle.gml_text.specs.declared.limits.TheConstants.{MOST_DEPTH}
use Rattle.gml_text.specs.Faults.{KeyPlace, at_the_top, in_a_list}
use Rattle.gml_text.specs.inner.Reading.{closed}
use Rattle.gml_text.proofs.KeysAreWords.{ends_in_word-append}

-- the text ends inside so many lists, whose parents are these, the innermost first; the innermost has these pairs
pub data Opened : (depth : ℕ) → List ℕ → List Parent → List Pair → Type 0 where
  outside : (text : List ℕ) (pairs : List Pair) → Pairs 0 0 text pairs → Opened 0 text [] pairs
  within : (depth : ℕ) (front : List ℕ) (parents : List Parent) (before : List Pair) (key gap inside : List ℕ) (pairs : List Pair) →
      Opened depth front parents before → ends_in_word front ≡ false → is_key key ≡ true → are_spaces gap ≡ true → depth < MOST_DEPTH →
      Pairs (suc depth) (length (front ++ key ++ gap) + 1) inside pairs →
      Opened (suc depth) (front ++ key ++ gap ++ 91 ∷ inside) (record { before = before; key = key; at = length (front ++ key ++ gap) } ∷ parents) pairs

pub Opened-at : {depth : ℕ} {parents : List Parent} {pairs : List Pair} (a b : List ℕ) → a ≡ b → Opened depth a parents pairs → Opened depth b parents pairs
Opened-at {depth} {parents} {pairs} a b e h = subst (λ text. Opened depth text parents pairs) e h

pub Opened-depth : {depth : ℕ} {text : List ℕ} {parents : List Parent} {pairs : List Pair} → Opened depth text parents pairs → length parents ≡ depth
Opened-depth (outside text pairs h) = refl
Opened-depth (within depth front parents before key gap inside pairs outer ends is_one spaces room h) = ap suc (Opened-depth outer)

pub Opened-most : {depth : ℕ} {text : List ℕ} {parents : List Parent} {pairs : List Pair} → Opened depth text parents pairs → depth ≤ MOST_DEPTH
Opened-most (outside text pairs h) = omega arith
Opened-most (within depth front parents before key gap inside pairs outer ends is_one spaces room h) = room

-- where the innermost open `[` stands
abbrev pub innermost : List Parent → Option ℕ
innermost [] = None
innermost (parent ∷ parents) = Some parent.at

pub key_place : {depth : ℕ} {text : List ℕ} {parents : List Parent} {pairs : List Pair} → Opened depth text parents pairs →
    KeyPlace depth text (innermost parents)
key_place (outside text pairs h) = at_the_top text pairs h
key_place (within depth front parents before key gap inside pairs outer ends is_one spaces room h) =
    in_a_list depth front (innermost parents) key gap inside pairs (key_place outer) ends is_one spaces room h

-- the pairs of the innermost list go on
pub grow : {depth : ℕ} {text : List ℕ} {parents : List Parent} {pairs : List Pair} → Opened depth text parents pairs →
    (more : List ℕ) (all : List Pair) →
    ((offset : ℕ) (inside : List ℕ) → Pairs depth offset inside pairs → ends_in_word inside ≡ ends_in_word text →
    offset + length inside ≡ length text → Pairs depth offset (inside ++ more) all) →
    Opened depth (text ++ more) parents all
grow (outside text pairs h) more all go = outside (text ++ more) all (go 0 text h refl (omega arith))
grow (within depth front parents before key gap inside pairs outer ends is_one spaces room h) more all go =
    let begin : List ℕ = front ++ key ++ gap in
    Opened-at (begin ++ 91 ∷ (inside ++ more)) ((begin ++ 91 ∷ inside) ++ more) (sym (append_assoc begin (91 ∷ inside) more))
    (within depth front parents before key gap (inside ++ more) all outer ends is_one spaces room
    (go (length begin + 1) inside h (sym (ends_in_word-append begin (91 ∷ inside) (omega arith))) (omega (arith, length-append begin (91 ∷ inside)))))

pub grow-space : {depth : ℕ} {text : List ℕ} {parents : List Parent} {pairs : List Pair} → Opened depth text parents pairs →
    (b : ℕ) → is_space b ≡ true → Opened depth (text ++ b ∷ []) parents pairs
grow-space {depth} {text} {parents} {pairs} h b space =
    grow h (b ∷ []) pairs (λ offset inside h _ _. a_space depth offset inside pairs b h space)

pub grow-comment : {depth : ℕ} {text : List ℕ} {parents : List Parent} {pairs : List Pair} → Opened depth text parents pairs →
    ends_in_word text ≡ false → (words : List ℕ) → lacks 10 words ≡ true → Opened depth (text ++ (35 ∷ words ++ 10 ∷ [])) parents pairs
grow-comment {depth} {text} {parents} {pairs} h ends words lack =
    grow h (35 ∷ words ++ 10 ∷ []) pairs
    (λ offset inside h same _. subst (λ text. Pairs depth offset text pairs) (append_assoc inside (35 ∷ words) (10 ∷ []))
    (a_comment depth offset inside pairs words h (same ∙ ends) lack))

pub grow-pair : {depth : ℕ} {text : List ℕ} {parents : List Parent} {pairs : List Pair} → Opened depth text parents pairs →
    ends_in_word text ≡ false → (piece : List ℕ) (pair : Pair) → OnePair depth (length text) piece pair →
    Opened depth (text ++ piece) parents (pairs ++ pair ∷ [])
grow-pair {depth} {text} {parents} {pairs} h ends piece pair one =
    grow h piece (pairs ++ pair ∷ [])
    (λ offset inside h same place. one_more depth offset inside pairs piece pair h (same ∙ ends)
    (subst (λ at. OnePair depth at piece pair) (sym place) one))

-- a pair by its parts
pub grow-value : {depth : ℕ} {text : List ℕ} {parents : List Parent} {pairs : List Pair} → Opened depth text parents pairs →
    ends_in_word text ≡ false → (key gap piece : List ℕ) (value : Value) (at : ℕ) → is_key key ≡ true → are_spaces gap ≡ true →
    (begins_with_word piece ≡ true → gap ≡ [] → ⊥) → at ≡ length (text ++ key ++ gap) → HasValue depth at piece value →
    Opened depth (text ++ (key ++ gap ++ piece)) parents (pairs ++ (record { key = key; value = value; at = at }) ∷ [])
grow-value {depth} {text} {parents} {pairs} h ends key gap piece value at is_one spaces apart place has =
    let where_at : at ≡ length text + length key + length gap = omega (arith, place, length-append (text ++ key) gap, length-append text key) in
    let pair_of : ℕ → Pair = λ at. record { key = key; value = value; at = at } in
    grow-pair h ends (key ++ gap ++ piece) (pair_of at)
    (subst (λ n. OnePair depth (length text) (key ++ gap ++ piece) (pair_of n)) (sym where_at)
    (a_pair depth (length text) key gap piece value is_one spaces apart (subst (λ n. HasValue depth n piece value) where_at has)))

-- what a `]` leaves: it is stray where no list is open
abbrev pub AfterClose : List ℕ → List Parent → List Pair → Type 0
AfterClose text [] pairs = Unit {0}
AfterClose text (parent ∷ parents) pairs =
    (depth : ℕ) × Opened depth (text ++ 93 ∷ []) parents (parent.before ++ closed parent pairs ∷ [])

pub after_close : {depth : ℕ} {text : List ℕ} {parents : List Parent} {pairs : List Pair} → Opened depth text parents pairs → AfterClose text parents pairs
after_close (outside text pairs h) = tt
after_close (within depth front parents before key gap inside pairs outer ends is_one spaces room h) =
    let begin : List ℕ = front ++ key ++ gap in
    let regrouped : front ++ (key ++ gap ++ (91 ∷ inside ++ 93 ∷ [])) ≡ (begin ++ 91 ∷ inside) ++ 93 ∷ [] = simp append_assoc in
    let next : suc (length begin) ≡ length begin + 1 = omega arith in (
      depth,
      Opened-at (front ++ (key ++ gap ++ (91 ∷ inside ++ 93 ∷ []))) ((begin ++ 91 ∷ inside) ++ 93 ∷ []) regrouped
          (grow-value outer ends key gap (91 ∷ inside ++ 93 ∷ []) (Inner (roll-Tree (record { pairs = pairs }))) (length begin) is_one spaces (λ begin. absurd cc) refl
          (a_list depth (length begin) inside pairs room (subst (λ n. Pairs (suc depth) n inside pairs) (sym next) h))),
    )

-- a `[` opens a list with no pair yet
pub open_one : {depth : ℕ} {text : List ℕ} {parents : List Parent} {pairs : List Pair} → Opened depth text parents pairs →
    ends_in_word text ≡ false → (key gap : List ℕ) (at : ℕ) → is_key key ≡ true → are_spaces gap ≡ true → depth < MOST_DEPTH →
    at ≡ length (text ++ key ++ gap) →
    Opened (suc depth) (text ++ (key ++ gap ++ 91 ∷ [])) (record { before = pairs; key = key; at = at } ∷ parents) []
open_one {depth} {text} {parents} {pairs} h ends key gap at is_one spaces room place =
    let regrouped : text ++ key ++ gap ++ 91 ∷ [] ≡ text ++ (key ++ gap ++ 91 ∷ []) = simp append_assoc in
    Opened-at (text ++ key ++ gap ++ 91 ∷ []) (text ++ (key ++ gap ++ 91 ∷ [])) regrouped
    (subst (λ n. Opened (suc depth) (text ++ key ++ gap ++ 91 ∷ []) (record { before = pairs; key = key; at = n } ∷ parents) []) (sym place)
    (within depth text parents pairs key gap [] [] h ends is_one spaces room (no_more (suc depth) (length (text ++ key ++ gap) + 1))))
