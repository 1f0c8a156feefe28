-- The longest front of a text whose bytes are of one class.
use Rattle.std.proofs.Common.{◌≡◌, ℕ, suc, ◌+◌, Bool, true, false, List, [], ◌∷◌, ◌++◌, ◌&&◌, length, take, drop, refl, sym, ◌∙◌, ap, arith}
use Rattle.std.specs.List.{prefix_len, take_while, list_all}
use Rattle.std.proofs.lemmas.List.{take_at, drop_at}
use Rattle.std.proofs.lemmas.Bool.{and_from, cond-false, cond-true}

-- whether the first byte is of the class
abbrev pub begins : (ℕ → Bool) → List ℕ → Bool
begins p [] = false
begins p (b ∷ text) = p b

pub and-left : (a b : Bool) → (a && b) ≡ true → a ≡ true
and-left true b e = refl
and-left false b e = e

pub and-right : (a b : Bool) → (a && b) ≡ true → b ≡ true
and-right true b e = e
and-right false b e = cc

pub prefix_len-front : (p : ℕ → Bool) (front rest : List ℕ) → list_all p front ≡ true → begins p rest ≡ false →
    prefix_len p (front ++ rest) ≡ length front
prefix_len-front p [] [] all ends = refl
prefix_len-front p [] (b ∷ rest) all ends = cond-false (p b) (1 + prefix_len p rest) 0 ends
prefix_len-front p (b ∷ front) rest all ends =
    let same : prefix_len p (front ++ rest) ≡ length front = prefix_len-front p front rest (and-right (p b) (list_all p front) all) ends in
    cond-true (p b) (1 + prefix_len p (front ++ rest)) 0 (and-left (p b) (list_all p front) all) ∙ omega arith

pub take_while-front : (p : ℕ → Bool) (front rest : List ℕ) → list_all p front ≡ true → begins p rest ≡ false →
    take_while p (front ++ rest) ≡ front
take_while-front p front rest all ends =
    take_at front rest (prefix_len p (front ++ rest)) (sym (prefix_len-front p front rest all ends))

pub drop_while-front : (p : ℕ → Bool) (front rest : List ℕ) → list_all p front ≡ true → begins p rest ≡ false →
    drop (prefix_len p (front ++ rest)) (front ++ rest) ≡ rest
drop_while-front p front rest all ends =
    drop_at front rest (prefix_len p (front ++ rest)) (sym (prefix_len-front p front rest all ends))

-- one more byte of the class at the front, or none
pub prefix_len-yes : (p : ℕ → Bool) (b : ℕ) (text : List ℕ) → p b ≡ true → prefix_len p (b ∷ text) ≡ suc (prefix_len p text)
prefix_len-yes p b text e = cond-true (p b) (1 + prefix_len p text) 0 e ∙ omega arith

pub prefix_len-no : (p : ℕ → Bool) (b : ℕ) (text : List ℕ) → p b ≡ false → prefix_len p (b ∷ text) ≡ 0
prefix_len-no p b text e = cond-false (p b) (1 + prefix_len p text) 0 e

-- what is taken is of the class, and the byte after it is not
pub list_all-take_while : (p : ℕ → Bool) (text : List ℕ) → list_all p (take_while p text) ≡ true
list_all-take_while p [] = refl
list_all-take_while p (b ∷ text) = go (p b) refl (list_all-take_while p text)
  where
    go : (test : Bool) → p b ≡ test → list_all p (take_while p text) ≡ true → list_all p (take_while p (b ∷ text)) ≡ true
    go true e after = ap (λ n. list_all p (take n (b ∷ text))) (prefix_len-yes p b text e) ∙ and_from (p b) (list_all p (take_while p text)) e after
    go false e after = ap (λ n. list_all p (take n (b ∷ text))) (prefix_len-no p b text e)

pub begins-drop_while : (p : ℕ → Bool) (text : List ℕ) → begins p (drop (prefix_len p text) text) ≡ false
begins-drop_while p [] = refl
begins-drop_while p (b ∷ text) = go (p b) refl (begins-drop_while p text)
  where
    go : (test : Bool) → p b ≡ test → begins p (drop (prefix_len p text) text) ≡ false → begins p (drop (prefix_len p (b ∷ text)) (b ∷ text)) ≡ false
    go true e after = ap (λ n. begins p (drop n (b ∷ text))) (prefix_len-yes p b text e) ∙ after
    go false e after = ap (λ n. begins p (drop n (b ∷ text))) (prefix_len-no p b text e) ∙ e

pub list_all-weaken : (p q : ℕ → Bool) (text : List ℕ) → ((b : ℕ) → p b ≡ true → q b ≡ true) → list_all p text ≡ true → list_all q text ≡ true
list_all-weaken p q [] weaker all = refl
list_all-weaken p q (b ∷ text) weaker all =
    and_from (q b) (list_all q text) (weaker b (and-left (p b) (list_all p text) all))
    (list_all-weaken p q text weaker (and-right (p b) (list_all p text) all))
