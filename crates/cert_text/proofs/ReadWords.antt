-- Words at the front of a text.
use Rattle.std.proofs.Common.{◌≡◌, ◌⊎◌, inl, inr, ℕ, Bool, true, false, cond, eqb, List, [], ◌∷◌}
use Rattle.std.proofs.Common.{◌++◌, Option, None, Some, refl, ap, ◌∙◌}
use Rattle.std.proofs.lemmas.Bool.Decides.{Decides-eqb}
use Rattle.cert_text.specs.inner.Reading.{◌>>=◌, after_byte, after_word}

-- what a step gave where all the steps give something
pub bind_some : {A B : Type 0} (o : Option A) (f : A → Option B) (b : B) → o >>= f ≡ Some b →
    (a : A) × (o ≡ Some a) × (f a ≡ Some b)
bind_some None f b h = absurd (let e : None ≡ Some b = h in cc)
bind_some (Some a) f b h = (a, refl, h)

pub cond_cases : {A : Type 0} (b : Bool) (x y z : A) → cond b x y ≡ z →
    ((b ≡ true) × (x ≡ z)) ⊎ ((b ≡ false) × (y ≡ z))
cond_cases true x y z h = inl (refl, h)
cond_cases false x y z h = inr (refl, h)

-- the test holds where something is given
pub cond_some : {A : Type 0} (b : Bool) (x y : A) → cond b (Some x) None ≡ Some y →
    (b ≡ true) × (x ≡ y)
cond_some true x y h = (refl, cc)
cond_some false x y h = absurd (let e : None ≡ Some y = h in cc)

pub after_byte_is : (byte : ℕ) (text rest : List ℕ) → after_byte byte text ≡ Some rest →
    text ≡ byte ∷ rest
after_byte_is byte [] rest h = absurd (let e : None ≡ Some rest = h in cc)
after_byte_is byte (b ∷ text) rest h =
    let is = cond_some (eqb b byte) text rest h in
    let same : b ≡ byte = (Decides-eqb b byte).0 is.0 in
    rw (same, is.1) refl

pub byte_is_read : (byte : ℕ) (rest : List ℕ) → after_byte byte (byte ∷ rest) ≡ Some rest
byte_is_read byte rest = rw ((Decides-eqb byte byte).1 refl) refl

pub after_word_is : (word text rest : List ℕ) → after_word word text ≡ Some rest →
    text ≡ word ++ rest
unfolding after_word
after_word_is [] text rest h = let e : Some text ≡ Some rest = h in cc
after_word_is (b ∷ word) text rest h =
    let step = bind_some (after_byte b text) (after_word word) rest h in
    after_byte_is b text (step.0) (step.1) ∙ ap (λ more. b ∷ more)
    (after_word_is word (step.0) rest (step.2))

pub word_is_read : (word rest : List ℕ) → after_word word (word ++ rest) ≡ Some rest
unfolding after_word
word_is_read [] rest = refl
word_is_read (b ∷ word) rest = rw (byte_is_read b (word ++ rest)) (word_is_read word rest)

-- what is found is found but once
pub same_found : {A : Type 0} (a b : A) (rest after : List ℕ) →
    ◌≡◌ {A = Option (A × List ℕ)} (Some (a, rest)) (Some (b, after)) →
    (a ≡ b) × (rest ≡ after)
same_found {A} a b rest after h =
    let p : A × List ℕ = (a, rest) in let q : A × List ℕ = (b, after) in
    let e : p ≡ q = same_value p q h in
    (ap (λ (r : A × List ℕ). r.0) e, ap (λ (r : A × List ℕ). r.1) e)
  where
    same_value : {A : Type 0} (p q : A) → Some p ≡ Some q → p ≡ q
    same_value p q h = cc
