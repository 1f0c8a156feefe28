-- Answers that are exact: from two halves, and in two stages.
use Rattle.std.proofs.Common.{◌≡◌, Result, Ok, Err, IfOk, ◌⊎◌, inl, inr, sym, ap, ◌∙◌, subst}
use Rattle.compact_types.specs.declared.refusal.Refusal.{Refusal}
use Rattle.compact_types.specs.declared.refusal.Refusal.TheVariants.{Fault, NoMemory}
use Rattle.compact_types.specs.Refusals.{IfFault, Decides, HasOneAnswer}
use Rattle.compact_types.specs.Stages.{IsMadeOf, IsFaultOf}

-- where there is one answer, an answer that is right is the only right one
pub decides_by_one_answer : {T F : Type 0} {P : T → Type 0} {Q : F → Type 0} (result : Result T (Refusal F)) →
    IfOk result P → IfFault result Q → HasOneAnswer P Q → Decides result P Q
decides_by_one_answer (Ok value) right wrong one = record {
  value = right;
  fault = wrong;
  only = λ other holds. ap Ok (one.one_value other value holds right);
  first = λ fault holds. absurd (one.not_both value fault right holds);
}
decides_by_one_answer (Err (Fault fault)) right wrong one = record {
  value = right;
  fault = wrong;
  only = λ value holds. absurd (one.not_both value fault holds wrong);
  first = λ other holds. ap Err (one.one_fault other fault holds wrong);
}
decides_by_one_answer (Err NoMemory) right wrong one =
    record { value = right; fault = wrong; only = λ value holds. tt; first = λ fault holds. tt }

-- the same answers in other words have one answer too
pub one_answer_alike : {T F : Type 0} {P R : T → Type 0} {Q S : F → Type 0} → HasOneAnswer P Q →
    ((value : T) → P value → R value) → ((value : T) → R value → P value) →
    ((fault : F) → Q fault → S fault) → ((fault : F) → S fault → Q fault) → HasOneAnswer R S
one_answer_alike {T} {F} {P} {R} {Q} {S} one value back fault fault_back = record {
  some = by_some one.some;
  one_value = λ a b holds_a holds_b. one.one_value a b (back a holds_a) (back b holds_b);
  one_fault = λ a b holds_a holds_b. one.one_fault a b (fault_back a holds_a) (fault_back b holds_b);
  not_both = λ a b holds_a holds_b. one.not_both a b (back a holds_a) (fault_back b holds_b);
}
  where
    by_some : ((a : T) × P a) ⊎ ((b : F) × Q b) → ((a : T) × R a) ⊎ ((b : F) × S b)
    by_some (inl (a, holds)) = inl (a, value a holds)
    by_some (inr (b, holds)) = inr (b, fault b holds)

module _ {T U V E F G : Type 0} {P : T → Type 0} {Q : E → Type 0} {R : T → U → Type 0} {S : T → F → Type 0}
    (made : T → U → V) (told_first : E → G) (told_second : F → G)
    (one : HasOneAnswer P Q) (next : (first : T) → P first → HasOneAnswer (R first) (S first)) where
  one_value : (a b : V) → IsMadeOf P R made a → IsMadeOf P R made b → a ≡ b
  one_value a b of_a of_b =
      let same = one.one_value of_a.first of_b.first of_a.has_first of_b.has_first in
      let moved = subst (λ (t : T). R t of_a.second) same of_a.has_second in
      let again = (next of_b.first of_b.has_first).one_value of_a.second of_b.second moved of_b.has_second in
      sym of_a.is ∙ ap (λ (t : T). made t of_a.second) same ∙ ap (made of_b.first) again ∙ of_b.is

  one_fault : (a b : G) → IsFaultOf P Q S told_first told_second a → IsFaultOf P Q S told_first told_second b → a ≡ b
  one_fault a b (inl of_a) (inl of_b) =
      sym of_a.is ∙ ap told_first (one.one_fault of_a.cause of_b.cause of_a.has_cause of_b.has_cause) ∙ of_b.is
  one_fault a b (inl of_a) (inr of_b) = absurd (one.not_both of_b.first of_a.cause of_b.has_first of_a.has_cause)
  one_fault a b (inr of_a) (inl of_b) = absurd (one.not_both of_a.first of_b.cause of_a.has_first of_b.has_cause)
  one_fault a b (inr of_a) (inr of_b) =
      let same = one.one_value of_a.first of_b.first of_a.has_first of_b.has_first in
      let moved = subst (λ (t : T). S t of_a.cause) same of_a.has_cause in
      let again = (next of_b.first of_b.has_first).one_fault of_a.cause of_b.cause moved of_b.has_cause in
      sym of_a.is ∙ ap told_second again ∙ of_b.is

  not_both : (value : V) (fault : G) → IsMadeOf P R made value → IsFaultOf P Q S told_first told_second fault → ⊥
  not_both value fault of_value (inl of_fault) =
      one.not_both of_value.first of_fault.cause of_value.has_first of_fault.has_cause
  not_both value fault of_value (inr of_fault) =
      let same = one.one_value of_value.first of_fault.first of_value.has_first of_fault.has_first in
      let moved = subst (λ (t : T). R t of_value.second) same of_value.has_second in
      (next of_fault.first of_fault.has_first).not_both of_value.second of_fault.cause moved of_fault.has_cause

  some_second : (first : T) → P first → ((second : U) × R first second) ⊎ ((cause : F) × S first cause) →
      ((value : V) × IsMadeOf P R made value) ⊎ ((fault : G) × IsFaultOf P Q S told_first told_second fault)
  some_second first holds (inl (second, holds_second)) =
      inl (made first second, record { first = first; second = second; has_first = holds; has_second = holds_second; is = λ i. made first second })
  some_second first holds (inr (cause, holds_cause)) =
      inr (told_second cause, inr (record { first = first; cause = cause; has_first = holds; has_cause = holds_cause; is = λ i. told_second cause }))

  some_first : ((first : T) × P first) ⊎ ((cause : E) × Q cause) →
      ((value : V) × IsMadeOf P R made value) ⊎ ((fault : G) × IsFaultOf P Q S told_first told_second fault)
  some_first (inl (first, holds)) = some_second first holds (next first holds).some
  some_first (inr (cause, holds)) = inr (told_first cause, inl (record { cause = cause; has_cause = holds; is = λ i. told_first cause }))

  -- two stages of which each has one answer have one answer together
  pub one_answer_in_two_stages : HasOneAnswer (IsMadeOf P R made) (IsFaultOf P Q S told_first told_second)
  one_answer_in_two_stages =
      record { some = some_first one.some; one_value = one_value; one_fault = one_fault; not_both = not_both }
