-- The answer of the check is exact, and what it accepts is best.
use Rattle.std.proofs.Common.{◌≡◌, Result, Ok, Err, OnOk, List, [], ◌∷◌, inl, inr, refl, sym, ap, ◌∙◌}
use Rattle.compact_types.specs.declared.limits.TheConstants.{MOST_CHOICES}
use Rattle.compact_types.specs.declared.places.Places.{Places}
use Rattle.compact_types.specs.declared.plan.Shape.{Shape}
use Rattle.compact_types.specs.declared.refusal.Refusal.{Refusal}
use Rattle.compact_types.specs.declared.refusal.Refusal.TheVariants.{Fault, NoMemory}
use Rattle.compact_types.specs.Bests.{IsBest}
use Rattle.compact_types.specs.Bests.Objective.{total_length}
use Rattle.compact_types.specs.Refusals.{IfFault, Decides}
use Rattle.bars.specs.Solutions.{IsSound}
use Rattle.cert_text.specs.declared.tree.CertNode.{CertNode}
use Rattle.compact_types.specs.Drawings.{IsDrawing, IsFromZero}
use Rattle.cert_text.specs.Accepting.{Accepts, AreGood}
use Rattle.cert_text.specs.Trees.{IsShallow}
use Rattle.cert_text.proofs.Laws.{accepted_best}
use Rattle.cert_check.specs.declared.fault.CheckFault.{CheckFault}
use Rattle.cert_check.specs.Faults.{FirstCheckFault, IsFirstIn}
use Rattle.cert_check.proofs.BoundLemmas.{other_value, other_words}
use Rattle.cert_check.proofs.FaultLemmas.{no_first, only_first}

-- an answer that is right, where there is at most one
pub decides : {F : Type 0} (P : Type 0) (Q : F → Type 0) (result : Result (Unit {0}) (Refusal F)) → ((a b : F) → Q a → Q b → a ≡ b) →
    (P → (fault : F) → Q fault → ⊥) → OnOk result P → IfFault result Q → Decides result (λ _. P) Q
decides P Q (Ok value) one not_both right wrong = record {
  value = right;
  fault = wrong;
  only = λ other holds. refl;
  first = λ fault holds. absurd (not_both right fault holds);
}
decides P Q (Err (Fault fault)) one not_both right wrong = record {
  value = right;
  fault = wrong;
  only = λ value holds. absurd (not_both holds fault wrong);
  first = λ other holds. ap Err (one other fault holds wrong);
}
decides P Q (Err NoMemory) one not_both right wrong =
    record { value = right; fault = wrong; only = λ value holds. tt; first = λ fault holds. tt }

module _ (shape : Shape) (places : Places) (nodes : List CertNode) where
  pub only_fault : (a b : CheckFault) → FirstCheckFault shape places nodes a → FirstCheckFault shape places nodes b → a ≡ b
  only_fault a b (inl of_a) (inl of_b) = of_a.1 ∙ sym of_b.1
  only_fault a b (inl of_a) (inr of_b) = absurd (of_a.0 of_b.0)
  only_fault a b (inr of_a) (inl of_b) = absurd (of_b.0 of_a.0)
  only_fault a b (inr of_a) (inr of_b) = only_first shape places 0 ([] ∷ []) nodes a b of_a.1 of_b.1

  pub no_fault : Accepts shape places nodes → (fault : CheckFault) → FirstCheckFault shape places nodes fault → ⊥
  no_fault accepts fault (inl wrong) = wrong.0 accepts.from_zero
  no_fault accepts fault (inr wrong) = no_first shape places 0 ([] ∷ []) nodes accepts.entries fault wrong.1

  pub decides_cert : (result : Result (Unit {0}) (Refusal CheckFault)) → OnOk result (Accepts shape places nodes) →
      IfFault result (FirstCheckFault shape places nodes) → Decides result (λ _. Accepts shape places nodes) (FirstCheckFault shape places nodes)
  decides_cert result right wrong =
      decides (Accepts shape places nodes) (FirstCheckFault shape places nodes) result only_fault no_fault right wrong

  pub best_where_ok : (result : Result (Unit {0}) (Refusal CheckFault)) → IsSound shape → IsShallow MOST_CHOICES nodes →
      OnOk result (Accepts shape places nodes) → OnOk result (IsBest total_length shape places)
  best_where_ok (Ok value) sound shallow accepts = accepted_best shape places nodes sound shallow accepts
  best_where_ok (Err refusal) sound shallow accepts = tt

  -- what the walk over the entries says is said of the whole
  module _ (result : Result (Unit {0}) (Refusal CheckFault)) (drawing : IsDrawing shape places) (from_zero : IsFromZero places)
      (good : OnOk result (AreGood shape places ([] ∷ []) nodes)) (wrong : IfFault result (IsFirstIn shape places 0 ([] ∷ []) nodes)) where
    accepts : OnOk result (Accepts shape places nodes)
    accepts = other_value (AreGood shape places ([] ∷ []) nodes) (Accepts shape places nodes) result
        (λ entries. record { drawing = drawing; from_zero = from_zero; entries = entries }) good

    pub decides_by_walk : Decides result (λ _. Accepts shape places nodes) (FirstCheckFault shape places nodes)
    decides_by_walk = decides_cert result accepts
        (other_words (IsFirstIn shape places 0 ([] ∷ []) nodes) (FirstCheckFault shape places nodes) result (λ fault first. inr (from_zero, first)) wrong)

    pub best_by_walk : IsSound shape → IsShallow MOST_CHOICES nodes → OnOk result (IsBest total_length shape places)
    best_by_walk sound shallow = best_where_ok result sound shallow accepts
