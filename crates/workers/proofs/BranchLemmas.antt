-- What is known of a solved branch.
use Rattle.std.proofs.Common.{ℤ, List, subst, sym}
use Rattle.compact_types.specs.declared.plan.Shape.{Shape}
use Rattle.compact_types.specs.declared.search.Choice.{Choice}
use Rattle.compact_types.specs.Bests.{IsAttained, Objective}
use Rattle.shape_graphs.specs.declared.measure.Verdict.{Verdict}
use Rattle.shape_graphs.specs.declared.measure.Verdict.TheVariants.{Cyclic, Above, Least}
use Rattle.shape_graphs.specs.Measures.{IsAsked, IsBacked, IsRight}
use Rattle.board.specs.Verdicts.{IsSoundVerdict, IsStopAttained}

-- a verdict that was asked with the worth of some drawing is sound
pub sound_from_asked : {P : Type 0} (objective : Objective) (Backs : Shape → List Choice → P → Verdict P → Type 0) (shape : Shape) (choices : List Choice)
    (stop : ℤ) (verdict : Verdict P) → IsRight objective shape choices verdict → IsBacked (Backs shape choices) verdict → IsAsked stop verdict →
    IsAttained objective shape stop → IsSoundVerdict objective Backs shape choices verdict
sound_from_asked {P} objective Backs shape choices stop verdict right backed asked attained = record { right = right; backed = backed; attained = by_verdict verdict asked }
  where
    by_verdict : (verdict : Verdict P) → IsAsked stop verdict → IsStopAttained objective shape verdict
    by_verdict (Cyclic axis cycle) is = tt
    by_verdict (Above bound stop' proof) is = subst (λ (z : ℤ). IsAttained objective shape z) (sym is) attained
    by_verdict (Least key proof) is = tt
