-- The branch pair settles a branch whatever the incumbent is.
use Rattle.std.proofs.Common.{◌≡◌, ℕ, List, Option, Some, None, MatchOption, refl, subst}
use Rattle.compact_types.specs.declared.places.Key.{Key}
use Rattle.compact_types.specs.declared.plan.Shape.{Shape}
use Rattle.compact_types.specs.declared.search.Choice.{Choice}
use Rattle.compact_types.specs.Drawings.{IsDrawing}
use Rattle.shape_graphs.specs.declared.measure.Verdict.{Verdict}
use Rattle.shape_graphs.specs.declared.measure.Verdict.TheVariants.{Cyclic, Above, Least}
use Rattle.separation.specs.Branching.{IsBranchPair}
use Rattle.separation.proofs.Laws.{apart_from_drawn}
use Rattle.board.specs.Verdicts.{IsBranchPairFor, IsPairAt, IsPairFor}

module _ (shape : Shape) (choices : List Choice) (incumbent key : Key) where
  -- no pair goes with a drawing
  no_pair : IsDrawing shape key.places → IsPairAt shape choices incumbent key None
  no_pair drawing = record {
    none = (λ is. drawing, λ is. refl);
    some = λ s t is. absurd (cc);
    first = λ s t is before. absurd (cc);
  }

  -- the branch pair goes with places that are not a drawing
  branch_pair : (at : ℕ × ℕ) → IsBranchPair shape choices key.places at.0 at.1 → IsPairAt shape choices incumbent key (Some at)
  branch_pair at branch = record {
    none = (
      λ is. absurd (cc),
      λ drawing. absurd (apart_from_drawn shape (key.places, drawing) key.places drawing.crossing_free.ways drawing at.0 at.1 branch.pair branch.share),
    );
    some = λ s t is. (let b = here s t is in record { pair = b.pair; share = b.share });
    first = λ s t is before. here s t is;
  }
    where
      same : (p q : ℕ × ℕ) → Some p ≡ Some q → p ≡ q
      same p q is = cc

      here : (s t : ℕ) → Some at ≡ Some (s, t) → IsBranchPair shape choices key.places s t
      here s t is = subst (λ (p : ℕ × ℕ). IsBranchPair shape choices key.places p.0 p.1) (same at (s, t) is) branch

  by_pair : (pair : Option (ℕ × ℕ)) → MatchOption pair (IsDrawing shape key.places) (λ at. IsBranchPair shape choices key.places at.0 at.1) →
      IsPairAt shape choices incumbent key pair
  by_pair None drawing = no_pair drawing
  by_pair (Some at) branch = branch_pair at branch

pub branch_pairs_settle : {P : Type 0} (shape : Shape) (choices : List Choice) (incumbent : Key) (verdict : Verdict P) (pair : Option (ℕ × ℕ)) →
    IsBranchPairFor shape choices verdict pair → IsPairFor shape choices incumbent verdict pair
branch_pairs_settle shape choices incumbent (Cyclic axis cycle) pair none = none
branch_pairs_settle shape choices incumbent (Above bound stop proof) pair none = none
branch_pairs_settle shape choices incumbent (Least key proof) pair at = by_pair shape choices incumbent key pair at
