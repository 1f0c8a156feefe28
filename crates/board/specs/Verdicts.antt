-- What is asked of a verdict that settles a branch, and of the pair that comes with it.
use Rattle.std.specs.Prelude.{◌≡◌, ◌↔◌, ℕ, List, Option, None, Some, MatchOption}
use Rattle.compact_types.specs.declared.places.Key.{Key}
use Rattle.compact_types.specs.declared.plan.Shape.{Shape}
use Rattle.compact_types.specs.declared.search.Choice.{Choice}
use Rattle.compact_types.specs.Bests.{Objective, IsAttained}
use Rattle.compact_types.specs.Drawings.{IsDrawing}
use Rattle.compact_types.specs.Orders.{IsBefore}
use Rattle.shape_graphs.specs.declared.measure.Verdict.{Verdict}
use Rattle.shape_graphs.specs.declared.measure.Verdict.TheVariants.{Cyclic, Above, Least}
use Rattle.shape_graphs.specs.Measures.{IsBacked, IsRight}
use Rattle.separation.specs.Branching.{IsBranchPair}
use Rattle.separation.specs.Meetings.{IsSharingPair}

-- the worth at which a bound stopped is that of some drawing
abbrev pub IsStopAttained : {P : Type 0} → Objective → Shape → Verdict P → Type 0
IsStopAttained objective shape (Cyclic axis cycle) = Unit {0}
IsStopAttained objective shape (Above bound stop proof) = IsAttained objective shape stop
IsStopAttained objective shape (Least key proof) = Unit {0}

-- no pair is given exactly if the places of the key are a drawing; a pair that is given shares a
-- point there, and if the key comes before the incumbent it is the branch pair
pub record IsPairAt (shape : Shape) (choices : List Choice) (incumbent key : Key)
    (pair : Option (ℕ × ℕ)) : Type 0 where
  pub none : (pair ≡ None) ↔ IsDrawing shape key.places
  pub some : (s t : ℕ) → pair ≡ Some (s, t) → IsSharingPair shape key.places s t
  pub first : (s t : ℕ) → pair ≡ Some (s, t) → IsBefore key incumbent →
      IsBranchPair shape choices key.places s t

-- the pair that comes with a verdict on the choices: a least key alone has one
abbrev pub IsPairFor : {P : Type 0} → Shape → List Choice → Key → Verdict P → Option (ℕ × ℕ) →
    Type 0
IsPairFor shape choices incumbent (Cyclic axis cycle) pair = pair ≡ None
IsPairFor shape choices incumbent (Above bound stop proof) pair = pair ≡ None
IsPairFor shape choices incumbent (Least key proof) pair =
    IsPairAt shape choices incumbent key pair

-- the pair that comes with a verdict whatever the incumbent is: at a least key whose places are not
-- a drawing the branch pair, and else none
abbrev pub IsBranchPairFor : {P : Type 0} → Shape → List Choice → Verdict P → Option (ℕ × ℕ) →
    Type 0
IsBranchPairFor shape choices (Cyclic axis cycle) pair = pair ≡ None
IsBranchPairFor shape choices (Above bound stop proof) pair = pair ≡ None
IsBranchPairFor shape choices (Least key proof) pair =
    MatchOption pair (IsDrawing shape key.places)
    (λ at. IsBranchPair shape choices key.places at.0 at.1)

-- The verdict on these choices is right, its proof backs it, and a worth at which it stopped is
-- attained; `Backs` says what a proof has to show.
pub record IsSoundVerdict {P : Type 0} (objective : Objective)
    (Backs : Shape → List Choice → P → Verdict P → Type 0)
    (shape : Shape) (choices : List Choice) (verdict : Verdict P) : Type 0 where
  pub right : IsRight objective shape choices verdict
  pub backed : IsBacked (Backs shape choices) verdict
  pub attained : IsStopAttained objective shape verdict
