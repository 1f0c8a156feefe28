-- What a worker offers, and what it puts into its lane.
use Rattle.std.proofs.Common.{◌≡◌, ℕ, pos, List, [], ◌∷◌, ◌++◌, Option, None, Result, Ok, Err, sym, ap, ◌∙◌, subst, append_assoc, arith}
use Rattle.std.specs.Prelude.{◌≤ℤ◌, OnErr, unsigned_abs}
use Rattle.std.proofs.lemmas.Int.{ints}
use Rattle.std.proofs.lemmas.List.{append-nil}
use Rattle.compact_types.specs.declared.places.Key.{Key}
use Rattle.compact_types.specs.declared.plan.Shape.{Shape}
use Rattle.compact_types.specs.declared.search.Branch.{Branch}
use Rattle.compact_types.specs.Bests.{Objective, IsAttained, worth_of}
use Rattle.compact_types.specs.Drawings.{IsDrawing}
use Rattle.shape_graphs.specs.declared.measure.Verdict.{Verdict}
use Rattle.shape_graphs.specs.declared.measure.Verdict.TheVariants.{Least}
use Rattle.shape_graphs.specs.Measures.{IsFoundLeast, IsRight}
use Rattle.board.specs.declared.entries.Settled.{Settled}
use Rattle.board.specs.Facts.{IsDrawnKey}
use Rattle.board.specs.Verdicts.{IsBranchPairFor}
use Rattle.board.proofs.Laws.{worth_not_negative}
use Rattle.steal_lanes.specs.States.{LaneState}
use Rattle.steal_lanes.specs.Views.{with_branch}
use Rattle.workers.specs.inner.Sharing.{HasPut, IsSolvedFor, children_to_put}

-- a least key without a pair is that of a drawing, and its worth is what is offered
module _ {P : Type 0} (objective : Objective) (shape : Shape) (verdict : Verdict P) (pair : Option (ℕ × ℕ)) (key : Key) (proof : P)
    (solved : IsSolvedFor objective shape verdict pair) (is : verdict ≡ Least key proof) where
  found : IsFoundLeast objective shape solved.choices key
  found = subst (λ (v : Verdict P). IsRight objective shape solved.choices v) is solved.right

  pub worth_is_positive : pos 0 ≤ℤ key.worth
  worth_is_positive =
      let worth = found.least.worth in
      let positive = worth_not_negative objective shape key.places in
      omega (arith, ints, worth, positive)

  pub drawn_attained : pair ≡ None → IsAttained objective shape (pos (unsigned_abs key.worth))
  drawn_attained none =
      let drawing : IsDrawing shape key.places =
      subst (λ (p : Option (ℕ × ℕ)). IsBranchPairFor shape solved.choices (Least key proof) p) none
      (subst (λ (v : Verdict P). IsBranchPairFor shape solved.choices v pair) is solved.pair_is) in
      let worth = found.least.worth in
      let positive = worth_is_positive in
      let offered : worth_of objective shape key.places ≡ pos (unsigned_abs key.worth) = omega (arith, ints, worth, positive) in
      (key.places, drawing, offered)

-- the worth of the key of a drawing is attained, and is not negative
pub drawn_key_positive : (objective : Objective) (shape : Shape) (key : Key) → IsDrawnKey objective shape key → pos 0 ≤ℤ key.worth
drawn_key_positive objective shape key drawn =
    let worth = drawn.worth in
    let positive = worth_not_negative objective shape key.places in
    omega (arith, ints, worth, positive)

pub drawn_key_attained : (objective : Objective) (shape : Shape) (key : Key) → IsDrawnKey objective shape key →
    IsAttained objective shape (pos (unsigned_abs key.worth))
drawn_key_attained objective shape key drawn =
    let worth = drawn.worth in
    let positive = drawn_key_positive objective shape key drawn in
    let attained : worth_of objective shape key.places ≡ pos (unsigned_abs key.worth) = omega (arith, ints, worth, positive) in
    (key.places, drawn.drawing, attained)

-- what holds at all holds where there is an error
pub err_has : {T E Q : Type 0} (result : Result T E) → Q → OnErr result Q
err_has (Ok value) q = tt
err_has (Err error) q = q

-- the lane with more branches put into it
abbrev pub with_all : LaneState → List Branch → LaneState
with_all lane put = record lane { view = record lane.view { put = lane.view.put ++ put } }

pub with_none : (old new : LaneState) → new ≡ old → new ≡ with_all old []
with_none old new same =
    same ∙ ap (λ (l : List Branch). record old { view = record old.view { put = l } }) (sym (append-nil old.view.put))

pub with_one_more : (old lane new : LaneState) (put : List Branch) (child : Branch) → lane ≡ with_all old put →
    new ≡ record lane { view = with_branch lane.view child } → new ≡ with_all old (put ++ child ∷ [])
with_one_more old lane new put child before is =
    is ∙ ap (λ (l : LaneState). record l { view = with_branch l.view child }) before
    ∙ ap (λ (l : List Branch). record old { view = record old.view { put = l } }) (append_assoc old.view.put put (child ∷ []))

-- where a first part of the children is in the lane, the others are left
pub some_put : {T E : Type 0} (result : Result T E) (branch : Branch) (what : Settled) (put left : List Branch) (old new : LaneState) →
    new ≡ with_all old put → put ++ left ≡ children_to_put branch what →
    OnErr result ((rest : List Branch) × HasPut branch what rest old new)
some_put result branch what put left old new is in_order =
    err_has result (
      left,
      (record {
        home = ap (λ (l : LaneState). l.home) is;
        room = ap (λ (l : LaneState). l.room) is;
        put = put;
        lane = ap (λ (l : LaneState). l.view.put) is;
        in_order = in_order;
      }),
    )
