-- Numbers on the nodes of the two graphs, and the places that they stand for.
use Rattle.std.proofs.Common.{◌≡◌, ℕ, ◌<◌, ◌≤◌, ◌⊎◌, inl, inr, ℤ, pos, List, length, sym, ap, ◌∙◌, arith}
use Rattle.std.proofs.lemmas.Int.{ints}
use Rattle.std.proofs.lemmas.Bool.{cases_lt}
use Rattle.compact_types.specs.declared.places.Axis.{Axis}
use Rattle.compact_types.specs.declared.places.Places.{Places}
use Rattle.compact_types.specs.declared.plan.Shape.{Shape}
use Rattle.compact_types.specs.declared.search.Choice.{Choice}
use Rattle.compact_types.specs.declared.search.Flow.{Flow}
use Rattle.compact_types.specs.Drawings.{HasWays}
use Rattle.compact_types.specs.Lookups.{other_axis}
use Rattle.bars.specs.Segments.{node_of, node_count}
use Rattle.bars.specs.Solutions.{HasDrawing, Fit, Solves}
use Rattle.bars.proofs.Laws.{coordinate, level_node, line_below, line_taken}
use Rattle.shape_graphs.specs.Arcs.{arc_at}
use Rattle.shape_graphs.specs.Flows.{IsSolution, IsTight}
use Rattle.shape_graphs.specs.Graphs.{arcs_of}
use Rattle.shape_graphs.proofs.Laws.{comes_from, meets_arcs, solves_from_graphs, IsTaken, solid_from}
use Rattle.potentials.specs.Standing.{StandAt}
use Rattle.potentials.specs.TightPlaces.{IsTightAlong}

-- every node is that of a vertex
pub node_taken : (axis : Axis) (shape : Shape) (node : ℕ) → node < node_count axis shape → IsTaken axis shape node
node_taken axis shape node inside =
    let found = line_taken (other_axis axis) shape node inside in
    (found.0, found.1, found.3)

-- the coordinate of the vertices of a node
number_by : (axis : Axis) (shape : Shape) (places : Places) (node : ℕ) → (node < node_count axis shape) ⊎ (node_count axis shape ≤ node) → ℤ
number_by axis shape places node (inl inside) = coordinate axis places (node_taken axis shape node inside).0
number_by axis shape places node (inr beyond) = pos 0

pub own_numbers : Shape → Places → Axis → ℕ → ℤ
own_numbers shape places axis node = number_by axis shape places node (cases_lt node (node_count axis shape))

-- places with the ways stand at their own numbers
module _ (shape : Shape) (places : Places) (ways : HasWays shape places) (fit : length places.xy ≡ shape.plan.vertices) where
  own_by : (axis : Axis) (v : ℕ) → v < shape.plan.vertices →
      (where_at : (node_of axis shape v < node_count axis shape) ⊎ (node_count axis shape ≤ node_of axis shape v)) →
      coordinate axis places v ≡ number_by axis shape places (node_of axis shape v) where_at
  unfolding number_by
  own_by axis v inside (inl within) =
      let taken = node_taken axis shape (node_of axis shape v) within in
      level_node shape places ways axis v taken.0 (sym taken.2)
  own_by axis v inside (inr beyond) =
      let within = line_below (other_axis axis) shape v inside in
      absurd (omega (arith, within, beyond))

  pub stand_at_own : StandAt shape (own_numbers shape places) places
  unfolding own_numbers
  stand_at_own = record {
    places_fit = fit;
    each = λ axis v inside. own_by axis v inside (cases_lt (node_of axis shape v) (node_count axis shape));
  }

module _ (shape : Shape) (choices : List Choice) (drawing : HasDrawing shape) (fit : Fit shape choices)
    (places : Places) (numbers : Axis → ℕ → ℤ) (stand : StandAt shape numbers places) where
  -- the coordinate of a vertex of the node
  pub stands : (axis : Axis) (node : ℕ) (v : ℕ) → v < shape.plan.vertices → node_of axis shape v ≡ node → coordinate axis places v ≡ numbers axis node
  stands axis node v inside is = stand.each axis v inside ∙ ap (numbers axis) is

  from_taken : (axis : Axis) (i : ℕ) → i < length (arcs_of axis shape choices) → IsTaken axis shape (arc_at (arcs_of axis shape choices) i).from
  from_taken axis i inside = (solid_from shape choices drawing fit axis _ (comes_from axis shape choices i inside)).from

  to_taken : (axis : Axis) (i : ℕ) → i < length (arcs_of axis shape choices) → IsTaken axis shape (arc_at (arcs_of axis shape choices) i).to
  to_taken axis i inside = (solid_from shape choices drawing fit axis _ (comes_from axis shape choices i inside)).to

  -- the numbers of places that solve the choices solve both graphs
  pub solution_from : Solves shape choices places → (axis : Axis) → IsSolution (arcs_of axis shape choices) (numbers axis)
  solution_from solves axis i inside =
      let from = from_taken axis i inside in
      let to = to_taken axis i inside in
      let met = meets_arcs shape choices drawing fit places solves axis i inside from.0 to.0 from.1 to.1 from.2 to.2 in
      let low = stands axis _ from.0 from.1 from.2 in
      let high = stands axis _ to.0 to.1 to.2 in
      omega (arith, ints, met, low, high)

  -- places by numbers that solve both graphs solve the choices
  pub solves_from : ((axis : Axis) → IsSolution (arcs_of axis shape choices) (numbers axis)) → Solves shape choices places
  solves_from solution = solves_from_graphs shape choices drawing fit places (record {
    places_fit = stand.places_fit;
    level = λ axis v w v_in w_in same. stands axis _ v v_in same ∙ sym (stand.each axis w w_in);
    met = λ axis i inside v w v_in w_in from to.
        let step = solution axis i inside in
        let low = stands axis _ v v_in from in
        let high = stands axis _ w w_in to in
        omega (arith, ints, step, low, high);
  })

  -- where the places are tight for a flow, so are their numbers
  pub tight_from : (axis : Axis) (flow : Flow) → IsTightAlong axis shape choices flow places → IsTight (arcs_of axis shape choices) flow.amounts (numbers axis)
  tight_from axis flow tight i inside some =
      let from = from_taken axis i inside in
      let to = to_taken axis i inside in
      let just = tight i inside some from.0 to.0 from.1 to.1 from.2 to.2 in
      let low = stands axis _ from.0 from.1 from.2 in
      let high = stands axis _ to.0 to.1 to.2 in
      omega (arith, ints, just, low, high)

  -- where the numbers are, so are the places
  pub tight_to : (axis : Axis) (flow : Flow) → IsTight (arcs_of axis shape choices) flow.amounts (numbers axis) → IsTightAlong axis shape choices flow places
  tight_to axis flow tight i inside some v w v_in w_in from to =
      let just = tight i inside some in
      let low = stands axis _ v v_in from in
      let high = stands axis _ w w_in to in
      omega (arith, ints, just, low, high)
