-- Least keys are low: no height below a vertex is left out.
use Rattle.std.proofs.Common.{◌≡◌, ℕ, ◌+◌, ◌-◌, ◌<◌, ◌≤◌, inl, inr, ℤ, pos, List, [], length, subst, ◌∙◌, arith}
use Rattle.std.specs.Prelude.{◌<ℤ◌, ◌≤ℤ◌}
use Rattle.std.proofs.lemmas.Int.{ints}
use Rattle.std.proofs.lemmas.Bool.{cases_lt}
use Rattle.compact_types.specs.declared.places.Axis.{Axis}
use Rattle.compact_types.specs.declared.places.Key.{Key}
use Rattle.compact_types.specs.declared.places.Places.{Places}
use Rattle.compact_types.specs.declared.plan.Shape.{Shape}
use Rattle.compact_types.specs.declared.search.Choice.{Choice}
use Rattle.compact_types.specs.Bests.{key_of}
use Rattle.compact_types.specs.Bests.Objective.{total_length}
use Rattle.compact_types.specs.Lookups.{other_axis}
use Rattle.bars.specs.Segments.{node_of, node_count}
use Rattle.bars.specs.Solutions.{IsSound, Fit, Solves}
use Rattle.bars.proofs.Laws.{coordinate, line_below, few_lines}
use Rattle.shape_graphs.specs.declared.graph.Arc.{Arc}
use Rattle.shape_graphs.specs.Arcs.{arc_at, AreGraph}
use Rattle.shape_graphs.specs.Graphs.{arcs_of}
use Rattle.shape_graphs.specs.Measures.{HaveNoCycle, IsLeastKey}
use Rattle.shape_graphs.proofs.Laws.{comes_from, no_cycle_in_solution, one_least, places_by, solid_from}
use Rattle.diff_flow.specs.Shortest.{IsShortest}
use Rattle.diff_flow.specs.Tight.{AreTight}
use Rattle.diff_flow.proofs.Laws.{closed, closed_most, closed_slow, all_covered}
use Rattle.diff_flow.proofs.Laws.{nat, nat_is, tight_without_gaps}
use Rattle.potentials.specs.Standing.{StandAt}
use Rattle.potentials.proofs.LeastKeys.{AreLowest, lowest_numbers, shorter, places_by_stand, places_by_least}
use Rattle.potentials.proofs.NodePlaces.{node_taken, own_numbers, solution_from, stand_at_own, stands}
use Rattle.potentials.proofs.TightKeys.{graph_of}

-- lowest numbers of a graph whose leasts are 1
module _ (nodes : ℕ) (arcs : List Arc) (graph : AreGraph nodes arcs) (ones : (i : ℕ) → i < length arcs → (arc_at arcs i).least ≡ pos 1)
    (numbers : ℕ → ℤ) (are : AreLowest nodes arcs graph numbers) where
  -- the same numbers with their gaps closed
  abbrev gapless : ℕ → ℤ
  gapless v = pos (closed 1 (λ u. nat (numbers u)) nodes (nat (numbers v)))

  gapless_tight : AreTight nodes arcs [] gapless
  gapless_tight = tight_without_gaps nodes 1 arcs [] numbers graph.ends graph.within
      (λ i inside. (let one = ones i inside in omega (arith, ints, one)))
      (record {
        from_zero = are.from_zero;
        solution = are.shortest.solution;
        tight = λ i inside some. absurd (omega (arith, some));
      })

  gapless_shortest : IsShortest arcs gapless
  gapless_shortest = record {
    solution = gapless_tight.solution;
    shortest = λ others solution.
        let least = are.shortest.shortest others solution in
        let short = shorter nodes arcs graph gapless numbers (λ i inside. (
        let ends = graph.ends i inside in
        let a = nat_is (numbers (arc_at arcs i).from) (are.from_zero _ ends.0) in
        let b = nat_is (numbers (arc_at arcs i).to) (are.from_zero _ ends.1) in
        let step = are.shortest.solution i inside in
        let some = (graph.within i inside).some_least in
        let low : nat (numbers (arc_at arcs i).from) ≤ nat (numbers (arc_at arcs i).to) = omega (arith, ints, a, b, step, some) in
        let there : nat (numbers (arc_at arcs i).from) + (nat (numbers (arc_at arcs i).to) - nat (numbers (arc_at arcs i).from)) ≡ nat (numbers (arc_at arcs i).to) = omega (arith, low) in
        let slow = rw there at (closed_slow 1 (λ u. nat (numbers u)) nodes (nat (numbers (arc_at arcs i).from)) (nat (numbers (arc_at arcs i).to) - nat (numbers (arc_at arcs i).from))) in
        omega (arith, ints, a, b, low, slow))) in
        omega (arith, ints, least, short);
  }

  nowhere_above : (v : ℕ) → v < nodes → numbers v ≤ℤ gapless v
  nowhere_above v inside = are.lowest gapless gapless_shortest gapless_tight.from_zero v inside

  -- every height up to a number is a number
  lowest_taken : (height v : ℕ) → v < nodes → pos height ≤ℤ numbers v → (u : ℕ) × (u < nodes) × (numbers u ≡ pos height)
  lowest_taken height v inside high =
      let is = nat_is (numbers v) (are.from_zero v inside) in
      elim (cases_lt height (nat (numbers v))) [
        | inl below ↦
            let all = nowhere_above v inside in
            let found = all_covered 1 (λ u. nat (numbers u)) nodes (nat (numbers v)) height below (omega (arith, ints, all, is)) in
            let at = nat_is (numbers found.0) (are.from_zero found.0 found.1) in
            (found.0, found.1, omega (arith, ints, at, found.2, found.3))
        | inr up ↦ (v, inside, omega (arith, ints, is, high, up))
      ]

  -- and each is below the number of nodes
  lowest_low : (v : ℕ) → v < nodes → numbers v <ℤ pos nodes
  lowest_low v inside =
      let all = nowhere_above v inside in
      let most = closed_most 1 (λ u. nat (numbers u)) nodes v inside in
      omega (arith, ints, all, most, inside)

module _ (shape : Shape) (choices : List Choice) (sound : IsSound shape) (fit : Fit shape choices) where
  one_each : (axis : Axis) (i : ℕ) → i < length (arcs_of axis shape choices) → (arc_at (arcs_of axis shape choices) i).least ≡ pos 1
  one_each axis i inside = (solid_from shape choices sound.drawable fit axis _ (comes_from axis shape choices i inside)).one

  abbrev AreLowestAlong : Axis → (ℕ → ℤ) → Type 0
  AreLowestAlong axis numbers = AreLowest (node_count axis shape) (arcs_of axis shape choices) (graph_of shape choices sound fit axis) numbers

  -- a least key stands at the lowest numbers
  record StandsLow (key : Key) : Type 0 where
    numbers : Axis → ℕ → ℤ
    stand : StandAt shape numbers key.places
    lowest : (axis : Axis) → AreLowestAlong axis (numbers axis)

  -- where places solve the choices no graph has a cycle
  pub no_cycle_where_met : (places : Places) → Solves shape choices places → HaveNoCycle shape choices
  no_cycle_where_met places solves axis =
      no_cycle_in_solution (arcs_of axis shape choices) (own_numbers shape places axis)
      (graph_of shape choices sound fit axis).within
      (solution_from shape choices sound.drawable fit places (own_numbers shape places)
      (stand_at_own shape places solves.ways solves.places_fit) solves axis)

  stands_low : (key : Key) → IsLeastKey total_length shape choices key → StandsLow key
  stands_low key least =
      let none : HaveNoCycle shape choices = no_cycle_where_met key.places least.solves in
      let found : (axis : Axis) → (numbers : ℕ → ℤ) × AreLowestAlong axis numbers =
      λ axis. lowest_numbers (node_count axis shape) (arcs_of axis shape choices) (graph_of shape choices sound fit axis) (none axis) in
      let numbers : Axis → ℕ → ℤ = λ axis. (found axis).0 in
      let same : key_of total_length shape (places_by shape numbers) ≡ key =
      one_least total_length shape choices (key_of total_length shape (places_by shape numbers)) key
      (places_by_least shape choices sound fit numbers (λ axis. (found axis).1)) least in
      record {
        numbers = numbers;
        stand = subst (λ (k : Key). StandAt shape numbers k.places) same (places_by_stand shape numbers);
        lowest = λ axis. (found axis).1;
      }

  module _ (key : Key) (least : IsLeastKey total_length shape choices key) (axis : Axis) where
    abbrev low : StandsLow key
    low = stands_low key least

    -- in a least key every height up to that of a vertex is taken
    pub least_key_taken : (height v : ℕ) → v < shape.plan.vertices → pos height ≤ℤ coordinate axis key.places v →
        (u : ℕ) × (u < shape.plan.vertices) × (coordinate axis key.places u ≡ pos height)
    least_key_taken height v inside high =
        let is = low.stand.each axis v inside in
        let found = lowest_taken (node_count axis shape) (arcs_of axis shape choices) (graph_of shape choices sound fit axis) (one_each axis)
        (low.numbers axis) (low.lowest axis) height (node_of axis shape v) (line_below (other_axis axis) shape v inside) (omega (arith, ints, is, high)) in
        let taken = node_taken axis shape found.0 found.1 in
        (taken.0, taken.1, stands shape choices sound.drawable fit key.places low.numbers low.stand axis found.0 taken.0 taken.1 taken.2 ∙ found.2)

    -- and no coordinate is negative, or as great as the number of vertices
    pub least_key_low : (v : ℕ) → v < shape.plan.vertices →
        (pos 0 ≤ℤ coordinate axis key.places v) × (coordinate axis key.places v <ℤ pos shape.plan.vertices)
    least_key_low v inside =
        let is = low.stand.each axis v inside in
        let node = line_below (other_axis axis) shape v inside in
        let most = lowest_low (node_count axis shape) (arcs_of axis shape choices) (graph_of shape choices sound fit axis) (one_each axis)
        (low.numbers axis) (low.lowest axis) (node_of axis shape v) node in
        let few = few_lines (other_axis axis) shape in
        let fits = least.solves.places_fit in
        let from_zero = (least.from_zero axis).none_below v (omega (arith, inside, fits)) in
        (from_zero, omega (arith, ints, is, most, few))
