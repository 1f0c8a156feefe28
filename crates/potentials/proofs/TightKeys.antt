-- Flows bound the worth of solutions, and the least places that are tight for both have the least key.
use Rattle.std.proofs.Common.{◌≡◌, ℕ, ◌<◌, ℤ, pos, List, length, refl, ap, ◌∙◌, arith}
use Rattle.std.specs.Prelude.{◌+ℤ◌, ◌≤ℤ◌}
use Rattle.std.proofs.lemmas.Int.{ints}
use Rattle.compact_types.specs.declared.places.Axis.{Axis}
use Rattle.compact_types.specs.declared.places.Axis.TheVariants.{X, Y}
use Rattle.compact_types.specs.declared.places.Places.{Places}
use Rattle.compact_types.specs.declared.plan.Shape.{Shape}
use Rattle.compact_types.specs.declared.search.Choice.{Choice}
use Rattle.compact_types.specs.declared.search.Flows.{Flows}
use Rattle.compact_types.specs.Bests.{key_of, worth_of}
use Rattle.compact_types.specs.Bests.Objective.{total_length}
use Rattle.compact_types.specs.Drawings.{IsFromZero}
use Rattle.compact_types.specs.Lookups.{along, other_axis}
use Rattle.compact_types.specs.Moves.{moved}
use Rattle.compact_types.proofs.Laws.{some_from_zero, length-moved, place-moved}
use Rattle.bars.specs.Segments.{node_of, node_count}
use Rattle.bars.specs.Solutions.{IsSound, Fit, Solves}
use Rattle.bars.proofs.Laws.{coordinate, line_below}
use Rattle.shape_graphs.specs.Arcs.{arc_at, AreGraph}
use Rattle.shape_graphs.specs.Backings.{flow_of, AreBalanced, bound_by}
use Rattle.shape_graphs.specs.Flows.{bound_of, IsSolution, length_over}
use Rattle.shape_graphs.specs.Graphs.{arcs_of}
use Rattle.shape_graphs.specs.Measures.{IsLeastKey}
use Rattle.shape_graphs.proofs.Laws.{are_graph, solid_from, comes_from}
use Rattle.diff_flow.specs.Tight.{AreTight, AreLeastTight}
use Rattle.diff_flow.proofs.Laws.{bound_below, tight_where_equal, equal_where_tight}
use Rattle.diff_flow.proofs.Laws.{least_taken}
use Rattle.potentials.specs.Standing.{StandAt}
use Rattle.potentials.specs.TightPlaces.{AreTightPlaces, AreLeastTightPlaces}
use Rattle.potentials.proofs.LengthLemmas.{length_is}
use Rattle.potentials.proofs.NodePlaces.{node_taken, own_numbers, stand_at_own, stands, solution_from, solves_from, tight_from, tight_to}

-- how far all points are moved along an axis
abbrev shift_along : ℤ → ℤ → Axis → ℤ
shift_along dx dy X = dx
shift_along dx dy Y = dy

module _ (shape : Shape) (choices : List Choice) (sound : IsSound shape) (fit : Fit shape choices) where
  -- the graph of the axis is a graph
  pub graph_of : (axis : Axis) → AreGraph (node_count axis shape) (arcs_of axis shape choices)
  graph_of axis = are_graph axis shape choices sound fit

  module _ (flows : Flows) (balanced : AreBalanced shape choices flows) (places : Places) (solves : Solves shape choices places) where
    abbrev own : Axis → ℕ → ℤ
    own = own_numbers shape places

    stand : StandAt shape own places
    stand = stand_at_own shape places solves.ways solves.places_fit

    solved : (axis : Axis) → IsSolution (arcs_of axis shape choices) (own axis)
    solved = solution_from shape choices sound.drawable fit places own stand solves

    worth : worth_of total_length shape places ≡ length_over (arcs_of X shape choices) (own X) +ℤ length_over (arcs_of Y shape choices) (own Y)
    worth = length_is shape choices places solves own stand

    below : (axis : Axis) → bound_of (arcs_of axis shape choices) (flow_of axis flows).amounts ≤ℤ length_over (arcs_of axis shape choices) (own axis)
    below axis = bound_below (node_count axis shape) (arcs_of axis shape choices) (flow_of axis flows).amounts (own axis)
        (graph_of axis).ends (balanced axis).balances (solved axis)

    -- no solution is worth less than the bound
    pub worth_above : (bound_by shape choices flows) ≤ℤ (worth_of total_length shape places)
    worth_above =
        let x = below X in
        let y = below Y in
        let is = worth in
        omega (arith, ints, x, y, is)

    equal_along : worth_of total_length shape places ≡ bound_by shape choices flows → (axis : Axis) →
        bound_of (arcs_of axis shape choices) (flow_of axis flows).amounts ≡ length_over (arcs_of axis shape choices) (own axis)
    equal_along same X =
        let x = below X in let y = below Y in let is = worth in omega (arith, ints, x, y, is, same)
    equal_along same Y =
        let x = below X in let y = below Y in let is = worth in omega (arith, ints, x, y, is, same)

    -- one that is worth the bound is tight for both flows
    pub tight_at_bound : worth_of total_length shape places ≡ bound_by shape choices flows → AreTightPlaces shape choices flows places
    tight_at_bound same = record {
      solves = solves;
      tight = λ axis. tight_to shape choices sound.drawable fit places own stand axis (flow_of axis flows)
          (tight_where_equal (node_count axis shape) (arcs_of axis shape choices) (flow_of axis flows).amounts (own axis)
          (graph_of axis).ends (balanced axis).balances (solved axis) (equal_along same axis));
    }

    -- and the other way round
    pub bound_at_tight : AreTightPlaces shape choices flows places → worth_of total_length shape places ≡ bound_by shape choices flows
    bound_at_tight tight =
        let x = equal X in
        let y = equal Y in
        let is = worth in
        omega (arith, ints, x, y, is)
      where
        equal : (axis : Axis) → bound_of (arcs_of axis shape choices) (flow_of axis flows).amounts ≡ length_over (arcs_of axis shape choices) (own axis)
        equal axis = equal_where_tight (node_count axis shape) (arcs_of axis shape choices) (flow_of axis flows).amounts (own axis)
            (graph_of axis).ends (balanced axis).balances
            (tight_from shape choices sound.drawable fit places own stand axis (flow_of axis flows) (tight.tight axis))

  -- the least places that are tight for balanced flows have the least key
  pub least_from_tight : (flows : Flows) → AreBalanced shape choices flows → (places : Places) → AreLeastTightPlaces shape choices flows places →
      IsLeastKey total_length shape choices (key_of total_length shape places)
  least_from_tight flows balanced places least =
      let solves = least.tight.solves in
      let is = bound_at_tight flows balanced places solves least.tight in
      record {
        solves = solves;
        from_zero = least.from_zero;
        worth = refl;
        none_less = λ others also.
            let above = worth_above flows balanced others also in
            omega (arith, ints, is, above);
        lowest = λ others also same nowhere_negative.
            least.lowest others (tight_at_bound flows balanced others also (same ∙ is)) nowhere_negative;
      }

  -- numbers of tight places without a negative coordinate
  module _ (flows : Flows) (places : Places) (tight : AreTightPlaces shape choices flows places) (axis : Axis) (up : ℤ)
      (high : (v : ℕ) → v < shape.plan.vertices → pos 0 ≤ℤ (coordinate axis places v +ℤ up)) where
    abbrev its : Axis → ℕ → ℤ
    its = own_numbers shape places

    its_stand : StandAt shape its places
    its_stand = stand_at_own shape places tight.solves.ways tight.solves.places_fit

    abbrev raised : ℕ → ℤ
    raised node = its axis node +ℤ up

    raised_tight : AreTight (node_count axis shape) (arcs_of axis shape choices) (flow_of axis flows).amounts raised
    raised_tight = record {
      from_zero = λ node inside.
          let taken = node_taken axis shape node inside in
          let here = stands shape choices sound.drawable fit places its its_stand axis node taken.0 taken.1 taken.2 in
          let low = high taken.0 taken.1 in
          omega (arith, ints, here, low);
      solution = λ i inside.
          let step = solution_from shape choices sound.drawable fit places its its_stand tight.solves axis i inside in
          omega (arith, ints, step);
      tight = λ i inside some.
          let just = tight_from shape choices sound.drawable fit places its its_stand axis (flow_of axis flows) (tight.tight axis) i inside some in
          omega (arith, ints, just);
    }

  -- where an axis has no tight numbers, no places are tight
  pub none_where_none : (flows : Flows) (axis : Axis) →
      ((numbers : ℕ → ℤ) → AreTight (node_count axis shape) (arcs_of axis shape choices) (flow_of axis flows).amounts numbers → ⊥) →
      (places : Places) → AreTightPlaces shape choices flows places → ⊥
  none_where_none flows axis none places tight =
      let fits = tight.solves.places_fit in
      let some : 0 < length places.xy = omega (arith, fits, sound.some_vertex) in
      let shift = some_from_zero places some in
      none _ (raised_tight flows places tight axis (shift_along shift.0 shift.1 axis)
      (λ v inside. (
      let here : v < length places.xy = omega (arith, fits, inside) in
      let there = length-moved shift.0 shift.1 places.xy in
      let low = (shift.2 axis).none_below v (omega (arith, here, there)) in
      let is = along_moved shift.0 shift.1 axis v here in
      omega (arith, ints, low, is))))
    where
      along_moved : (dx dy : ℤ) (axis : Axis) (v : ℕ) → v < length places.xy →
          coordinate axis (moved dx dy places) v ≡ coordinate axis places v +ℤ shift_along dx dy axis
      along_moved dx dy X v inside = ap (along X) (place-moved dx dy places.xy v inside)
      along_moved dx dy Y v inside = ap (along Y) (place-moved dx dy places.xy v inside)

  -- the places of the least tight numbers of both axes are the least tight places
  module _ (flows : Flows) (numbers : Axis → ℕ → ℤ) (places : Places) (stand : StandAt shape numbers places)
      (least : (axis : Axis) → AreLeastTight (node_count axis shape) (arcs_of axis shape choices) (flow_of axis flows).amounts (numbers axis)) where
    made_tight : AreTightPlaces shape choices flows places
    made_tight = record {
      solves = solves_from shape choices sound.drawable fit places numbers stand (λ axis. (least axis).tight.solution);
      tight = λ axis. tight_to shape choices sound.drawable fit places numbers stand axis (flow_of axis flows) (least axis).tight.tight;
    }

    ones : (axis : Axis) (i : ℕ) → i < length (arcs_of axis shape choices) → (arc_at (arcs_of axis shape choices) i).least ≡ pos 1
    ones axis i inside = (solid_from shape choices sound.drawable fit axis _ (comes_from axis shape choices i inside)).one

    made_from_zero : IsFromZero places
    made_from_zero axis =
        let fits = stand.places_fit in
        let first = line_below (other_axis axis) shape 0 sound.some_vertex in
        let found = least_taken (node_count axis shape) (arcs_of axis shape choices) (flow_of axis flows).amounts (numbers axis)
        (graph_of axis).ends (graph_of axis).within (ones axis) (least axis) 0 (node_of axis shape 0) first
        ((least axis).tight.from_zero (node_of axis shape 0) first) in
        let taken = node_taken axis shape found.0 found.1 in
        record {
          none_below = λ v inside.
              let here : v < shape.plan.vertices = omega (arith, fits, inside) in
              let is = stand.each axis v here in
              let low = (least axis).tight.from_zero (node_of axis shape v) (line_below (other_axis axis) shape v here) in
              omega (arith, ints, is, low);
          reached = (taken.0, omega (arith, fits, taken.1), stands shape choices sound.drawable fit places numbers stand axis found.0 taken.0 taken.1 taken.2 ∙ found.2);
        }

    pub least_tight_places : AreLeastTightPlaces shape choices flows places
    least_tight_places = record {
      tight = made_tight;
      from_zero = made_from_zero;
      lowest = λ others also nowhere_negative axis v inside.
          let fits = stand.places_fit in
          let other_fits = also.solves.places_fit in
          let here : v < shape.plan.vertices = omega (arith, fits, inside) in
          let is = stand.each axis v here in
          let low = (least axis).least _ (raised_tight flows others also axis (pos 0)
          (λ w w_in. (let high = nowhere_negative axis w (omega (arith, other_fits, w_in)) in omega (arith, ints, high))))
          (node_of axis shape v) (line_below (other_axis axis) shape v here) in
          let there = its_at others also axis v here in
          omega (arith, ints, is, low, there);
    }
      where
        its_at : (others : Places) (also : AreTightPlaces shape choices flows others) (axis : Axis) (v : ℕ) → v < shape.plan.vertices →
            coordinate axis others v ≡ own_numbers shape others axis (node_of axis shape v)
        its_at others also axis v inside = (stand_at_own shape others also.solves.ways also.solves.places_fit).each axis v inside
