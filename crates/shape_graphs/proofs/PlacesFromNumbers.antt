-- Places that solve the choices, made from numbers on the nodes of the two graphs.
use Rattle.std.proofs.Common.{◌≡◌, ℕ, ◌<◌, List, length, map, sym, ap, refl, ◌∙◌, arith, ℤ}
use Rattle.std.specs.List.{range_with_len}
use Rattle.std.proofs.lemmas.Int.{ints}
use Rattle.std.proofs.lemmas.List.FromFn.{get_or-map-range_with_len, length-map-range_with_len}
use Rattle.compact_types.specs.declared.places.Axis.{Axis}
use Rattle.compact_types.specs.declared.places.Axis.TheVariants.{X, Y}
use Rattle.compact_types.specs.declared.places.Point.{Point}
use Rattle.compact_types.specs.declared.places.Places.{Places}
use Rattle.compact_types.specs.declared.search.Choice.{Choice}
use Rattle.compact_types.specs.declared.plan.Shape.{Shape}
use Rattle.compact_types.specs.Lookups.{along, place, origin}
use Rattle.bars.specs.Segments.{node_of}
use Rattle.bars.specs.Solutions.{HasDrawing, Fit, Solves}
use Rattle.shape_graphs.specs.declared.graph.Arc.{Arc}
use Rattle.shape_graphs.specs.Arcs.{arc_at}
use Rattle.shape_graphs.specs.Flows.{IsSolution}
use Rattle.shape_graphs.specs.Graphs.{arcs_of}
use Rattle.shape_graphs.specs.Paths.{HasPath, HasCycle}
use Rattle.shape_graphs.specs.Paths.HasPath.{along_arc, arc_and_path}
use Rattle.shape_graphs.specs.Places.{SolvesGraphs}
use Rattle.shape_graphs.proofs.GraphArcs.{comes_from}
use Rattle.shape_graphs.proofs.NumbersFromPlaces.{solid_from, path_grows, solves_from_graphs}
use Rattle.shape_graphs.proofs.SolutionLemmas.{some_solution}

-- places by numbers on the nodes of the two graphs
module _ (shape : Shape) (numbers : Axis → ℕ → ℤ) where
  abbrev point_by : ℕ → Point
  point_by v = record { x = numbers X (node_of X shape v); y = numbers Y (node_of Y shape v) }

  abbrev pub places_by : Places
  places_by = record { xy = map point_by (range_with_len 0 shape.plan.vertices) }

  pub places_by_fit : length places_by.xy ≡ shape.plan.vertices
  places_by_fit = length-map-range_with_len point_by 0 shape.plan.vertices

  along_point : (axis : Axis) (v : ℕ) → along axis (point_by v) ≡ numbers axis (node_of axis shape v)
  along_point X v = refl
  along_point Y v = refl

  pub along_places_by : (axis : Axis) (v : ℕ) → v < shape.plan.vertices → along axis (place places_by.xy v) ≡ numbers axis (node_of axis shape v)
  along_places_by axis v within =
      ap (along axis) (get_or-map-range_with_len point_by 0 shape.plan.vertices v v origin within (omega arith)) ∙ along_point axis v

-- numbers that solve the graphs give places that solve the choices
solved_by : (shape : Shape) (choices : List Choice) (numbers : Axis → ℕ → ℤ) → ((axis : Axis) → IsSolution (arcs_of axis shape choices) (numbers axis)) →
    SolvesGraphs shape choices (places_by shape numbers)
solved_by shape choices numbers solve = record {
  places_fit = places_by_fit shape numbers;
  level = λ axis v w hv hw same. along_places_by shape numbers axis v hv ∙ ap (numbers axis) same ∙ sym (along_places_by shape numbers axis w hw);
  met = λ axis i within v w hv hw from to.
      let step = solve axis i within in
      let low = along_places_by shape numbers axis v hv ∙ ap (numbers axis) from in
      let high = along_places_by shape numbers axis w hw ∙ ap (numbers axis) to in
      omega (arith, ints, step, low, high);
}

-- a path begins with an arc
path_begins : (arcs : List Arc) (a b : ℕ) → HasPath arcs a b → (i : ℕ) × (i < length arcs) × ((arc_at arcs i).from ≡ a)
path_begins arcs a b (along_arc i within) = (i, within, refl)
path_begins arcs a b (arc_and_path i end within rest) = (i, within, refl)

module _ (shape : Shape) (choices : List Choice) (drawing : HasDrawing shape) (fit : Fit shape choices) where
  pub no_cycle_where_solved : (places : Places) → Solves shape choices places → (axis : Axis) → HasCycle (arcs_of axis shape choices) → ⊥
  no_cycle_where_solved places solves axis cycle =
      let first = path_begins (arcs_of axis shape choices) cycle.0 cycle.0 cycle.1 in
      let solid = solid_from shape choices drawing fit axis (arc_at (arcs_of axis shape choices) first.0) (comes_from axis shape choices first.0 first.1) in
      let vertex = solid.from in
      let at : node_of axis shape vertex.0 ≡ cycle.0 = vertex.2 ∙ first.2 in
      let grows = path_grows shape choices drawing fit places solves axis cycle.0 cycle.0 cycle.1 vertex.0 vertex.0 vertex.1 vertex.1 at at in
      omega (arith, ints, grows)

  pub solved_without_cycle : ((axis : Axis) → HasCycle (arcs_of axis shape choices) → ⊥) → (places : Places) × Solves shape choices places
  solved_without_cycle none =
      let numbers : Axis → ℕ → ℤ = λ axis. (some_solution (arcs_of axis shape choices) (none axis)).0 in (
        places_by shape numbers,
        solves_from_graphs shape choices drawing fit (places_by shape numbers)
            (solved_by shape choices numbers (λ axis. (some_solution (arcs_of axis shape choices) (none axis)).1)),
      )
