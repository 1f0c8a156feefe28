-- Places that solve a list of choices, as numbers on the nodes of the two graphs.
use Rattle.std.proofs.Common.{◌≡◌, ℕ, zero, suc, pos, ◌+ℤ◌, ◌<◌, ◌≤ℤ◌, List, length, subst, sym, ap, refl, ◌∙◌, arith}
use Rattle.std.proofs.lemmas.Int.{ints}
use Rattle.compact_types.specs.declared.places.Axis.{Axis}
use Rattle.compact_types.specs.declared.places.Places.{Places}
use Rattle.compact_types.specs.declared.search.Choice.{Choice}
use Rattle.compact_types.specs.declared.plan.Shape.{Shape}
use Rattle.compact_types.specs.Drawings.{HasWays}
use Rattle.compact_types.specs.Lookups.{piece_at, way_at, axis_of, other_axis}
use Rattle.compact_types.proofs.Laws.{way_from_straight}
use Rattle.bars.specs.Lines.{line_of}
use Rattle.bars.specs.Segments.{segment_count, node_of}
use Rattle.bars.specs.Sides.{side_axis, first_at_side, second_at_side, SideHolds}
use Rattle.bars.specs.Solutions.{HasDrawing, Fit, Solves, choice_at}
use Rattle.bars.proofs.Laws.{GoesAlong, low_of, high_of, coordinate, rises, level_node, low_is_vertex, high_is_vertex, low_vertex, number_from_in_line, ends_in_line, other_twice, high_vertex, low_bounds, high_bounds}
use Rattle.shape_graphs.specs.declared.graph.Arc.{Arc}
use Rattle.shape_graphs.specs.Arcs.{arc_at}
use Rattle.shape_graphs.specs.Graphs.{piece_arc, side_arc, arcs_of}
use Rattle.shape_graphs.specs.Paths.{HasPath}
use Rattle.shape_graphs.specs.Paths.HasPath.{along_arc, arc_and_path}
use Rattle.shape_graphs.specs.Separation.{HasSidePath}
use Rattle.shape_graphs.specs.Places.{MeetArcs, SolvesGraphs}
use Rattle.shape_graphs.proofs.GraphArcs.{ComesFrom, comes_from, has_piece_arc, has_choice_arc}
use Rattle.shape_graphs.proofs.GraphArcs.ComesFrom.{from_piece, from_choice}

-- of a pair below a bound both are below it, whichever stands first at a side
pub first_below : (side s t n : ℕ) → s < n → t < n → first_at_side side s t < n
first_below zero s t n first second = first
first_below (suc zero) s t n first second = second
first_below (suc (suc zero)) s t n first second = first
first_below (suc (suc (suc k))) s t n first second = second

-- the node is that of a vertex
abbrev pub IsTaken : Axis → Shape → ℕ → Type 0
IsTaken axis shape node = (v : ℕ) × (v < shape.plan.vertices) × (node_of axis shape v ≡ node)

-- the ends of the arc are nodes of vertices, and its least is 1
pub record IsSolid (axis : Axis) (shape : Shape) (arc : Arc) : Type 0 where
  pub from : IsTaken axis shape arc.from
  pub to : IsTaken axis shape arc.to
  pub one : arc.least ≡ pos 1

-- the difference over the arc is at least its least
abbrev MeetsArc : Axis → Shape → Places → Arc → Type 0
MeetsArc axis shape places arc =
    (v w : ℕ) → v < shape.plan.vertices → w < shape.plan.vertices → node_of axis shape v ≡ arc.from → node_of axis shape w ≡ arc.to →
    (coordinate axis places v +ℤ arc.least) ≤ℤ coordinate axis places w

module _ (shape : Shape) (drawing : HasDrawing shape) (s t side : ℕ) (s_within : s < segment_count shape) (t_within : t < segment_count shape) where
  abbrev first : ℕ
  first = first_at_side side s t

  abbrev second : ℕ
  second = second_at_side side s t

  first_within : first < segment_count shape
  first_within = first_below side s t (segment_count shape) s_within t_within

  second_within : second < segment_count shape
  second_within = first_below side t s (segment_count shape) t_within s_within

  -- the arc of a side of two segments
  solid_side : IsSolid (side_axis side) shape (side_arc shape s t side)
  solid_side =
      let high = high_vertex shape first first_within drawing (side_axis side) in
      let low = low_vertex shape second second_within drawing (side_axis side) in
      record { from = (high.0, high.1.is_vertex, high.2); to = (low.0, low.1.is_vertex, low.2); one = refl }

  module _ (places : Places) (ways : HasWays shape places) where
    -- where the side holds, its arc is met
    pub meets_from_side : SideHolds shape places s t side → MeetsArc (side_axis side) shape places (side_arc shape s t side)
    meets_from_side holds v w v_vertex w_vertex from to =
        let high = high_vertex shape first first_within drawing (side_axis side) in
        let low = low_vertex shape second second_within drawing (side_axis side) in
        let step = holds high.0 low.0 high.1 low.1 in
        let level_v = level_node shape places ways (side_axis side) v high.0 (from ∙ sym high.2) in
        let level_w = level_node shape places ways (side_axis side) w low.0 (to ∙ sym low.2) in
        omega (arith, ints, step, level_v, level_w)

    -- where a vertex of the arc's beginning stands before each of its end, the side holds
    pub side_from_step : ((v w : ℕ) → v < shape.plan.vertices → w < shape.plan.vertices →
        node_of (side_axis side) shape v ≡ (side_arc shape s t side).from → node_of (side_axis side) shape w ≡ (side_arc shape s t side).to →
        (coordinate (side_axis side) places v +ℤ pos 1) ≤ℤ coordinate (side_axis side) places w) → SideHolds shape places s t side
    side_from_step step v w on_v on_w =
        let high = high_vertex shape first first_within drawing (side_axis side) in
        let low = low_vertex shape second second_within drawing (side_axis side) in
        let ends = step high.0 low.0 high.1.is_vertex low.1.is_vertex high.2 low.2 in
        let above = high_bounds shape first first_within drawing places ways (side_axis side) v on_v in
        let below = low_bounds shape second second_within drawing places ways (side_axis side) w on_w in
        omega (arith, ints, ends, above, below)

-- where every piece has its way, the arc of a piece is met
meets_piece : (axis : Axis) (shape : Shape) (places : Places) (ways : HasWays shape places) (i : ℕ) → GoesAlong axis shape i → MeetsArc axis shape places (piece_arc axis shape i)
meets_piece axis shape places ways i goes v w v_vertex w_vertex from to =
    let rise = rises axis shape places ways i goes in
    let level_v = level_node shape places ways axis v (low_of shape i) from in
    let level_w = level_node shape places ways axis w (high_of shape i) to in
    omega (arith, ints, rise, level_v, level_w)

module _ (shape : Shape) (choices : List Choice) (drawing : HasDrawing shape) (fit : Fit shape choices) where
  -- the segments of a choice are there
  s_there : (j : ℕ) → j < length choices → (choice_at choices j).s < segment_count shape
  s_there j inside =
      let pair = (fit.each j inside).pair in
      let less = pair.in_order in
      let below = pair.in_shape in
      omega (arith, less, below)

  t_there : (j : ℕ) → j < length choices → (choice_at choices j).t < segment_count shape
  t_there j inside = (fit.each j inside).pair.in_shape

  pub solid_from : (axis : Axis) (arc : Arc) → ComesFrom axis shape choices arc → IsSolid axis shape arc
  solid_from axis arc (from_piece i goes is) =
      subst (λ (a : Arc). IsSolid axis shape a) is (record {
        from = (low_of shape i, low_is_vertex shape i goes.inside, refl);
        to = (high_of shape i, high_is_vertex shape i goes.inside, refl);
        one = refl;
      })
  solid_from axis arc (from_choice j keeps is) =
      subst (λ (a : Arc). IsSolid axis shape a) is
      (subst (λ (x : Axis). IsSolid x shape (side_arc shape (choice_at choices j).s (choice_at choices j).t (choice_at choices j).side)) keeps.along
      (solid_side shape drawing _ _ (choice_at choices j).side (s_there j keeps.inside) (t_there j keeps.inside)))

  module _ (places : Places) (solves : Solves shape choices places) where
    meets_from : (axis : Axis) (arc : Arc) → ComesFrom axis shape choices arc → MeetsArc axis shape places arc
    meets_from axis arc (from_piece i goes is) =
        subst (λ (a : Arc). MeetsArc axis shape places a) is (meets_piece axis shape places solves.ways i goes)
    meets_from axis arc (from_choice j keeps is) =
        subst (λ (a : Arc). MeetsArc axis shape places a) is
        (subst (λ (x : Axis). MeetsArc x shape places (side_arc shape (choice_at choices j).s (choice_at choices j).t (choice_at choices j).side)) keeps.along
        (meets_from_side shape drawing _ _ (choice_at choices j).side (s_there j keeps.inside) (t_there j keeps.inside) places solves.ways (solves.sides j keeps.inside)))

    -- places that solve the choices meet every arc
    pub meets_arcs : (axis : Axis) → MeetArcs axis shape choices places
    meets_arcs axis k within = meets_from axis _ (comes_from axis shape choices k within)

    -- the coordinate grows by at least 1 along a path
    pub path_grows : (axis : Axis) (a b : ℕ) → HasPath (arcs_of axis shape choices) a b → (v w : ℕ) → v < shape.plan.vertices → w < shape.plan.vertices →
        node_of axis shape v ≡ a → node_of axis shape w ≡ b → (coordinate axis places v +ℤ pos 1) ≤ℤ coordinate axis places w
    path_grows axis a b (along_arc k within) v w v_vertex w_vertex from to =
        let solid = solid_from axis _ (comes_from axis shape choices k within) in
        let one = solid.one in
        let met = meets_arcs axis k within v w v_vertex w_vertex from to in
        omega (arith, ints, met, one)
    path_grows axis a b (arc_and_path k c within path) v w v_vertex w_vertex from to =
        let solid = solid_from axis _ (comes_from axis shape choices k within) in
        let one = solid.one in
        let met = meets_arcs axis k within v solid.to.0 v_vertex solid.to.1 from solid.to.2 in
        let rest = path_grows axis _ _ path solid.to.0 w solid.to.1 w_vertex solid.to.2 to in
        omega (arith, ints, met, one, rest)

    -- a side whose arc a path replaces holds
    pub side_from_path : (s t side : ℕ) → s < segment_count shape → t < segment_count shape → HasSidePath shape choices s t side → SideHolds shape places s t side
    side_from_path s t side s_within t_within kept =
        side_from_step shape drawing s t side s_within t_within places solves.ways
        (λ v w v_vertex w_vertex from to. path_grows (side_axis side) _ _ kept v w v_vertex w_vertex from to)

    -- places that solve the choices solve both graphs
    pub graphs_from_solves : SolvesGraphs shape choices places
    graphs_from_solves = record {
      places_fit = solves.places_fit;
      level = λ axis v w v_vertex w_vertex same. level_node shape places solves.ways axis v w same;
      met = meets_arcs;
    }

  module _ (places : Places) (solved : SolvesGraphs shape choices places) where
    ways_from_graphs : HasWays shape places
    ways_from_graphs i inside =
        let axis = axis_of (way_at shape.ways i) in
        let goes : GoesAlong axis shape i = record { inside = inside; along = refl } in
        let arc = has_piece_arc axis shape choices i goes in
        let low_vertex = low_is_vertex shape i inside in
        let high_vertex = high_is_vertex shape i inside in
        let from : node_of axis shape (low_of shape i) ≡ (arc_at (arcs_of axis shape choices) arc.0).from = ap (λ (a : Arc). a.from) (sym arc.2) in
        let to : node_of axis shape (high_of shape i) ≡ (arc_at (arcs_of axis shape choices) arc.0).to = ap (λ (a : Arc). a.to) (sym arc.2) in
        let one : (arc_at (arcs_of axis shape choices) arc.0).least ≡ pos 1 = ap (λ (a : Arc). a.least) arc.2 in
        let met = solved.met axis arc.0 arc.1 (low_of shape i) (high_of shape i) low_vertex high_vertex from to in
        let number = number_from_in_line axis shape _ _ (ends_in_line axis shape i goes) in
        let across : node_of (other_axis axis) shape (low_of shape i) ≡ node_of (other_axis axis) shape (high_of shape i) =
        subst (λ (a : Axis). line_of a shape (low_of shape i) ≡ line_of a shape (high_of shape i)) (sym (other_twice axis)) number in
        way_from_straight (way_at shape.ways i) (piece_at shape.plan.pieces i) places.xy
        (record { before = omega (arith, ints, met, one); level = solved.level (other_axis axis) _ _ low_vertex high_vertex across })

    -- places that solve both graphs solve the choices
    pub solves_from_graphs : Solves shape choices places
    solves_from_graphs = record { places_fit = solved.places_fit; ways = ways_from_graphs; sides = sides }
      where
        sides : (j : ℕ) → j < length choices → SideHolds shape places (choice_at choices j).s (choice_at choices j).t (choice_at choices j).side
        sides j inside =
            let axis = side_axis (choice_at choices j).side in
            let arc = has_choice_arc axis shape choices j (record { inside = inside; along = refl }) in
            let one : (arc_at (arcs_of axis shape choices) arc.0).least ≡ pos 1 = ap (λ (a : Arc). a.least) arc.2 in
            side_from_step shape drawing _ _ (choice_at choices j).side (s_there j inside) (t_there j inside) places ways_from_graphs
            (λ v w v_vertex w_vertex from to. (
            let met = solved.met axis arc.0 arc.1 v w v_vertex w_vertex (from ∙ ap (λ (a : Arc). a.from) (sym arc.2)) (to ∙ ap (λ (a : Arc). a.to) (sym arc.2)) in
            omega (arith, ints, met, one)))
