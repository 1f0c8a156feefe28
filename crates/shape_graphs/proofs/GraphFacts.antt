-- The graphs of a shape and a list of choices are graphs.
use Rattle.std.proofs.Common.{◌≡◌, ℕ, ◌<◌, ◌≤◌, List, length, subst, sym, arith, length-append}
use Rattle.std.proofs.lemmas.Int.{ints}
use Rattle.compact_types.specs.declared.places.Axis.{Axis}
use Rattle.compact_types.specs.declared.search.Choice.{Choice}
use Rattle.compact_types.specs.declared.plan.Shape.{Shape}
use Rattle.compact_types.specs.Lookups.{other_axis}
use Rattle.bars.specs.Segments.{node_count}
use Rattle.bars.specs.Solutions.{Fit, IsSound, choice_at}
use Rattle.bars.proofs.Laws.{line_below}
use Rattle.shape_graphs.specs.declared.graph.Arc.{Arc}
use Rattle.shape_graphs.specs.Arcs.{arc_at, IsArcWithin, AreGraph}
use Rattle.shape_graphs.specs.Graphs.{piece_arc, side_arc, piece_arcs, choice_arcs, arcs_of}
use Rattle.shape_graphs.proofs.GraphArcs.{ComesFrom, comes_from}
use Rattle.shape_graphs.proofs.GraphArcs.ComesFrom.{from_piece, from_choice}
use Rattle.shape_graphs.proofs.NumbersFromPlaces.{IsTaken, solid_from}
use Rattle.shape_graphs.proofs.FewArcs.{few_piece_arcs, kept_length}

pub taken_below : (axis : Axis) (shape : Shape) (node : ℕ) → IsTaken axis shape node → node < node_count axis shape
taken_below axis shape node taken =
    let P : ℕ → Type 0 = λ n. n < node_count axis shape in
    subst P taken.2 (line_below (other_axis axis) shape taken.0 taken.1)

piece_within : (axis : Axis) (shape : Shape) (i : ℕ) → IsArcWithin (piece_arc axis shape i)
piece_within axis shape i = record { some_least = omega (arith, ints); most_least = omega (arith, ints); some_pull = omega (arith, ints); most_pull = omega (arith, ints) }

side_within : (shape : Shape) (s t side : ℕ) → IsArcWithin (side_arc shape s t side)
side_within shape s t side = record { some_least = omega (arith, ints); most_least = omega (arith, ints); some_pull = omega (arith, ints); most_pull = omega (arith, ints) }

arc_within : (axis : Axis) (shape : Shape) (choices : List Choice) (arc : Arc) → ComesFrom axis shape choices arc → IsArcWithin arc
arc_within axis shape choices arc (from_piece i goes is) = subst IsArcWithin is (piece_within axis shape i)
arc_within axis shape choices arc (from_choice j keeps is) =
    subst IsArcWithin is (side_within shape (choice_at choices j).s (choice_at choices j).t (choice_at choices j).side)

pub are_graph : (axis : Axis) (shape : Shape) (choices : List Choice) → IsSound shape → Fit shape choices → AreGraph (node_count axis shape) (arcs_of axis shape choices)
are_graph axis shape choices sound fit = record {
  ends = λ k within.
      let solid = solid_from shape choices sound.drawable fit axis (arc_at (arcs_of axis shape choices) k) (comes_from axis shape choices k within) in
      (taken_below axis shape _ solid.from, taken_below axis shape _ solid.to);
  few =
      let pieces : length (piece_arcs axis shape) ≤ shape.plan.vertices = few_piece_arcs axis shape sound.drawable in
      let chosen : length (choice_arcs axis shape choices) ≤ length choices = kept_length _ choices in
      omega (arith, length-append (piece_arcs axis shape) (choice_arcs axis shape choices), pieces, chosen, sound.few_vertices, fit.few);
  within = λ k within. arc_within axis shape choices (arc_at (arcs_of axis shape choices) k) (comes_from axis shape choices k within);
}

pub are_graph_at : (axis : Axis) (shape : Shape) (choices : List Choice) (nodes : ℕ) (arcs : List Arc) → IsSound shape → Fit shape choices →
    nodes ≡ node_count axis shape → arcs ≡ arcs_of axis shape choices → AreGraph nodes arcs
are_graph_at axis shape choices nodes arcs sound fit is_nodes is_arcs =
    subst (λ (n : ℕ). AreGraph n arcs) (sym is_nodes)
    (subst (λ (l : List Arc). AreGraph (node_count axis shape) l) (sym is_arcs) (are_graph axis shape choices sound fit))
