-- Lengths are not negative, and a shape that has a drawing has few pieces.
use Rattle.std.proofs.Common.{◌≡◌, ℕ, zero, suc, ◌+◌, ◌*◌, ◌≤◌, ℤ, pos, Some, None, length, refl, sym, ap, ◌∙◌, arith}
use Rattle.std.specs.Prelude.{◌+ℤ◌, ◌≤ℤ◌, if◌then◌else◌}
use Rattle.std.proofs.lemmas.Int.{ints, clamps}
use Rattle.compact_types.specs.declared.places.Axis.{Axis}
use Rattle.compact_types.specs.declared.places.Axis.TheVariants.{X, Y}
use Rattle.compact_types.specs.declared.places.Places.{Places}
use Rattle.compact_types.specs.declared.plan.Plan.{Plan}
use Rattle.compact_types.specs.declared.plan.Shape.{Shape}
use Rattle.compact_types.specs.Drawings.{begin_of, end_of}
use Rattle.compact_types.specs.Lengths.{distance, plain_length_of}
use Rattle.compact_types.specs.Lookups.{axis_of, way_at}
use Rattle.compact_types.specs.Sums.{sum_to}
use Rattle.compact_types.proofs.Laws.{sum_to-add, sum_to-same}
use Rattle.bars.specs.Lines.{is_axis}
use Rattle.bars.specs.Solutions.{HasDrawing}
use Rattle.shape_graphs.specs.declared.graph.Arc.{Arc}
use Rattle.shape_graphs.specs.Graphs.{piece_arc, piece_arcs, piece_arc_along}
use Rattle.shape_graphs.proofs.Laws.{few_piece_arcs}
use Rattle.potentials.proofs.FlowBounds.{sum_from_zero}
use Rattle.potentials.proofs.ArcSums.{share, total-range}

-- a length is not negative
pub length_from_zero : (plan : Plan) (places : Places) → pos 0 ≤ℤ (plain_length_of plan places)
length_from_zero plan places =
    sum_from_zero (λ i. distance (begin_of plan places i) (end_of plan places i)) (length plan.pieces) (λ i inside. omega (arith, ints, clamps))

-- a sum of ones
ones : (n : ℕ) → sum_to (λ i. pos 1) n ≡ pos n
ones zero = refl
ones (suc n) = omega (arith, ints, ones n)

-- one for an arc
abbrev one : Arc → ℤ
one arc = pos 1

along_one : (a : Axis) (arc other : Arc) →
    share one (if is_axis a X then Some arc else None) +ℤ share one (if is_axis a Y then Some other else None) ≡ pos 1
along_one X arc other = omega (arith, ints)
along_one Y arc other = omega (arith, ints)

arcs_along : (axis : Axis) (shape : Shape) → sum_to (λ i. share one (piece_arc_along axis shape i)) (length shape.plan.pieces) ≡ pos (length (piece_arcs axis shape))
arcs_along axis shape =
    sum_to-same _ _ (length shape.plan.pieces) (λ i inside. (let start : i ≡ 0 + i = omega arith in ap (λ (k : ℕ). share one (piece_arc_along axis shape k)) start))
    ∙ sym (total-range one (piece_arc_along axis shape) 0 (length shape.plan.pieces))
    ∙ ones (length (piece_arcs axis shape))

-- there are at most twice as many pieces as vertices
pub few_pieces : (shape : Shape) → HasDrawing shape → length shape.plan.pieces ≤ 2 * shape.plan.vertices
few_pieces shape drawing =
    let both = sum_to-add (λ i. share one (piece_arc_along X shape i)) (λ i. share one (piece_arc_along Y shape i)) (length shape.plan.pieces) in
    let each : sum_to (λ i. share one (piece_arc_along X shape i) +ℤ share one (piece_arc_along Y shape i)) (length shape.plan.pieces) ≡ sum_to (λ i. pos 1) (length shape.plan.pieces) =
    sum_to-same _ _ (length shape.plan.pieces) (λ i inside. along_one (axis_of (way_at shape.ways i)) (piece_arc X shape i) (piece_arc Y shape i)) in
    let all = ones (length shape.plan.pieces) in
    let x = arcs_along X shape in
    let y = arcs_along Y shape in
    let few_x = few_piece_arcs X shape drawing in
    let few_y = few_piece_arcs Y shape drawing in
    omega (arith, ints, both, each, all, x, y, few_x, few_y)
