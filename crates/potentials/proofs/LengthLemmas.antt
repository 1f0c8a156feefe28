-- The length of places is the length of their numbers on both graphs.
use Rattle.std.proofs.Common.{◌≡◌, ℕ, ◌+◌, ◌<◌, ◌⊎◌, inl, inr, ℤ, pos, Bool, true, false, Option, Some, None, List, ◌++◌, length, refl, sym, ap, ◌∙◌, arith}
use Rattle.std.specs.Prelude.{◌+ℤ◌, ◌-ℤ◌, ◌*ℤ◌, ◌<ℤ◌, if◌then◌else◌}
use Rattle.std.proofs.lemmas.Int.{ints, clamps}
use Rattle.std.proofs.lemmas.Bool.{cases_Bool, cond-true, cond-false}
use lib.IntN.{zero-*ℤ, suc_ℤ-*ℤ}
use Rattle.compact_types.specs.declared.places.Axis.{Axis}
use Rattle.compact_types.specs.declared.places.Axis.TheVariants.{X, Y}
use Rattle.compact_types.specs.declared.places.Places.{Places}
use Rattle.compact_types.specs.declared.plan.Piece.{Piece}
use Rattle.compact_types.specs.declared.plan.Shape.{Shape}
use Rattle.compact_types.specs.declared.plan.Way.{Way}
use Rattle.compact_types.specs.declared.plan.Way.TheVariants.{East, West, High, Low}
use Rattle.compact_types.specs.declared.search.Choice.{Choice}
use Rattle.compact_types.specs.Axes.{low_end, high_end, length_along}
use Rattle.compact_types.specs.Drawings.{begin_of, end_of}
use Rattle.compact_types.specs.Lengths.{gap, length_of}
use Rattle.compact_types.specs.Lookups.{piece_at, way_at, axis_of, other_axis}
use Rattle.compact_types.proofs.Laws.{sum_to-add, sum_to-same}
use Rattle.bars.specs.Lines.{is_axis, is_along}
use Rattle.bars.specs.Sides.{side_axis}
use Rattle.bars.specs.Solutions.{Solves}
use Rattle.bars.proofs.Laws.{GoesAlong, low_of, high_of, coordinate, straight, rises, low_is_vertex, high_is_vertex, is_axis_same, is_axis_other, axis_or_other}
use Rattle.shape_graphs.specs.declared.graph.Arc.{Arc}
use Rattle.shape_graphs.specs.Flows.{length_over}
use Rattle.shape_graphs.specs.Graphs.{arcs_of, piece_arc, piece_arcs, piece_arc_along, choice_arcs, choice_arc_along, side_arc}
use Rattle.potentials.specs.Standing.{StandAt}
use Rattle.potentials.proofs.ArcSums.{total, share, total-append, total-range, total-nothing}

-- how far apart the ends of a piece are, by its low and its high end
gap_rising : (way : Way) (piece : Piece) (f : ℕ → ℤ) → f (low_end way piece) <ℤ f (high_end way piece) →
    gap (f piece.from) (f piece.to) ≡ f (high_end way piece) -ℤ f (low_end way piece)
gap_rising East piece f less = omega (arith, ints, clamps, less)
gap_rising West piece f less = omega (arith, ints, clamps, less)
gap_rising High piece f less = omega (arith, ints, clamps, less)
gap_rising Low piece f less = omega (arith, ints, clamps, less)

gap_level : (way : Way) (piece : Piece) (f : ℕ → ℤ) → f (low_end way piece) ≡ f (high_end way piece) → gap (f piece.from) (f piece.to) ≡ pos 0
gap_level East piece f same = omega (arith, ints, clamps, same)
gap_level West piece f same = omega (arith, ints, clamps, same)
gap_level High piece f same = omega (arith, ints, clamps, same)
gap_level Low piece f same = omega (arith, ints, clamps, same)

one_time : (z : ℤ) → pos 1 *ℤ z ≡ z
one_time z = let more = suc_ℤ-*ℤ (pos 0) z in let none = zero-*ℤ z in omega (arith, ints, more, none)

-- an axis that is not the first is the one across
across_of : (a b : Axis) → is_axis a b ≡ false → other_axis a ≡ b
across_of a b is = by_cases (axis_or_other b a)
  where
    by_cases : (b ≡ a) ⊎ (b ≡ other_axis a) → other_axis a ≡ b
    by_cases (inl same) = absurd (is_axis_other a b is (sym same))
    by_cases (inr other) = sym other

-- what an arc adds to the length
abbrev pub pulled : (ℕ → ℤ) → Arc → ℤ
pulled numbers arc = arc.pull *ℤ (numbers arc.to -ℤ numbers arc.from)

-- the arcs of choices add nothing
choices_add_nothing : (axis : Axis) (shape : Shape) (choices : List Choice) (numbers : ℕ → ℤ) →
    total (pulled numbers) (choice_arcs axis shape choices) ≡ pos 0
choices_add_nothing axis shape choices numbers =
    total-nothing (pulled numbers) (choice_arc_along axis shape) choices (λ choice. each choice (is_axis (side_axis choice.side) axis))
  where
    each : (choice : Choice) (test : Bool) →
        share (pulled numbers) (if test then Some (side_arc shape choice.s choice.t choice.side) else None) ≡ pos 0
    each choice true = zero-*ℤ (numbers (side_arc shape choice.s choice.t choice.side).to -ℤ numbers (side_arc shape choice.s choice.t choice.side).from)
    each choice false = refl

module _ (shape : Shape) (choices : List Choice) (places : Places) (solves : Solves shape choices places)
    (numbers : Axis → ℕ → ℤ) (stand : StandAt shape numbers places) where
  -- what a piece adds along the axis
  piece_adds : (axis : Axis) (i : ℕ) → i < length shape.plan.pieces →
      gap (coordinate axis places (piece_at shape.plan.pieces i).from) (coordinate axis places (piece_at shape.plan.pieces i).to)
      ≡ share (pulled (numbers axis)) (piece_arc_along axis shape i)
  piece_adds axis i inside = by_test (cases_Bool (is_along axis shape i))
    where
      by_test : (is_along axis shape i ≡ true) ⊎ (is_along axis shape i ≡ false) →
          gap (coordinate axis places (piece_at shape.plan.pieces i).from) (coordinate axis places (piece_at shape.plan.pieces i).to)
          ≡ share (pulled (numbers axis)) (piece_arc_along axis shape i)
      by_test (inl is) =
          let goes : GoesAlong axis shape i = record { inside = inside; along = is_axis_same _ _ is } in
          let apart = gap_rising (way_at shape.ways i) (piece_at shape.plan.pieces i) (coordinate axis places)
          (rises axis shape places solves.ways i goes) in
          let low = stand.each axis (low_of shape i) (low_is_vertex shape i inside) in
          let high = stand.each axis (high_of shape i) (high_is_vertex shape i inside) in
          let arc : pulled (numbers axis) (piece_arc axis shape i) ≡ share (pulled (numbers axis)) (piece_arc_along axis shape i) =
          ap (share (pulled (numbers axis))) (sym (cond-true (is_along axis shape i) (Some (piece_arc axis shape i)) None is)) in
          let once = one_time (numbers axis (piece_arc axis shape i).to -ℤ numbers axis (piece_arc axis shape i).from) in
          omega (arith, ints, apart, low, high, once) ∙ arc
      by_test (inr is) =
          let own = axis_of (way_at shape.ways i) in
          let goes : GoesAlong own shape i = record { inside = inside; along = refl } in
          let across : other_axis own ≡ axis = across_of own axis is in
          let level : coordinate axis places (low_of shape i) ≡ coordinate axis places (high_of shape i) =
          Rattle.std.proofs.Common.subst (λ (a : Axis). coordinate a places (low_of shape i) ≡ coordinate a places (high_of shape i)) across
          (straight own shape places solves.ways i goes).level in
          gap_level (way_at shape.ways i) (piece_at shape.plan.pieces i) (coordinate axis places) level
          ∙ ap (share (pulled (numbers axis))) (sym (cond-false (is_along axis shape i) (Some (piece_arc axis shape i)) None is))

  -- the length along the axis
  pub length_of_axis : (axis : Axis) → length_along axis shape.plan places ≡ length_over (arcs_of axis shape choices) (numbers axis)
  length_of_axis axis =
      let f = pulled (numbers axis) in
      let pieces : length_along axis shape.plan places ≡ total f (piece_arcs axis shape) =
      sum_to-same _ _ (length shape.plan.pieces) (λ i inside. (
      let start : 0 + i ≡ i = omega arith in
      piece_adds axis i inside ∙ ap (λ (k : ℕ). share f (piece_arc_along axis shape k)) (sym start)))
      ∙ sym (total-range f (piece_arc_along axis shape) 0 (length shape.plan.pieces)) in
      let chosen = choices_add_nothing axis shape choices (numbers axis) in
      let whole = total-append f (piece_arcs axis shape) (choice_arcs axis shape choices) in
      omega (arith, ints, pieces, chosen, whole)

  pub length_is : length_of shape.plan places ≡ length_over (arcs_of X shape choices) (numbers X) +ℤ length_over (arcs_of Y shape choices) (numbers Y)
  length_is =
      let both : length_of shape.plan places ≡ length_along X shape.plan places +ℤ length_along Y shape.plan places =
      sum_to-add (λ i. gap (begin_of shape.plan places i).x (end_of shape.plan places i).x)
      (λ i. gap (begin_of shape.plan places i).y (end_of shape.plan places i).y) (length shape.plan.pieces) in
      let x = length_of_axis X in
      let y = length_of_axis Y in
      omega (arith, ints, both, x, y)
