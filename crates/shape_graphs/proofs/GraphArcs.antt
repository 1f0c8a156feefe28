-- The arcs of the graph of an axis: each comes from a piece along the axis or from a choice.
use Rattle.std.proofs.Common.{◌≡◌, ℕ, ◌<◌, ◌≤◌, ◌+◌, ◌-◌, Bool, true, false, Option, Some, None, List, length, slice_index_or, if◌then◌else◌, ◌⊎◌, inl, inr, subst, sym, ap, refl, ◌∙◌, arith, length-append}
use Rattle.std.specs.List.{range_with_len}
use Rattle.std.proofs.lemmas.Bool.{cases_lt, cond-true}
use Rattle.std.proofs.lemmas.List.{get_or-append_right, get_or_append_left, get_or-append-add}
use Rattle.std.proofs.lemmas.List.FromFn.{length-range_with_len, get_or-range_with_len}
use Rattle.compact_types.specs.declared.places.Axis.{Axis}
use Rattle.compact_types.specs.declared.search.Choice.{Choice}
use Rattle.compact_types.specs.declared.plan.Shape.{Shape}
use Rattle.bars.specs.Lines.{is_axis, is_along}
use Rattle.bars.specs.Sides.{side_axis}
use Rattle.bars.specs.Solutions.{choice_at}
use Rattle.bars.proofs.Laws.{GoesAlong, is_axis_same, is_axis_at}
use Rattle.shape_graphs.specs.declared.graph.Arc.{Arc}
use Rattle.shape_graphs.specs.Arcs.{arc_at, no_arc}
use Rattle.shape_graphs.specs.Graphs.{piece_arc, side_arc, piece_arcs, choice_arcs, arcs_of, piece_arc_along, choice_arc_along}
use Rattle.shape_graphs.proofs.FilterMaps.{filter_map_from, filter_map_has}

-- the side of the choice keeps apart along the axis
pub record KeepsAlong (axis : Axis) (choices : List Choice) (j : ℕ) : Type 0 where
  pub inside : j < length choices
  pub along : side_axis (choice_at choices j).side ≡ axis

-- where the arc comes from
pub data ComesFrom (axis : Axis) (shape : Shape) (choices : List Choice) (arc : Arc) : Type 0 where
  from_piece : (i : ℕ) → GoesAlong axis shape i → piece_arc axis shape i ≡ arc → ComesFrom axis shape choices arc
  from_choice : (j : ℕ) → KeepsAlong axis choices j →
      side_arc shape (choice_at choices j).s (choice_at choices j).t (choice_at choices j).side ≡ arc → ComesFrom axis shape choices arc

-- what is given under a test
given : {B : Type 0} (test : Bool) (x y : B) → (if test then Some x else None) ≡ Some y → (test ≡ true) × (x ≡ y)
given {B} true x y is = (refl, some_same is)
  where
    some_same : Some x ≡ Some y → x ≡ y
    some_same same = cc
given {B} false x y is = absurd (let e : ◌≡◌ {A = Option B} None (Some y) = is in cc)

module _ (axis : Axis) (shape : Shape) (choices : List Choice) where
  abbrev no_choice : Choice
  no_choice = record { s = 0; t = 0; side = 0 }

  abbrev numbers : List ℕ
  numbers = range_with_len 0 (length shape.plan.pieces)

  number_is : (i : ℕ) → i < length shape.plan.pieces → slice_index_or numbers i 0 ≡ i
  number_is i inside = get_or-range_with_len 0 (length shape.plan.pieces) i 0 inside ∙ omega arith

  from_pieces : (k : ℕ) → k < length (piece_arcs axis shape) → ComesFrom axis shape choices (slice_index_or (piece_arcs axis shape) k no_arc)
  from_pieces k within =
      let found = filter_map_from (piece_arc_along axis shape) numbers 0 no_arc k within in
      let fits = length-range_with_len 0 (length shape.plan.pieces) in
      let inside : found.0 < length shape.plan.pieces = omega (arith, found.1, fits) in
      let at : piece_arc_along axis shape found.0 ≡ Some (slice_index_or (piece_arcs axis shape) k no_arc) = ap (piece_arc_along axis shape) (sym (number_is found.0 inside)) ∙ found.2 in
      let is = given (is_along axis shape found.0) _ _ at in
      from_piece found.0 (record { inside = inside; along = is_axis_same _ _ is.0 }) is.1

  from_choices : (k : ℕ) → k < length (choice_arcs axis shape choices) → ComesFrom axis shape choices (slice_index_or (choice_arcs axis shape choices) k no_arc)
  from_choices k within =
      let found = filter_map_from (choice_arc_along axis shape) choices no_choice no_arc k within in
      let is = given (is_axis (side_axis (choice_at choices found.0).side) axis) _ _ found.2 in
      from_choice found.0 (record { inside = found.1; along = is_axis_same _ _ is.0 }) is.1

  -- every arc comes from a piece or from a choice
  pub comes_from : (k : ℕ) → k < length (arcs_of axis shape choices) → ComesFrom axis shape choices (arc_at (arcs_of axis shape choices) k)
  comes_from k within = by_order (cases_lt k (length (piece_arcs axis shape)))
    where
      by_order : (k < length (piece_arcs axis shape)) ⊎ (length (piece_arcs axis shape) ≤ k) → ComesFrom axis shape choices (arc_at (arcs_of axis shape choices) k)
      by_order (inl first) =
          subst (λ (arc : Arc). ComesFrom axis shape choices arc)
          (sym (get_or_append_left (piece_arcs axis shape) (choice_arcs axis shape choices) no_arc k first)) (from_pieces k first)
      by_order (inr second) =
          let both = length-append (piece_arcs axis shape) (choice_arcs axis shape choices) in
          subst (λ (arc : Arc). ComesFrom axis shape choices arc)
          (sym (get_or-append_right (piece_arcs axis shape) (choice_arcs axis shape choices) (length (piece_arcs axis shape)) k no_arc refl second))
          (from_choices (k - length (piece_arcs axis shape)) (omega (arith, both, within, second)))

  -- an arc of the graph
  abbrev pub HasArc : Arc → Type 0
  HasArc arc = (k : ℕ) × (k < length (arcs_of axis shape choices)) × (arc_at (arcs_of axis shape choices) k ≡ arc)

  -- every piece along the axis has its arc
  pub has_piece_arc : (i : ℕ) → GoesAlong axis shape i → HasArc (piece_arc axis shape i)
  has_piece_arc i goes =
      let fits = length-range_with_len 0 (length shape.plan.pieces) in
      let inside = goes.inside in
      let gives : piece_arc_along axis shape (slice_index_or numbers i 0) ≡ Some (piece_arc axis shape i) = ap (piece_arc_along axis shape) (number_is i inside) ∙ cond-true (is_along axis shape i) _ _ (is_axis_at _ _ goes.along) in
      let found = filter_map_has (piece_arc_along axis shape) numbers 0 no_arc i (piece_arc axis shape i) (omega (arith, fits, inside)) gives in
      let both = length-append (piece_arcs axis shape) (choice_arcs axis shape choices) in
      (found.0, omega (arith, both, found.1), get_or_append_left (piece_arcs axis shape) (choice_arcs axis shape choices) no_arc found.0 found.1 ∙ found.2)

  -- every choice that keeps apart along the axis has its arc
  pub has_choice_arc : (j : ℕ) → KeepsAlong axis choices j → HasArc (side_arc shape (choice_at choices j).s (choice_at choices j).t (choice_at choices j).side)
  has_choice_arc j keeps =
      let gives : choice_arc_along axis shape (choice_at choices j) ≡ Some (side_arc shape (choice_at choices j).s (choice_at choices j).t (choice_at choices j).side) =
      cond-true (is_axis (side_axis (choice_at choices j).side) axis) _ _ (is_axis_at _ _ keeps.along) in
      let found = filter_map_has (choice_arc_along axis shape) choices no_choice no_arc j _ keeps.inside gives in
      let both = length-append (piece_arcs axis shape) (choice_arcs axis shape choices) in
      (length (piece_arcs axis shape) + found.0, omega (arith, both, found.1), get_or-append-add (piece_arcs axis shape) (choice_arcs axis shape choices) found.0 no_arc ∙ found.2)
