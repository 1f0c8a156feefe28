-- The graphs of a list of choices and one more.
use Rattle.std.proofs.Common.{◌≡◌, ℕ, zero, suc, ◌<◌, ◌≤◌, false, Option, Some, None, List, [], ◌∷◌, ◌++◌, length, take, drop, subst, sym, ap, refl, ◌∙◌, arith}
use Rattle.std.specs.List.{filter_map, cons_option}
use Rattle.std.proofs.lemmas.Bool.{cond-true, cond-false}
use Rattle.std.proofs.lemmas.List.{append_assoc, append-nil, get_or_append_left, take-append-drop}
use Rattle.std.proofs.lemmas.List.Elements.{filter_map-append}
use Rattle.std.proofs.Common.{length-append}
use Rattle.compact_types.specs.declared.places.Axis.{Axis}
use Rattle.compact_types.specs.declared.places.Axis.TheVariants.{X, Y}
use Rattle.compact_types.specs.declared.plan.Shape.{Shape}
use Rattle.compact_types.specs.declared.search.Choice.{Choice}
use Rattle.bars.specs.Lines.{is_axis}
use Rattle.bars.specs.Segments.{node_count}
use Rattle.bars.specs.Sides.{side_axis}
use Rattle.bars.specs.Solutions.{with_choice, choice_at}
use Rattle.bars.proofs.Laws.{is_axis_at}
use Rattle.shape_graphs.specs.declared.graph.Arc.{Arc}
use Rattle.shape_graphs.specs.Arcs.{arc_at, no_arc}
use Rattle.shape_graphs.specs.Graphs.{side_arc, piece_arcs, choice_arc_along, choice_arcs, arcs_of}
use Rattle.shape_graphs.specs.Paths.{HasPath}
use Rattle.shape_graphs.specs.Paths.HasPath.{along_arc, arc_and_path}
use Rattle.shape_graphs.specs.Separation.{IsSeparated}
use Rattle.shape_graphs.proofs.Laws.{has_choice_arc}
use Rattle.reach_rows.specs.declared.rows.ReachRows.{ReachRows}
use Rattle.reach_rows.specs.Reaching.{AreRowsOf}

-- the sides 0 and 1 keep apart along x, all others along y
pub side_low : (side : ℕ) → side < 2 → side_axis side ≡ X
side_low zero below = refl
side_low (suc zero) below = refl
side_low (suc (suc n)) below = absurd (omega arith)

pub side_high : (side : ℕ) → 2 ≤ side → side_axis side ≡ Y
side_high zero above = absurd (omega arith)
side_high (suc zero) above = absurd (omega arith)
side_high (suc (suc n)) above = refl

module _ (axis : Axis) (shape : Shape) (choices : List Choice) (s t side : ℕ) where
  abbrev more : List Arc → List Arc
  more l = piece_arcs axis shape ++ (choice_arcs axis shape choices ++ l)

  split : arcs_of axis shape (with_choice choices s t side) ≡ more (cons_option (choice_arc_along axis shape (record { s = s; t = t; side = side })) [])
  split = ap (λ (l : List Arc). piece_arcs axis shape ++ l) (filter_map-append (choice_arc_along axis shape) choices (record { s = s; t = t; side = side } ∷ []))

  -- the arc of the choice comes last, in the graph of its side
  pub arcs_with : side_axis side ≡ axis → arcs_of axis shape (with_choice choices s t side) ≡ arcs_of axis shape choices ++ side_arc shape s t side ∷ []
  arcs_with same =
      split ∙
      ap (λ (o : Option Arc). more (cons_option o [])) (cond-true (is_axis (side_axis side) axis) (Some (side_arc shape s t side)) None (is_axis_at _ _ same)) ∙
      sym (append_assoc (piece_arcs axis shape) (choice_arcs axis shape choices) (side_arc shape s t side ∷ []))

  -- the other graph stays
  pub arcs_without : is_axis (side_axis side) axis ≡ false → arcs_of axis shape (with_choice choices s t side) ≡ arcs_of axis shape choices
  arcs_without other =
      split ∙
      ap (λ (o : Option Arc). more (cons_option o [])) (cond-false (is_axis (side_axis side) axis) (Some (side_arc shape s t side)) None other) ∙
      ap (λ (l : List Arc). piece_arcs axis shape ++ l) (append-nil (choice_arcs axis shape choices))

-- rows of a graph, with their own number of nodes
pub own_nodes : (rows : ReachRows) (n : ℕ) (arcs : List Arc) → AreRowsOf rows n arcs → AreRowsOf rows rows.nodes arcs
own_nodes rows n arcs are = subst (λ (m : ℕ). AreRowsOf rows m arcs) (sym are.nodes_of) are

-- a path stays where arcs come after
path_stays : (arcs others : List Arc) (a b : ℕ) → HasPath arcs a b → HasPath (arcs ++ others) a b
path_stays arcs others a b (along_arc i within) = by_arc (get_or_append_left arcs others no_arc i within)
  where
    by_arc : arc_at (arcs ++ others) i ≡ arc_at arcs i → HasPath (arcs ++ others) (arc_at arcs i).from (arc_at arcs i).to
    by_arc same =
        let both = length-append arcs others in
        subst (λ (arc : Arc). HasPath (arcs ++ others) arc.from arc.to) same (along_arc i (omega (arith, both, within)))
path_stays arcs others a b (arc_and_path i c within path) = by_arc (get_or_append_left arcs others no_arc i within) (path_stays arcs others _ b path)
  where
    by_arc : arc_at (arcs ++ others) i ≡ arc_at arcs i → HasPath (arcs ++ others) (arc_at arcs i).to b → HasPath (arcs ++ others) (arc_at arcs i).from b
    by_arc same rest =
        let both = length-append arcs others in
        let inside : i < length (arcs ++ others) = omega (arith, both, within) in
        subst (λ (arc : Arc). HasPath (arcs ++ others) arc.to b → HasPath (arcs ++ others) arc.from b) same (arc_and_path i b inside) rest

-- what some first choices separate all separate
pub separated_stays : (shape : Shape) (choices : List Choice) (j s t : ℕ) → IsSeparated shape (take j choices) s t → IsSeparated shape choices s t
separated_stays shape choices j s t separated = (
  separated.0,
  separated.1,
  subst (λ (arcs : List Arc). HasPath arcs (side_arc shape s t separated.0).from (side_arc shape s t separated.0).to) whole
      (path_stays _ (filter_map (choice_arc_along (side_axis separated.0) shape) (drop j choices)) _ _ separated.2),
)
  where
    whole : arcs_of (side_axis separated.0) shape (take j choices) ++ filter_map (choice_arc_along (side_axis separated.0) shape) (drop j choices) ≡ arcs_of (side_axis separated.0) shape choices
    whole =
        append_assoc (piece_arcs (side_axis separated.0) shape) (choice_arcs (side_axis separated.0) shape (take j choices)) (filter_map (choice_arc_along (side_axis separated.0) shape) (drop j choices)) ∙
        ap (λ (l : List Arc). piece_arcs (side_axis separated.0) shape ++ l)
        (sym (filter_map-append (choice_arc_along (side_axis separated.0) shape) (take j choices) (drop j choices)) ∙
        ap (filter_map (choice_arc_along (side_axis separated.0) shape)) (take-append-drop j choices))

-- the pair of a choice is separated by the choices
pub chosen_separated : (shape : Shape) (choices : List Choice) (j : ℕ) → j < length choices → (choice_at choices j).side < 4 →
    IsSeparated shape choices (choice_at choices j).s (choice_at choices j).t
chosen_separated shape choices j within side =
    let axis = side_axis (choice_at choices j).side in
    let arc = has_choice_arc axis shape choices j (record { inside = within; along = refl }) in (
      (choice_at choices j).side,
      side,
      subst (λ (a : Arc). HasPath (arcs_of axis shape choices) a.from a.to) arc.2 (along_arc arc.0 arc.1),
    )

-- rows with one arc more, as those of the graph with one choice more
pub rows_with : (axis : Axis) (shape : Shape) (choices : List Choice) (s t side : ℕ) (rows after : ReachRows) → side_axis side ≡ axis →
    AreRowsOf rows (node_count axis shape) (arcs_of axis shape choices) →
    ((arcs : List Arc) (arc : Arc) → arc.from ≡ (side_arc shape s t side).from → arc.to ≡ (side_arc shape s t side).to →
    AreRowsOf rows rows.nodes arcs → AreRowsOf after rows.nodes (arcs ++ arc ∷ [])) →
    AreRowsOf after (node_count axis shape) (arcs_of axis shape (with_choice choices s t side))
rows_with axis shape choices s t side rows after same are added =
    subst (λ (arcs : List Arc). AreRowsOf after (node_count axis shape) arcs) (sym (arcs_with axis shape choices s t side same))
    (subst (λ (n : ℕ). AreRowsOf after n (arcs_of axis shape choices ++ side_arc shape s t side ∷ [])) are.nodes_of
    (added (arcs_of axis shape choices) (side_arc shape s t side) refl refl (own_nodes rows (node_count axis shape) (arcs_of axis shape choices) are)))

-- rows of the other graph
pub rows_without : (axis : Axis) (shape : Shape) (choices : List Choice) (s t side : ℕ) (rows : ReachRows) → is_axis (side_axis side) axis ≡ false →
    AreRowsOf rows (node_count axis shape) (arcs_of axis shape choices) → AreRowsOf rows (node_count axis shape) (arcs_of axis shape (with_choice choices s t side))
rows_without axis shape choices s t side rows other are =
    subst (λ (arcs : List Arc). AreRowsOf rows (node_count axis shape) arcs) (sym (arcs_without axis shape choices s t side other)) are
