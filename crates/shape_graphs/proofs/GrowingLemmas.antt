-- Choices that fit, one more or less, and the graphs of the choices with one arc more or less.
use Rattle.std.proofs.Common.{◌≡◌, ℕ, ◌-◌, ◌<◌, ◌≤◌, List, [], ◌∷◌, ◌++◌, length, take, Option, Some, None, ◌⊎◌, inl, inr, refl, sym, ap, subst, ◌∙◌, arith, append_assoc}
use Rattle.std.specs.Prelude.{option_to_list}
use Rattle.std.proofs.Math.Seq.{take-append_seam}
use Rattle.std.proofs.lemmas.List.{append-nil, length_push, length-take, get_or_append_left, get_or_push}
use Rattle.std.proofs.lemmas.Bool.{cases_lt}
use Rattle.compact_types.specs.declared.limits.TheConstants.{MOST_CHOICES}
use Rattle.compact_types.specs.declared.places.Axis.{Axis}
use Rattle.compact_types.specs.declared.places.Axis.TheVariants.{X, Y}
use Rattle.compact_types.specs.declared.plan.Shape.{Shape}
use Rattle.compact_types.specs.declared.search.Choice.{Choice}
use Rattle.bars.specs.Segments.{node_count}
use Rattle.bars.specs.Sides.{side_axis}
use Rattle.bars.specs.Solutions.{Fit, IsChoice, IsSound, choice_at}
use Rattle.shape_graphs.specs.declared.graph.Arc.{Arc}
use Rattle.shape_graphs.specs.declared.growing.GrowingGraph.{GrowingGraph}
use Rattle.shape_graphs.specs.declared.growing.GrowingGraphs.{GrowingGraphs}
use Rattle.shape_graphs.specs.Arcs.{AreGraph}
use Rattle.shape_graphs.specs.Graphs.{arcs_of, choice_arc_along, choice_arcs, piece_arcs, side_arc}
use Rattle.shape_graphs.specs.Growing.{AreGrown, IsGrown, graph_on}
use Rattle.shape_graphs.proofs.GraphFacts.{are_graph}
use Rattle.shape_graphs.proofs.AddedArcs.{kept_last}

abbrev no_choice : Choice
no_choice = record { s = 0; t = 0; side = 0 }

-- choices that fit, and one choice more
pub fit_more : (shape : Shape) (choices : List Choice) (choice : Choice) → Fit shape choices → length choices < MOST_CHOICES → IsChoice shape choice →
    Fit shape (choices ++ choice ∷ [])
fit_more shape choices choice fit room is = record {
  few = omega (arith, room, length_push choices choice);
  each = λ i inside. by_place i inside (cases_lt i (length choices));
}
  where
    by_place : (i : ℕ) → i < length (choices ++ choice ∷ []) → (i < length choices) ⊎ (length choices ≤ i) → IsChoice shape (choice_at (choices ++ choice ∷ []) i)
    by_place i inside (inl before) = subst (IsChoice shape) (sym (get_or_append_left choices (choice ∷ []) no_choice i before)) (fit.each i before)
    by_place i inside (inr after) =
        let last : length choices ≡ i = omega (arith, inside, length_push choices choice, after) in
        subst (IsChoice shape) (sym (get_or_push choices choice no_choice i last)) is

-- the choices before the last, and the last, fit where all do
pub fit_less : (shape : Shape) (choices : List Choice) (choice : Choice) → Fit shape (choices ++ choice ∷ []) → Fit shape choices
fit_less shape choices choice fit = record {
  few = omega (arith, fit.few, length_push choices choice);
  each = λ i inside.
      let further : i < length (choices ++ choice ∷ []) = omega (arith, inside, length_push choices choice) in
      subst (IsChoice shape) (get_or_append_left choices (choice ∷ []) no_choice i inside) (fit.each i further);
}

pub last_fits : (shape : Shape) (choices : List Choice) (choice : Choice) → Fit shape (choices ++ choice ∷ []) → IsChoice shape choice
last_fits shape choices choice fit =
    let inside : length choices < length (choices ++ choice ∷ []) = omega (arith, length_push choices choice) in
    subst (IsChoice shape) (get_or_push choices choice no_choice (length choices) refl) (fit.each (length choices) inside)

-- the arcs along an axis with one choice more: that of a choice along it is the last, and a choice
-- across it adds none
arcs_more : (axis : Axis) (shape : Shape) (choices : List Choice) (choice : Choice) →
    arcs_of axis shape (choices ++ choice ∷ []) ≡ arcs_of axis shape choices ++ option_to_list (choice_arc_along axis shape choice)
arcs_more axis shape choices choice =
    ap (λ (l : List Arc). piece_arcs axis shape ++ l) (kept_last (choice_arc_along axis shape) choices choice)
    ∙ sym (append_assoc (piece_arcs axis shape) (choice_arcs axis shape choices) (option_to_list (choice_arc_along axis shape choice)))

pub arc_along : (axis : Axis) (shape : Shape) (choices : List Choice) (choice : Choice) → side_axis choice.side ≡ axis →
    arcs_of axis shape (choices ++ choice ∷ []) ≡ arcs_of axis shape choices ++ side_arc shape choice.s choice.t choice.side ∷ []
arc_along axis shape choices choice is = arcs_more axis shape choices choice ∙ ap (λ (o : Option Arc). arcs_of axis shape choices ++ option_to_list o) (here axis is)
  where
    here : (axis : Axis) → side_axis choice.side ≡ axis → choice_arc_along axis shape choice ≡ Some (side_arc shape choice.s choice.t choice.side)
    here X is = rw is refl
    here Y is = rw is refl

pub no_arc_across : (axis other : Axis) (shape : Shape) (choices : List Choice) (choice : Choice) → side_axis choice.side ≡ axis → (axis ≡ other → ⊥) →
    arcs_of other shape (choices ++ choice ∷ []) ≡ arcs_of other shape choices
no_arc_across axis other shape choices choice is differ =
    arcs_more other shape choices choice ∙ ap (λ (o : Option Arc). arcs_of other shape choices ++ option_to_list o) (nowhere axis other is differ)
    ∙ append-nil (arcs_of other shape choices)
  where
    nowhere : (axis other : Axis) → side_axis choice.side ≡ axis → (axis ≡ other → ⊥) → choice_arc_along other shape choice ≡ None
    nowhere X X is differ = absurd (differ refl)
    nowhere Y X is differ = rw is refl
    nowhere X Y is differ = rw is refl
    nowhere Y Y is differ = absurd (differ refl)

-- a graph with the arc of one choice more is a graph
pub graph_more : (axis : Axis) (shape : Shape) (choices : List Choice) (choice : Choice) (grown : GrowingGraph) (arc : Arc) → IsSound shape →
    Fit shape (choices ++ choice ∷ []) → IsGrown axis shape choices grown → side_axis choice.side ≡ axis →
    arc ≡ side_arc shape choice.s choice.t choice.side → AreGraph grown.graph.nodes (grown.graph.arcs ++ arc ∷ [])
graph_more axis shape choices choice grown arc sound fit is_grown is is_arc =
    let arcs : grown.graph.arcs ++ arc ∷ [] ≡ arcs_of axis shape (choices ++ choice ∷ []) =
    ap (λ (l : List Arc). l ++ arc ∷ []) is_grown.graph.arcs ∙ ap (λ (a : Arc). arcs_of axis shape choices ++ a ∷ []) is_arc
    ∙ sym (arc_along axis shape choices choice is) in
    subst (λ (n : ℕ). AreGraph n (grown.graph.arcs ++ arc ∷ [])) (sym is_grown.graph.nodes)
    (subst (λ (l : List Arc). AreGraph (node_count axis shape) l) (sym arcs) (are_graph axis shape (choices ++ choice ∷ []) sound fit))

-- the axis is this one, or another
axes_differ : (axis other : Axis) → (axis ≡ other) ⊎ (axis ≡ other → ⊥)
axes_differ X X = inl refl
axes_differ X Y = inr (λ same. cc)
axes_differ Y X = inr (λ same. cc)
axes_differ Y Y = inl refl

-- the rows stay where only the columns change, and the other way round
pub rows_stay : (old new : GrowingGraphs) → new.rows ≡ old.rows → (other : Axis) → (X ≡ other → ⊥) → graph_on other new ≡ graph_on other old
rows_stay old new same X differ = absurd (differ refl)
rows_stay old new same Y differ = same

pub columns_stay : (old new : GrowingGraphs) → new.columns ≡ old.columns → (other : Axis) → (Y ≡ other → ⊥) → graph_on other new ≡ graph_on other old
columns_stay old new same X differ = same
columns_stay old new same Y differ = absurd (differ refl)

-- what a push makes of a graph
pub record IsPushed (old new : GrowingGraph) (arc : Arc) : Type 0 where
  pub nodes : new.graph.nodes ≡ old.graph.nodes
  pub arcs : new.graph.arcs ≡ old.graph.arcs ++ arc ∷ []
  pub amounts : new.flow.amounts ≡ old.flow.amounts ++ 0 ∷ []

-- the graphs with one choice more
module _ (shape : Shape) (old new : GrowingGraphs) (choice : Choice) (arc : Arc) (axis : Axis) (is : side_axis choice.side ≡ axis)
    (is_arc : arc ≡ side_arc shape choice.s choice.t choice.side) (more : new.choices ≡ old.choices ++ choice ∷ [])
    (pushed : IsPushed (graph_on axis old) (graph_on axis new) arc)
    (same : (other : Axis) → (axis ≡ other → ⊥) → graph_on other new ≡ graph_on other old) (grown : AreGrown shape old) where
  grown_along : IsGrown axis shape (old.choices ++ choice ∷ []) (graph_on axis new)
  grown_along =
      let before = grown.each axis in
      let arcs = ap length pushed.arcs in
      let amounts = ap length pushed.amounts in
      let count = before.one_for_each in
      record {
        graph = record {
          nodes = pushed.nodes ∙ before.graph.nodes;
          arcs = pushed.arcs ∙ ap (λ (l : List Arc). l ++ arc ∷ []) before.graph.arcs
              ∙ ap (λ (a : Arc). arcs_of axis shape old.choices ++ a ∷ []) is_arc ∙ sym (arc_along axis shape old.choices choice is);
        };
        one_for_each = omega (arith, arcs, amounts, count, length_push (graph_on axis old).graph.arcs arc, length_push (graph_on axis old).flow.amounts 0);
      }

  grown_across : (other : Axis) → (axis ≡ other → ⊥) → IsGrown other shape (old.choices ++ choice ∷ []) (graph_on other new)
  grown_across other differ =
      let before : IsGrown other shape old.choices (graph_on other new) = subst (IsGrown other shape old.choices) (sym (same other differ)) (grown.each other) in
      record {
        graph = record {
          nodes = before.graph.nodes;
          arcs = before.graph.arcs ∙ sym (no_arc_across axis other shape old.choices choice is differ);
        };
        one_for_each = before.one_for_each;
      }

  pub grown_more : Fit shape (old.choices ++ choice ∷ []) → AreGrown shape new
  grown_more fit = record {
    fit = subst (Fit shape) (sym more) fit;
    each = λ other. subst (λ (l : List Choice). IsGrown other shape l (graph_on other new)) (sym more) (by_axis other (axes_differ axis other));
  }
    where
      by_axis : (other : Axis) → (axis ≡ other) ⊎ (axis ≡ other → ⊥) → IsGrown other shape (old.choices ++ choice ∷ []) (graph_on other new)
      by_axis other (inl here) = subst (λ (a : Axis). IsGrown a shape (old.choices ++ choice ∷ []) (graph_on a new)) here grown_along
      by_axis other (inr differ) = grown_across other differ

-- what a pop makes of a graph
pub record IsPopped (old new : GrowingGraph) : Type 0 where
  pub nodes : new.graph.nodes ≡ old.graph.nodes
  pub arcs : new.graph.arcs ≡ take (length old.graph.arcs - 1) old.graph.arcs
  pub amounts : new.flow.amounts ≡ take (length old.flow.amounts - 1) old.flow.amounts

pub all_but_last : {A : Type 0} (xs : List A) (x : A) → take (length (xs ++ x ∷ []) - 1) (xs ++ x ∷ []) ≡ xs
all_but_last {A} xs x =
    let count : length (xs ++ x ∷ []) - 1 ≡ length xs = omega (arith, length_push xs x) in
    ap (λ (n : ℕ). take n (xs ++ x ∷ [])) count ∙ take-append_seam xs (x ∷ [])

-- the graphs without the last choice
module _ (shape : Shape) (old new : GrowingGraphs) (choice : Choice) (axis : Axis) (is : side_axis choice.side ≡ axis)
    (more : old.choices ≡ new.choices ++ choice ∷ []) (popped : IsPopped (graph_on axis old) (graph_on axis new))
    (same : (other : Axis) → (axis ≡ other → ⊥) → graph_on other new ≡ graph_on other old) (grown : AreGrown shape old) where
  before : (a : Axis) → IsGrown a shape (new.choices ++ choice ∷ []) (graph_on a old)
  before a = subst (λ (l : List Choice). IsGrown a shape l (graph_on a old)) more (grown.each a)

  shrunk_along : IsGrown axis shape new.choices (graph_on axis new)
  shrunk_along =
      let arc = side_arc shape choice.s choice.t choice.side in
      let was : (graph_on axis old).graph.arcs ≡ arcs_of axis shape new.choices ++ arc ∷ [] =
      (before axis).graph.arcs ∙ arc_along axis shape new.choices choice is in
      let arcs : (graph_on axis new).graph.arcs ≡ arcs_of axis shape new.choices =
      popped.arcs ∙ ap (λ (l : List Arc). take (length l - 1) l) was ∙ all_but_last (arcs_of axis shape new.choices) arc in
      let count = ap length popped.amounts in
      let arc_count = ap length popped.arcs in
      let is_count = (before axis).one_for_each in
      record {
        graph = record { nodes = popped.nodes ∙ (before axis).graph.nodes; arcs = arcs };
        one_for_each =
            omega (
              arith,
              count,
              arc_count,
              is_count,
              length-take (length (graph_on axis old).flow.amounts - 1) (graph_on axis old).flow.amounts,
              length-take (length (graph_on axis old).graph.arcs - 1) (graph_on axis old).graph.arcs,
            );
      }

  shrunk_across : (other : Axis) → (axis ≡ other → ⊥) → IsGrown other shape new.choices (graph_on other new)
  shrunk_across other differ =
      let was : IsGrown other shape (new.choices ++ choice ∷ []) (graph_on other new) =
      subst (IsGrown other shape (new.choices ++ choice ∷ [])) (sym (same other differ)) (before other) in
      record {
        graph = record { nodes = was.graph.nodes; arcs = was.graph.arcs ∙ no_arc_across axis other shape new.choices choice is differ };
        one_for_each = was.one_for_each;
      }

  pub grown_less : AreGrown shape new
  grown_less = record {
    fit = fit_less shape new.choices choice (subst (Fit shape) more grown.fit);
    each = λ other. by_axis other (axes_differ axis other);
  }
    where
      by_axis : (other : Axis) → (axis ≡ other) ⊎ (axis ≡ other → ⊥) → IsGrown other shape new.choices (graph_on other new)
      by_axis other (inl here) = subst (λ (a : Axis). IsGrown a shape new.choices (graph_on a new)) here shrunk_along
      by_axis other (inr differ) = shrunk_across other differ
