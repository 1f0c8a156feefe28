-- The solvers of a workspace, with one choice more or less.
use Rattle.std.proofs.Common.{◌≡◌, ℕ, suc, ◌<◌, ◌≤◌, ◌-◌, List, [], ◌∷◌, ◌++◌, length, take, Option, Some, None, refl, sym, ap, subst, ◌∙◌, arith}
use Rattle.std.specs.Prelude.{MatchOption}
use Rattle.std.proofs.Math.Seq.{take-append_seam, take-suc}
use Rattle.std.proofs.lemmas.List.{get_or-take, length_push, length-append, length-take-le}
use Rattle.compact_types.specs.declared.places.Axis.{Axis}
use Rattle.compact_types.specs.declared.places.Axis.TheVariants.{X, Y}
use Rattle.compact_types.specs.declared.plan.Shape.{Shape}
use Rattle.compact_types.specs.declared.search.Choice.{Choice}
use Rattle.bars.specs.Sides.{side_axis}
use Rattle.bars.specs.Solutions.{choice_at, Fit, IsChoice, IsSound}
use Rattle.shape_graphs.specs.declared.graph.Arc.{Arc}
use Rattle.shape_graphs.specs.declared.graph.DiffGraph.{DiffGraph}
use Rattle.shape_graphs.specs.declared.growing.GrowingGraphs.{GrowingGraphs}
use Rattle.shape_graphs.specs.Graphs.{arcs_of, choice_arcs, IsGraphOf, piece_arcs, side_arc}
use Rattle.shape_graphs.specs.Growing.{AreGrown, graph_on}
use Rattle.shape_graphs.specs.Measures.{IsFirstCyclic}
use Rattle.shape_graphs.specs.Paths.{HasCycle, IsCycle}
use Rattle.shape_graphs.proofs.Laws.{arc_along, no_arc_across, no_cycle_where_solved}
use Rattle.diff_flow.specs.Walks.{HasOneMoreArc}
use Rattle.potentials.specs.declared.reached.Level.{Level}
use Rattle.potentials.specs.declared.solver.AxisSolver.{AxisSolver}
use Rattle.potentials.specs.inner.Solvers.{HasChoiceMore, IsSolver, IsSolverOf}
use Rattle.potentials.proofs.SolverLemmas.{same_push}

abbrev pub no_choice : Choice
no_choice = record { s = 0; t = 0; side = 0 }

-- how many arcs of choices there are along an axis, with one choice more
module _ (axis other : Axis) (shape : Shape) (choices : List Choice) (choice : Choice) (is : side_axis choice.side ≡ axis) where
  pub count_along : length (choice_arcs axis shape (choices ++ choice ∷ [])) ≡ suc (length (choice_arcs axis shape choices))
  count_along =
      let arcs = ap (λ (l : List Arc). length l) (arc_along axis shape choices choice is) in
      omega (
        arith,
        arcs,
        length_push (arcs_of axis shape choices) (side_arc shape choice.s choice.t choice.side),
        length-append (piece_arcs axis shape) (choice_arcs axis shape (choices ++ choice ∷ [])),
        length-append (piece_arcs axis shape) (choice_arcs axis shape choices),
      )

  pub count_across : (axis ≡ other → ⊥) → length (choice_arcs other shape (choices ++ choice ∷ [])) ≡ length (choice_arcs other shape choices)
  count_across differ =
      let arcs = ap (λ (l : List Arc). length l) (no_arc_across axis other shape choices choice is differ) in
      omega (
        arith,
        arcs,
        length-append (piece_arcs other shape) (choice_arcs other shape (choices ++ choice ∷ [])),
        length-append (piece_arcs other shape) (choice_arcs other shape choices),
      )

-- the graphs of some choices, and those with one choice more
module _ (shape : Shape) (less more : GrowingGraphs) (choice : Choice) (axis : Axis) (is : side_axis choice.side ≡ axis)
    (longer : more.choices ≡ less.choices ++ choice ∷ []) (grown_less : AreGrown shape less) (grown_more : AreGrown shape more) where
  abbrev arc : Arc
  arc = side_arc shape choice.s choice.t choice.side

  below : (a : Axis) → IsGraphOf a shape less.choices (graph_on a less).graph
  below a = (grown_less.each a).graph

  above : (a : Axis) → IsGraphOf a shape (less.choices ++ choice ∷ []) (graph_on a more).graph
  above a = subst (λ (l : List Choice). IsGraphOf a shape l (graph_on a more).graph) longer (grown_more.each a).graph

  same_nodes : (a : Axis) → (graph_on a more).graph.nodes ≡ (graph_on a less).graph.nodes
  same_nodes a = (above a).nodes ∙ sym (below a).nodes

  one_arc_more : (graph_on axis more).graph.arcs ≡ (graph_on axis less).graph.arcs ++ arc ∷ []
  one_arc_more = (above axis).arcs ∙ arc_along axis shape less.choices choice is ∙ ap (λ (l : List Arc). l ++ arc ∷ []) (sym (below axis).arcs)

  same_arcs : (other : Axis) → (axis ≡ other → ⊥) → (graph_on other more).graph.arcs ≡ (graph_on other less).graph.arcs
  same_arcs other differ = (above other).arcs ∙ no_arc_across axis other shape less.choices choice is differ ∙ sym (below other).arcs

  -- the choice was added
  module _ (solver : AxisSolver) (follows : IsSolverOf axis shape less.choices (graph_on axis less).graph solver) where
    pub has_more : HasChoiceMore solver.network (graph_on axis more).graph
    has_more = record {
      one = record {
        nodes = same_nodes axis ∙ follows.solver_for.same.nodes;
        last = arc;
        arcs = one_arc_more ∙ ap (λ (l : List Arc). l ++ arc ∷ []) follows.solver_for.same.arcs;
      };
      no_pull = refl;
    }

    pub follows_more : (new : AxisSolver) → IsSolver new → new.network ≡ (graph_on axis more).graph → length new.levels ≡ suc (length solver.levels) →
        IsSolverOf axis shape more.choices (graph_on axis more).graph new
    follows_more new new_is network count = record {
      solver_for = record {
        solver_is = new_is;
        same = record { nodes = ap (λ (g : DiffGraph). g.nodes) (sym network); arcs = ap (λ (g : DiffGraph). g.arcs) (sym network) };
      };
      count =
          let arcs = count_along axis axis shape less.choices choice is in
          let before = follows.count in
          let same = ap (λ (l : List Choice). length (choice_arcs axis shape l)) longer in
          omega (arith, count, arcs, before, same);
    }

  -- the choice was taken away
  module _ (solver : AxisSolver) (follows : IsSolverOf axis shape more.choices (graph_on axis more).graph solver) where
    count_here : length solver.levels ≡ suc (length (choice_arcs axis shape less.choices))
    count_here =
        let arcs = count_along axis axis shape less.choices choice is in
        let before = follows.count in
        let same = ap (λ (l : List Choice). length (choice_arcs axis shape l)) longer in
        omega (arith, arcs, before, same)

    pub has_less : HasOneMoreArc (graph_on axis less).graph solver.network
    has_less = record {
      nodes = sym follows.solver_for.same.nodes ∙ same_nodes axis;
      last = arc;
      arcs = sym follows.solver_for.same.arcs ∙ one_arc_more;
    }

    pub some_level : 0 < length solver.levels
    some_level = let count = count_here in omega (arith, count)

    pub follows_less : (new : AxisSolver) → IsSolver new → new.network ≡ (graph_on axis less).graph → length solver.levels ≡ suc (length new.levels) →
        IsSolverOf axis shape less.choices (graph_on axis less).graph new
    follows_less new new_is network count = record {
      solver_for = record {
        solver_is = new_is;
        same = record { nodes = ap (λ (g : DiffGraph). g.nodes) (sym network); arcs = ap (λ (g : DiffGraph). g.arcs) (sym network) };
      };
      count = let before = count_here in omega (arith, count, before);
    }

  -- along the other axis nothing changed
  module _ (other : Axis) (differ : axis ≡ other → ⊥) (solver : AxisSolver) where
    pub stays_more : IsSolverOf other shape less.choices (graph_on other less).graph solver → IsSolverOf other shape more.choices (graph_on other more).graph solver
    stays_more follows = record {
      solver_for = record {
        solver_is = follows.solver_for.solver_is;
        same = record {
          nodes = same_nodes other ∙ follows.solver_for.same.nodes;
          arcs = same_arcs other differ ∙ follows.solver_for.same.arcs;
        };
      };
      count = follows.count ∙ sym (ap (λ (l : List Choice). length (choice_arcs other shape l)) longer ∙ count_across axis other shape less.choices choice is differ);
    }

    pub stays_less : IsSolverOf other shape more.choices (graph_on other more).graph solver → IsSolverOf other shape less.choices (graph_on other less).graph solver
    stays_less follows = record {
      solver_for = record {
        solver_is = follows.solver_for.solver_is;
        same = record {
          nodes = sym (same_nodes other) ∙ follows.solver_for.same.nodes;
          arcs = sym (same_arcs other differ) ∙ follows.solver_for.same.arcs;
        };
      };
      count = follows.count ∙ ap (λ (l : List Choice). length (choice_arcs other shape l)) longer ∙ count_across axis other shape less.choices choice is differ;
    }

pub x_not_y : X ≡ Y → ⊥
x_not_y same = cc

pub y_not_x : Y ≡ X → ⊥
y_not_x same = cc

-- a choice was added and taken away again
pub popped_choices : (old more new : List Choice) (choice : Choice) (found : Option Choice) → more ≡ old ++ choice ∷ [] →
    MatchOption found (more ≡ []) (λ last. more ≡ new ++ last ∷ []) → new ≡ old
popped_choices old more new choice None longer is = let lengths = ap (λ (l : List Choice). length l) (sym longer ∙ is) in absurd (omega (arith, lengths, length_push old choice))
popped_choices old more new choice (Some last) longer is = (same_push new old last choice (sym is ∙ longer)).0

pub back_again : (shape : Shape) (old new : GrowingGraphs) → AreGrown shape old → AreGrown shape new → new.choices ≡ old.choices → (a : Axis) (solver : AxisSolver) →
    IsSolverOf a shape old.choices (graph_on a old).graph solver → IsSolverOf a shape new.choices (graph_on a new).graph solver
back_again shape old new grown_old grown_new choices a solver follows = record {
  solver_for = record {
    solver_is = follows.solver_for.solver_is;
    same = record {
      nodes = (grown_new.each a).graph.nodes ∙ sym (grown_old.each a).graph.nodes ∙ follows.solver_for.same.nodes;
      arcs = (grown_new.each a).graph.arcs ∙ ap (arcs_of a shape) choices ∙ sym (grown_old.each a).graph.arcs ∙ follows.solver_for.same.arcs;
    };
  };
  count = follows.count ∙ sym (ap (λ (l : List Choice). length (choice_arcs a shape l)) choices);
}

-- a graph has a cycle with one choice more
pub first_cyclic_x : (shape : Shape) (choices : List Choice) (more : GrowingGraphs) (choice : Choice) → side_axis choice.side ≡ X →
    more.choices ≡ choices ++ choice ∷ [] → AreGrown shape more → (walk : List ℕ) → IsCycle more.columns.graph.arcs walk →
    IsFirstCyclic shape (choices ++ choice ∷ []) (side_axis choice.side) walk
first_cyclic_x shape choices more choice is longer grown walk cycle =
    subst (λ (a : Axis). IsFirstCyclic shape (choices ++ choice ∷ []) a walk) (sym is) (record {
      none_before = tt;
      cycle = subst (λ (l : List Arc). IsCycle l walk) ((grown.each X).graph.arcs ∙ ap (arcs_of X shape) longer) cycle;
    })

pub first_cyclic_y : (shape : Shape) (less more : GrowingGraphs) (choice : Choice) → side_axis choice.side ≡ Y →
    more.choices ≡ less.choices ++ choice ∷ [] → AreGrown shape less → AreGrown shape more → (across : AxisSolver) →
    IsSolverOf X shape less.choices less.columns.graph across → (walk : List ℕ) → IsCycle more.rows.graph.arcs walk →
    IsFirstCyclic shape (less.choices ++ choice ∷ []) (side_axis choice.side) walk
first_cyclic_y shape less more choice is longer grown_less grown_more across follows walk cycle =
    subst (λ (a : Axis). IsFirstCyclic shape (less.choices ++ choice ∷ []) a walk) (sym is) (record {
      none_before = λ cyclic. follows.solver_for.solver_is.solvable.no_cycle
          (subst (λ (l : List Arc). HasCycle l)
          (no_arc_across Y X shape less.choices choice is y_not_x ∙ sym (grown_less.each X).graph.arcs ∙ follows.solver_for.same.arcs) cyclic);
      cycle = subst (λ (l : List Arc). IsCycle l walk) ((grown_more.each Y).graph.arcs ∙ ap (arcs_of Y shape) longer) cycle;
    })

-- choices without the last of those that were taken
pub one_less_taken : (xs now new : List Choice) (m n : ℕ) → n ≡ suc m → n ≤ length xs → now ≡ take n xs → new ≡ take (length now - 1) now → new ≡ take m xs
one_less_taken xs now new m n is within taken less =
    let front : now ≡ take m xs ++ choice_at xs m ∷ [] = taken ∙ ap (λ (k : ℕ). take k xs) is ∙ take-suc xs m no_choice (omega (arith, is, within)) in
    let count : length now - 1 ≡ length (take m xs) =
    let lengths = ap (λ (l : List Choice). length l) front in omega (arith, lengths, length_push (take m xs) (choice_at xs m)) in
    less ∙ ap (λ (k : ℕ). take k now) count ∙ ap (take (length (take m xs))) front ∙ take-append_seam (take m xs) (choice_at xs m ∷ [])

-- a front of choices that fit
pub front_fits : (shape : Shape) (choices : List Choice) (n : ℕ) → n ≤ length choices → Fit shape choices → Fit shape (take n choices)
front_fits shape choices n within fit = record {
  few = omega (arith, fit.few, within, length-take-le n choices within);
  each = λ i inside.
      let below : i < n = omega (arith, inside, length-take-le n choices within) in
      subst (IsChoice shape) (sym (get_or-take n choices i no_choice below)) (fit.each i (omega (arith, below, within)));
}

-- without choices no graph has a cycle
pub no_cycle_without_choices : (shape : Shape) (choices : List Choice) → IsSound shape → choices ≡ [] → (axis : Axis) (graph : DiffGraph) →
    IsGraphOf axis shape choices graph → HasCycle graph.arcs → ⊥
no_cycle_without_choices shape choices sound none axis graph is cycle =
    no_cycle_where_solved shape [] sound.drawable (record { few = omega (arith); each = λ i inside. absurd (omega (arith, inside)) })
    sound.drawable.0 (record {
      places_fit = sound.drawable.1.crossing_free.places_fit;
      ways = sound.drawable.1.crossing_free.ways;
      sides = λ i inside. absurd (omega (arith, inside));
    })
    axis (subst (λ (l : List Arc). HasCycle l) (is.arcs ∙ ap (arcs_of axis shape) none) cycle)

-- a solver without levels, of the graph of no choice
pub fresh_follows : (axis : Axis) (shape : Shape) (choices : List Choice) → choices ≡ [] → (graph : DiffGraph) (solver : AxisSolver) → IsSolver solver →
    solver.network ≡ graph → solver.levels ≡ [] → IsSolverOf axis shape choices graph solver
fresh_follows axis shape choices none graph solver is network levels = record {
  solver_for = record {
    solver_is = is;
    same = record { nodes = ap (λ (g : DiffGraph). g.nodes) (sym network); arcs = ap (λ (g : DiffGraph). g.arcs) (sym network) };
  };
  count = ap (λ (l : List Level). length l) levels ∙ sym (ap (λ (l : List Choice). length (choice_arcs axis shape l)) none);
}
