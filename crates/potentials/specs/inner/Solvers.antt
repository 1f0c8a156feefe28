-- What the solver of an axis keeps for its graph and for the graphs with fewer arcs, and what the
-- workspace of a search keeps for its choices.
use Rattle.std.specs.Prelude.{◌≡◌, ◌-◌, pos, ℤ, ◌+ℤ◌, ◌≤ℤ◌, List, [], ◌∷◌, ◌++◌, length, Option, IfSome, IsSome, MatchOption}
use Rattle.compact_types.specs.declared.places.Axis.{Axis}
use Rattle.compact_types.specs.declared.places.Axis.TheVariants.{X, Y}
use Rattle.compact_types.specs.declared.plan.Shape.{Shape}
use Rattle.compact_types.specs.declared.search.Choice.{Choice}
use Rattle.compact_types.specs.declared.search.Flow.{Flow}
use Rattle.bars.specs.Sides.{side_axis}
use Rattle.shape_graphs.specs.declared.graph.Cycle.{Cycle}
use Rattle.shape_graphs.specs.declared.graph.DiffGraph.{DiffGraph}
use Rattle.shape_graphs.specs.Arcs.{arc_at}
use Rattle.shape_graphs.specs.Flows.{number_at}
use Rattle.shape_graphs.specs.Graphs.{choice_arcs}
use Rattle.shape_graphs.specs.Growing.{AreGrown}
use Rattle.shape_graphs.specs.Measures.{IsFirstCyclic}
use Rattle.diff_flow.specs.Walks.{AreWalkLengthsOf, HasOneMoreArc}
use Rattle.potentials.specs.declared.reached.Bounded.{Bounded}
use Rattle.potentials.specs.declared.reached.FoundFlow.{FoundFlow}
use Rattle.potentials.specs.declared.reached.Level.{Level}
use Rattle.potentials.specs.declared.solver.AxisSolver.{AxisSolver}
use Rattle.potentials.specs.declared.workspace.FlowWorkspace.{FlowWorkspace}
use Rattle.potentials.specs.declared.workspace.Followed.{Followed}
use Rattle.potentials.specs.declared.workspace.Followed.TheVariants.{All, Cyclic, Not}
use Rattle.potentials.specs.inner.Solving.{AreLeastNumbers, BalancesOn, HasTight, IsBounded, IsSolvable}

-- the graphs have the same nodes and arcs
pub record IsSame (graph other : DiffGraph) : Type 0 where
  pub nodes : other.nodes ≡ graph.nodes
  pub arcs : other.arcs ≡ graph.arcs

-- the flow balances on the graph, this is its bound, and it is best
pub record IsBestOn (graph : DiffGraph) (best : Bounded) : Type 0 where
  pub bounded : IsBounded graph best.flow best.bound
  pub tight : HasTight graph best.flow

-- what was found for the graph: a best flow, if there is one yet, and with it the least numbers
-- that are tight for it, if they are known yet
pub record IsFoundFlow (graph : DiffGraph) (reached : FoundFlow) : Type 0 where
  pub best : IfSome reached.best (IsBestOn graph)
  pub numbers : IfSome reached.numbers (λ numbers.
      MatchOption reached.best ⊥ (λ best. AreLeastNumbers graph best.flow numbers))

-- the second graph has one arc more, at its end, which does not pull: that of a choice
pub record HasChoiceMore (graph more : DiffGraph) : Type 0 where
  pub one : HasOneMoreArc graph more
  pub no_pull : one.last.pull ≡ pos 0

-- each level holds for the graph before its arc came
pub data AreLevels : DiffGraph → List Level → Type 0 where
  no_level : (graph : DiffGraph) → AreLevels graph []
  one_more : (before graph : DiffGraph) (front : List Level) (level : Level) (levels : List Level) →
      levels ≡ front ++ level ∷ [] → HasChoiceMore before graph → IsSolvable before →
      AreWalkLengthsOf before level.walks → IsFoundFlow before level.reached →
      AreLevels before front → AreLevels graph levels

-- the graph of the network has no cycle, and what the solver keeps is true of it
pub record IsSolver (solver : AxisSolver) : Type 0 where
  pub solvable : IsSolvable solver.network
  pub reached : IsFoundFlow solver.network solver.reached
  pub levels : AreLevels solver.network solver.levels

-- the numbers are the least that are tight for the flow on the graph without its last arc, that of
-- a choice
pub record AreNumbersBefore (graph : DiffGraph) (flow : Flow) (numbers : List ℤ) : Type 0 where
  pub before : DiffGraph
  pub more : HasChoiceMore before graph
  pub balances : BalancesOn before flow
  pub least : AreLeastNumbers before flow numbers

-- over the last arc of the graph the numbers differ by its least, or more
abbrev pub MeetsLast : DiffGraph → List ℤ → Type 0
MeetsLast graph numbers =
    (number_at numbers (arc_at graph.arcs (length graph.arcs - 1)).from
    +ℤ (arc_at graph.arcs (length graph.arcs - 1)).least)
    ≤ℤ number_at numbers (arc_at graph.arcs (length graph.arcs - 1)).to

-- the solver is one of this graph
pub record IsSolverFor (graph : DiffGraph) (solver : AxisSolver) : Type 0 where
  pub solver_is : IsSolver solver
  pub same : IsSame solver.network graph

-- the solver is one of this graph, and has a best flow
pub record HasBestFor (graph : DiffGraph) (solver : AxisSolver) : Type 0 where
  pub solver_for : IsSolverFor graph solver
  pub best : IsSome solver.reached.best

-- the solver is one of this graph, that of the choices along the axis, with a level for each arc of
-- a choice
pub record IsSolverOf (axis : Axis) (shape : Shape) (choices : List Choice) (graph : DiffGraph)
    (solver : AxisSolver) : Type 0 where
  pub solver_for : IsSolverFor graph solver
  pub count : length solver.levels ≡ length (choice_arcs axis shape choices)

-- the graphs are those of the choices, and the solvers follow them
pub record IsWorkspaceOf (shape : Shape) (workspace : FlowWorkspace) : Type 0 where
  pub grown : AreGrown shape workspace.graphs
  pub across : IsSolverOf X shape workspace.graphs.choices workspace.graphs.columns.graph workspace.across
  pub up : IsSolverOf Y shape workspace.graphs.choices workspace.graphs.rows.graph workspace.up

-- how the workspace followed the choices: to the last of them; up to the last, with which a graph
-- has a cycle; or less far
abbrev pub HasFollowed : Shape → List Choice → FlowWorkspace → Followed → Type 0
HasFollowed shape choices workspace All = workspace.graphs.choices ≡ choices
HasFollowed shape choices workspace (Cyclic axis cycle) = IsFirstCyclic shape choices axis
    cycle.arcs
HasFollowed shape choices workspace Not = Unit {0}

-- the choice was added to the workspace; or it was not, and with it the graph along its axis is
-- the first that has a cycle, and this is one
abbrev pub IsPushed : Shape → FlowWorkspace → Choice → FlowWorkspace → Option Cycle → Type 0
IsPushed shape old choice new found =
    IsWorkspaceOf shape new
    × MatchOption found
    (new.graphs.choices ≡ old.graphs.choices ++ choice ∷ [])
    (λ cycle. (new.graphs.choices ≡ old.graphs.choices)
    × IsFirstCyclic shape (old.graphs.choices ++ choice ∷ []) (side_axis choice.side) cycle.arcs)
