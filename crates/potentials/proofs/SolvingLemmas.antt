-- What is known of two flows of a solver, and of its verdict.
use Rattle.std.proofs.Common.{◌≡◌, ℕ, ◌^◌, ◌≤◌, ℤ, pos, List, refl, sym, ap, subst, ◌∙◌, arith}
use Rattle.std.specs.Prelude.{◌+ℤ◌, ◌<ℤ◌, ◌≤ℤ◌}
use Rattle.std.proofs.lemmas.Int.{ints}
use Rattle.compact_types.specs.declared.limits.TheConstants.{MOST_VERTICES}
use Rattle.compact_types.specs.declared.places.Axis.{Axis}
use Rattle.compact_types.specs.declared.places.Axis.TheVariants.{X, Y}
use Rattle.compact_types.specs.declared.places.Key.{Key}
use Rattle.compact_types.specs.declared.places.Places.{Places}
use Rattle.compact_types.specs.declared.plan.Shape.{Shape}
use Rattle.compact_types.specs.declared.search.Choice.{Choice}
use Rattle.compact_types.specs.declared.search.Flow.{Flow}
use Rattle.compact_types.specs.declared.search.Flows.{Flows}
use Rattle.compact_types.specs.Bests.{key_of, worth_of}
use Rattle.compact_types.specs.Bests.Objective.{total_length}
use Rattle.compact_types.specs.Lookups.{other_axis}
use Rattle.compact_types.proofs.Laws.{same_key}
use Rattle.bars.specs.Segments.{node_count}
use Rattle.bars.specs.Solutions.{Fit, IsSound}
use Rattle.bars.proofs.Laws.{few_lines}
use Rattle.shape_graphs.specs.declared.graph.Arc.{Arc}
use Rattle.shape_graphs.specs.declared.graph.DiffGraph.{DiffGraph}
use Rattle.shape_graphs.specs.declared.measure.Verdict.{Verdict}
use Rattle.shape_graphs.specs.declared.measure.Verdict.TheVariants.{Above, Least}
use Rattle.shape_graphs.specs.Arcs.{AreGraph}
use Rattle.shape_graphs.specs.Backings.{flow_of, IsBalanced, AreBalanced, bound_by, DoBack}
use Rattle.shape_graphs.specs.Flows.{Balances, bound_of, IsFlowOn, number_at}
use Rattle.shape_graphs.specs.Graphs.{arcs_of, IsGraphOf}
use Rattle.shape_graphs.specs.Measures.{HaveNoCycle, IsAsked, IsBacked, IsLeastKey, IsRight}
use Rattle.shape_graphs.specs.Paths.{HasCycle}
use Rattle.diff_flow.specs.Tight.{AreTight, AreLeastTight}
use Rattle.potentials.specs.Standing.{StandAt, numbers_along}
use Rattle.potentials.specs.TightPlaces.{AreTightPlaces, AreLeastTightPlaces}
use Rattle.potentials.specs.declared.reached.Bounded.{Bounded}
use Rattle.potentials.specs.inner.Solving.{BalancesOn, IsBounded, IsSolvable}
use Rattle.potentials.proofs.FlowBounds.{bound_from_zero, bound_small}
use Rattle.potentials.proofs.TightKeys.{worth_above, bound_at_tight, least_from_tight, least_tight_places, none_where_none}

-- the verdict is right, as asked, and backed
pub record IsFull (shape : Shape) (choices : List Choice) (stop : ℤ) (verdict : Verdict Flows) : Type 0 where
  pub right : IsRight total_length shape choices verdict
  pub asked : IsAsked stop verdict
  pub backed : IsBacked (DoBack shape choices) verdict

pub full_same : (shape : Shape) (choices : List Choice) (stop : ℤ) (verdict other : Verdict Flows) → verdict ≡ other →
    IsFull shape choices stop other → IsFull shape choices stop verdict
full_same shape choices stop verdict other is full = subst (λ (v : Verdict Flows). IsFull shape choices stop v) (sym is) full

-- the arcs of a graph make a graph
pub graph_is : (graph : DiffGraph) → AreGraph graph.nodes graph.arcs
graph_is graph = record { ends = graph.ends; few = graph.few; within = graph.within }

-- the bound of a flow on a small graph without a cycle
pub record IsSmall (z : ℤ) : Type 0 where
  pub low : pos 0 ≤ℤ z
  pub high : z ≤ℤ pos (2 ^ 60)

module _ (graph : DiffGraph) (flow : Flow) (solvable : IsSolvable graph) (balances : BalancesOn graph flow) where
  pub small : IsSmall (bound_of graph.arcs flow.amounts)
  small = record {
    low = bound_from_zero graph.arcs flow.amounts graph.within;
    high = bound_small graph.nodes graph.arcs (graph_is graph) solvable.no_cycle flow.amounts balances.balances (omega (arith, solvable.few_nodes));
  }

-- neither graph has a cycle
pub no_cycle_by_axis : (shape : Shape) (choices : List Choice) (columns rows : DiffGraph) → IsGraphOf X shape choices columns →
    IsGraphOf Y shape choices rows → (HasCycle columns.arcs → ⊥) → (HasCycle rows.arcs → ⊥) → HaveNoCycle shape choices
no_cycle_by_axis shape choices columns rows is_columns is_rows x y X cycle = x (subst (λ (arcs : List Arc). HasCycle arcs) (sym is_columns.arcs) cycle)
no_cycle_by_axis shape choices columns rows is_columns is_rows x y Y cycle = y (subst (λ (arcs : List Arc). HasCycle arcs) (sym is_rows.arcs) cycle)

module _ (shape : Shape) (choices : List Choice) (sound : IsSound shape) (fit : Fit shape choices) where
  -- the graph of an axis has at most as many nodes as a drawing has vertices
  pub few_nodes_at : (axis : Axis) (graph : DiffGraph) → IsGraphOf axis shape choices graph → graph.nodes ≤ MOST_VERTICES
  few_nodes_at axis graph is = let few = few_lines (other_axis axis) shape in let nodes = is.nodes in omega (arith, few, nodes, sound.few_vertices)

  module _ (axis : Axis) (graph : DiffGraph) (is : IsGraphOf axis shape choices graph) where
    pub tight_there : (amounts : List ℕ) (numbers : ℕ → ℤ) → AreTight (node_count axis shape) (arcs_of axis shape choices) amounts numbers →
        AreTight graph.nodes graph.arcs amounts numbers
    tight_there amounts numbers tight =
        subst (λ (n : ℕ). AreTight n graph.arcs amounts numbers) (sym is.nodes)
        (subst (λ (arcs : List Arc). AreTight (node_count axis shape) arcs amounts numbers) (sym is.arcs) tight)

    pub least_here : (amounts : List ℕ) (numbers : ℕ → ℤ) → AreLeastTight graph.nodes graph.arcs amounts numbers →
        AreLeastTight (node_count axis shape) (arcs_of axis shape choices) amounts numbers
    least_here amounts numbers least =
        subst (λ (n : ℕ). AreLeastTight n (arcs_of axis shape choices) amounts numbers) is.nodes
        (subst (λ (arcs : List Arc). AreLeastTight graph.nodes arcs amounts numbers) is.arcs least)

    pub balanced_here : (flow : Flow) → BalancesOn graph flow → IsBalanced axis shape choices flow
    balanced_here flow balances = record {
      amounts = subst (λ (arcs : List Arc). IsFlowOn arcs flow.amounts) is.arcs balances.amounts;
      balances = subst (λ (n : ℕ). Balances n (arcs_of axis shape choices) flow.amounts) is.nodes
          (subst (λ (arcs : List Arc). Balances graph.nodes arcs flow.amounts) is.arcs balances.balances);
    }

    pub flow_there : (flow : Flow) → IsBalanced axis shape choices flow → IsFlowOn graph.arcs flow.amounts
    flow_there flow balanced = subst (λ (arcs : List Arc). IsFlowOn arcs flow.amounts) (sym is.arcs) balanced.amounts

    pub bound_here : (amounts : List ℕ) → bound_of graph.arcs amounts ≡ bound_of (arcs_of axis shape choices) amounts
    bound_here amounts = ap (λ (arcs : List Arc). bound_of arcs amounts) is.arcs

    -- where the graph has no tight numbers, no places are tight
    pub none_tight_at : (flows : Flows) → ((numbers : ℕ → ℤ) → AreTight graph.nodes graph.arcs (flow_of axis flows).amounts numbers → ⊥) →
        (places : Places) → AreTightPlaces shape choices flows places → ⊥
    none_tight_at flows none =
        none_where_none shape choices sound fit flows axis (λ numbers tight. none numbers (tight_there (flow_of axis flows).amounts numbers tight))

  module _ (columns rows : DiffGraph) (is_columns : IsGraphOf X shape choices columns) (is_rows : IsGraphOf Y shape choices rows) (flows : Flows) where
    -- the least numbers of both graphs are the least tight places
    pub least_places_at : (across up : List ℤ) (places : Places) → StandAt shape (numbers_along across up) places →
        AreLeastTight columns.nodes columns.arcs flows.x.amounts (number_at across) →
        AreLeastTight rows.nodes rows.arcs flows.y.amounts (number_at up) → AreLeastTightPlaces shape choices flows places
    least_places_at across up places stand x y =
        least_tight_places shape choices sound fit flows (numbers_along across up) places stand each
      where
        each : (axis : Axis) → AreLeastTight (node_count axis shape) (arcs_of axis shape choices) (flow_of axis flows).amounts (numbers_along across up axis)
        each X = least_here X columns is_columns flows.x.amounts (number_at across) x
        each Y = least_here Y rows is_rows flows.y.amounts (number_at up) y

  module _ (columns rows : DiffGraph) (is_columns : IsGraphOf X shape choices columns) (is_rows : IsGraphOf Y shape choices rows) where
    module _ (x y : Bounded) (x_is : IsBounded columns x.flow x.bound) (y_is : IsBounded rows y.flow y.bound) where
      abbrev own : Flows
      own = record { x = x.flow; y = y.flow }

      bounds_here : x.bound +ℤ y.bound ≡ bound_by shape choices own
      bounds_here =
          let a = bound_here X columns is_columns x.flow.amounts in
          let b = bound_here Y rows is_rows y.flow.amounts in
          let c = x_is.value in
          let d = y_is.value in
          omega (arith, ints, a, b, c, d)

      pub both_balanced : AreBalanced shape choices own
      both_balanced X = balanced_here X columns is_columns x.flow x_is.balances
      both_balanced Y = balanced_here Y rows is_rows y.flow y_is.balances

      -- a bound above the stop
      pub full_above : HaveNoCycle shape choices → (stop : ℤ) → stop <ℤ (x.bound +ℤ y.bound) → IsFull shape choices stop (Above (x.bound +ℤ y.bound) stop own)
      full_above none stop passed = record {
        right = record {
          no_cycle = none;
          above = passed;
          none_less = λ others solves.
              let low = worth_above shape choices sound fit own both_balanced others solves in
              let same = bounds_here in
              omega (arith, ints, low, same);
        };
        asked = refl;
        backed = record { balanced = both_balanced; sum = sym bounds_here };
      }

      -- the key of the least tight places
      pub full_least : HaveNoCycle shape choices → (stop : ℤ) → (x.bound +ℤ y.bound) ≤ℤ stop → (places : Places) → AreLeastTightPlaces shape choices own places →
          IsFull shape choices stop (Least (record { worth = x.bound +ℤ y.bound; places = places }) own)
      full_least none stop low places least =
          let worth : worth_of total_length shape places ≡ x.bound +ℤ y.bound =
          bound_at_tight shape choices sound fit own both_balanced places least.tight.solves least.tight ∙ sym bounds_here in
          let same : key_of total_length shape places ≡ record { worth = x.bound +ℤ y.bound; places = places } =
          same_key _ _ worth refl in
          record {
            right = record {
              no_cycle = none;
              least = subst (λ (key : Key). IsLeastKey total_length shape choices key) same (least_from_tight shape choices sound fit own both_balanced places least);
            };
            asked = low;
            backed = record { balanced = both_balanced; sum = sym bounds_here };
          }
