-- Flows with loads, and what they show of a drawing.
use Rattle.std.proofs.Common.{◌≡◌, ◌==◌, Bool, true, false, cond, ℕ, suc, ◌+◌, ◌<◌, ◌≤◌, ℤ, List, [], ◌∷◌, length, All, Some, None, Result, Ok, Err, OnOk, sym, ap, subst, ◌∙◌, arith}
use Rattle.std.specs.Prelude.{◌+ℤ◌, ◌<ℤ◌}
use Rattle.std.proofs.lemmas.Int.{ints}
use Rattle.std.proofs.lemmas.List.{ext_get_or}
use Rattle.std.proofs.lemmas.List.FromFn.{get_or-map-range_with_len, length-map-range_with_len}
use Rattle.compact_types.specs.declared.places.Axis.{Axis}
use Rattle.compact_types.specs.declared.places.Axis.TheVariants.{X, Y}
use Rattle.compact_types.specs.declared.places.Places.{Places}
use Rattle.compact_types.specs.declared.plan.Shape.{Shape}
use Rattle.compact_types.specs.declared.refusal.Refusal.{Refusal}
use Rattle.compact_types.specs.declared.refusal.Refusal.TheVariants.{Fault, NoMemory}
use Rattle.compact_types.specs.declared.search.Choice.{Choice}
use Rattle.compact_types.specs.declared.search.Flow.{Flow}
use Rattle.compact_types.specs.declared.search.Flows.{Flows}
use Rattle.compact_types.specs.Bests.{worth_of}
use Rattle.compact_types.specs.Bests.Objective.{total_length}
use Rattle.compact_types.specs.Refusals.{IfFault}
use Rattle.bars.specs.Segments.{node_count}
use Rattle.shape_graphs.specs.declared.graph.Arc.{Arc}
use Rattle.shape_graphs.specs.declared.graph.DiffGraph.{DiffGraph}
use Rattle.shape_graphs.specs.declared.graph.TheConstants.{MOST_AMOUNT}
use Rattle.shape_graphs.specs.Backings.{AreBalanced, IsBalanced, bound_by}
use Rattle.shape_graphs.specs.Flows.{Balances, IsFlowOn, bound_of}
use Rattle.shape_graphs.specs.Graphs.{IsGraphOf, arcs_of}
use Rattle.diff_flow.specs.Amounts.{IsFirstUnbalanced}
use Rattle.cert_text.specs.declared.tree.Load.{Load}
use Rattle.cert_text.specs.Accepting.{AreOnArcs, IsGoodBound, flows_of}
use Rattle.cert_text.specs.Loads.{IsLoad, amount_on, amounts_of}
use Rattle.shape_graphs.specs.declared.growing.GrowingGraphs.{GrowingGraphs}
use Rattle.cert_check.specs.declared.fault.CheckFault.{CheckFault}
use Rattle.cert_check.specs.declared.fault.CheckFault.TheVariants.{WeakBound}
use Rattle.cert_check.specs.Faults.{AreBothOnArcs, IsBoundFault, IsEarlierAt, IsFirstOffArcs}
use Rattle.cert_check.specs.Faults.IsBoundFault.{x_unbalanced, y_unbalanced, too_low, too_late}
use Rattle.cert_check.specs.inner.Flowing.{DoBalanceAndBound, HasFlows, IsFlowFault, IsWeak, flows_on}
use Rattle.cert_check.specs.inner.Flowing.IsFlowFault.{columns_unbalanced, rows_unbalanced, too_weak}
use Rattle.cert_check.specs.inner.Flowing.IsWeak.{below_length, before_these}
use Rattle.cert_check.specs.inner.Loading.{HaveLoads}

-- a fault that is told
pub told : (T : Type 0) {F : Type 0} (refusal : Refusal F) (fault : F) (Q : F → Type 0) → refusal ≡ Fault fault → Q fault → IfFault {T = T} {F = F} (Err refusal) Q
told T {F} refusal fault Q is holds = subst (λ (r : Refusal F). IfFault {T = T} {F = F} (Err r) Q) (sym is) holds

-- the same fault in other words
pub other_words : {T F : Type 0} (P Q : F → Type 0) (result : Result T (Refusal F)) → ((fault : F) → P fault → Q fault) → IfFault result P → IfFault result Q
other_words P Q (Ok value) turn holds = tt
other_words P Q (Err (Fault fault)) turn holds = turn fault holds
other_words P Q (Err NoMemory) turn holds = tt

pub other_refusal : (T U : Type 0) {F : Type 0} (P Q : F → Type 0) (refusal : Refusal F) → ((fault : F) → P fault → Q fault) →
    IfFault {T = T} {F = F} (Err refusal) P → IfFault {T = U} {F = F} (Err refusal) Q
other_refusal T U P Q (Fault fault) turn holds = turn fault holds
other_refusal T U P Q NoMemory turn holds = tt

-- the same value in other words
pub other_value : {T E : Type 0} (P Q : Type 0) (result : Result T E) → (P → Q) → OnOk result P → OnOk result Q
other_value P Q (Ok value) turn holds = turn holds
other_value P Q (Err error) turn holds = tt

-- no amount of loads is above the most
amount_most : (loads : List Load) (i : ℕ) → All IsLoad loads → amount_on loads i ≤ MOST_AMOUNT
amount_most [] i each = omega arith
amount_most (load ∷ loads) i each =
    one_of (load.arc == i) load.amount (amount_on loads i) (each 0 load (omega arith)).most
    (amount_most loads i (λ k other inside. each (suc k) other (omega (arith, inside))))
  where
    one_of : (b : Bool) (here there : ℕ) → here ≤ MOST_AMOUNT → there ≤ MOST_AMOUNT → cond b here there ≤ MOST_AMOUNT
    one_of true here there low other = low
    one_of false here there low other = other

-- amounts of loads are a flow
pub flow_from_loads : (arcs : List Arc) (amounts : List ℕ) (loads : List Load) → length amounts ≡ length arcs → HaveLoads amounts loads → All IsLoad loads →
    IsFlowOn arcs amounts
flow_from_loads arcs amounts loads fits have each = record {
  one_for_each = fits;
  most = λ i inside.
      let is = have i (omega (arith, inside, fits)) in
      let most = amount_most loads i each in
      omega (arith, is, most);
}

-- and they are the amounts that a bound names
pub amounts_are : (arcs : List Arc) (amounts : List ℕ) (loads : List Load) → length amounts ≡ length arcs → HaveLoads amounts loads →
    amounts ≡ amounts_of arcs loads
amounts_are arcs amounts loads fits have =
    let long = length-map-range_with_len (amount_on loads) 0 (length arcs) in
    ext_get_or 0 amounts (amounts_of arcs loads) (fits ∙ sym long) (λ i inside. (
    let number : 0 + i ≡ i = omega arith in
    let below : i < length arcs = omega (arith, inside, fits) in
    have i inside ∙ sym (get_or-map-range_with_len (amount_on loads) 0 (length arcs) i i 0 below number)))

-- the two flows of a bound
pub flows_are : (shape : Shape) (choices : List Choice) (columns rows : DiffGraph) (across up : List ℕ) (x y : List Load) →
    IsGraphOf X shape choices columns → IsGraphOf Y shape choices rows → length across ≡ length columns.arcs → length up ≡ length rows.arcs →
    HaveLoads across x → HaveLoads up y →
    record { x = record { amounts = across }; y = record { amounts = up } } ≡ flows_of shape choices x y
flows_are shape choices columns rows across up x y is_columns is_rows fits_x fits_y have_x have_y =
    let of_x : across ≡ amounts_of (arcs_of X shape choices) x = amounts_are (arcs_of X shape choices) across x (fits_x ∙ ap length is_columns.arcs) have_x in
    let of_y : up ≡ amounts_of (arcs_of Y shape choices) y = amounts_are (arcs_of Y shape choices) up y (fits_y ∙ ap length is_rows.arcs) have_y in
    λ i. record { x = record { amounts = of_x i }; y = record { amounts = of_y i } }

-- what is said of a graph is said of the graph of the choices
module _ (axis : Axis) (shape : Shape) (choices : List Choice) (graph : DiffGraph) (is : IsGraphOf axis shape choices graph) where
  pub off_here : (loads : List Load) (arc : ℕ) → IsFirstOffArcs graph.arcs loads arc → IsFirstOffArcs (arcs_of axis shape choices) loads arc
  off_here loads arc off = subst (λ (arcs : List Arc). IsFirstOffArcs arcs loads arc) is.arcs off

  pub on_here : (loads : List Load) → AreOnArcs graph.arcs loads → AreOnArcs (arcs_of axis shape choices) loads
  on_here loads on = subst (λ (arcs : List Arc). AreOnArcs arcs loads) is.arcs on

  pub unbalanced_here : (amounts : List ℕ) (node : ℕ) → IsFirstUnbalanced graph.nodes graph.arcs amounts node →
      IsFirstUnbalanced (node_count axis shape) (arcs_of axis shape choices) amounts node
  unbalanced_here amounts node first =
      subst (λ (n : ℕ). IsFirstUnbalanced n (arcs_of axis shape choices) amounts node) is.nodes
      (subst (λ (arcs : List Arc). IsFirstUnbalanced graph.nodes arcs amounts node) is.arcs first)

  pub balanced_here : (flow : Flow) → IsFlowOn graph.arcs flow.amounts → Balances graph.nodes graph.arcs flow.amounts → IsBalanced axis shape choices flow
  balanced_here flow on balances = record {
    amounts = subst (λ (arcs : List Arc). IsFlowOn arcs flow.amounts) is.arcs on;
    balances = subst (λ (n : ℕ). Balances n (arcs_of axis shape choices) flow.amounts) is.nodes
        (subst (λ (arcs : List Arc). Balances graph.nodes arcs flow.amounts) is.arcs balances);
  }

-- the bound of the flows of a branch
module _ (shape : Shape) (branch : GrowingGraphs) (flows : HasFlows shape branch) where
  pub bound_is : bound_of branch.columns.graph.arcs branch.columns.flow.amounts +ℤ bound_of branch.rows.graph.arcs branch.rows.flow.amounts
      ≡ bound_by shape branch.choices (flows_on branch)
  bound_is =
      ap (λ (arcs : List Arc). bound_of arcs branch.columns.flow.amounts +ℤ bound_of branch.rows.graph.arcs branch.rows.flow.amounts) flows.columns.arcs
      ∙ ap (λ (arcs : List Arc). bound_of (arcs_of X shape branch.choices) branch.columns.flow.amounts +ℤ bound_of arcs branch.rows.flow.amounts) flows.rows.arcs

  pub both_balanced : Balances branch.columns.graph.nodes branch.columns.graph.arcs branch.columns.flow.amounts →
      Balances branch.rows.graph.nodes branch.rows.graph.arcs branch.rows.flow.amounts → AreBalanced shape branch.choices (flows_on branch)
  both_balanced x y X = balanced_here X shape branch.choices branch.columns.graph flows.columns branch.columns.flow flows.across x
  both_balanced x y Y = balanced_here Y shape branch.choices branch.rows.graph flows.rows branch.rows.flow flows.up y

  pub weak_low : (places : Places) (entry : ℕ) (bound : ℤ) → bound ≡ bound_by shape branch.choices (flows_on branch) →
      bound <ℤ worth_of total_length shape places → IsWeak shape branch.choices (flows_on branch) places entry (WeakBound entry bound None)
  weak_low places entry bound is less =
      subst (λ (z : ℤ). IsWeak shape branch.choices (flows_on branch) places entry (WeakBound entry z None)) (sym is)
      (below_length (omega (arith, ints, is, less)))

  pub weak_late : (places : Places) (entry : ℕ) (bound : ℤ) (vertex : ℕ) → bound ≡ bound_by shape branch.choices (flows_on branch) →
      bound ≡ worth_of total_length shape places → IsEarlierAt shape branch.choices (flows_on branch) places vertex →
      IsWeak shape branch.choices (flows_on branch) places entry (WeakBound entry bound (Some vertex))
  weak_late places entry bound vertex is same earlier =
      subst (λ (z : ℤ). IsWeak shape branch.choices (flows_on branch) places entry (WeakBound entry z (Some vertex))) (sym is)
      (before_these vertex (sym is ∙ same) earlier)

-- the fault of flows is that of a bound with their loads
module _ (shape : Shape) (choices : List Choice) (places : Places) (entry : ℕ) (x y : List Load) (on : AreBothOnArcs shape choices x y) where
  from_weak : AreBalanced shape choices (flows_of shape choices x y) → (fault : CheckFault) → IsWeak shape choices (flows_of shape choices x y) places entry fault →
      IsBoundFault shape choices places entry x y fault
  from_weak balanced _ (below_length less) = too_low on balanced less
  from_weak balanced _ (before_these vertex same earlier) = too_late vertex on balanced same earlier

  from_flow_fault : (fault : CheckFault) → IsFlowFault shape choices (flows_of shape choices x y) places entry fault →
      IsBoundFault shape choices places entry x y fault
  from_flow_fault _ (columns_unbalanced node off) = x_unbalanced node on off
  from_flow_fault _ (rows_unbalanced node balanced off) = y_unbalanced node on balanced off
  from_flow_fault _ (too_weak fault balanced weak) = from_weak balanced fault weak

  pub fault_from_flows : (flows : Flows) → flows ≡ flows_of shape choices x y → (fault : CheckFault) → IsFlowFault shape choices flows places entry fault →
      IsBoundFault shape choices places entry x y fault
  fault_from_flows flows is fault wrong =
      from_flow_fault fault (subst (λ (f : Flows). IsFlowFault shape choices f places entry fault) is wrong)

  pub good_from_flows : (flows : Flows) → flows ≡ flows_of shape choices x y → DoBalanceAndBound shape choices flows places → IsGoodBound shape choices places x y
  good_from_flows flows is good =
      let here = subst (λ (f : Flows). DoBalanceAndBound shape choices f places) is good in
      record { x_arcs = on.x_arcs; y_arcs = on.y_arcs; balanced = here.balanced; bounds = here.bounds }
