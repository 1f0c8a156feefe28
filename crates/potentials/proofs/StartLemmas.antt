-- A flow of the choices before the last one, on the graphs with the last.
use Rattle.std.proofs.Common.{◌≡◌, ℕ, suc, ◌<◌, ◌≤◌, inl, inr, ℤ, pos, Bool, true, false, Some, None, List, [], ◌∷◌, ◌++◌, length, refl, sym, ap, subst, ◌∙◌, arith, append_assoc}
use Rattle.std.specs.Prelude.{◌-ℤ◌, if◌then◌else◌}
use Rattle.std.specs.List.{cons_option}
use Rattle.std.proofs.lemmas.Int.{ints}
use Rattle.std.proofs.lemmas.Bool.{cases_lt}
use Rattle.std.proofs.lemmas.Bool.Decides.{nat_tests}
use Rattle.std.proofs.lemmas.List.{append-nil, get_or_append_left, get_or_push, length_push}
use Rattle.std.proofs.lemmas.List.Elements.{filter_map-append}
use Rattle.compact_types.specs.declared.places.Axis.{Axis}
use Rattle.compact_types.specs.declared.plan.Shape.{Shape}
use Rattle.compact_types.specs.declared.search.Choice.{Choice}
use Rattle.compact_types.specs.declared.search.Flow.{Flow}
use Rattle.compact_types.specs.declared.search.Flows.{Flows}
use Rattle.compact_types.specs.Sums.{sum_to}
use Rattle.compact_types.proofs.Laws.{sum_to-same}
use Rattle.bars.specs.Lines.{is_axis}
use Rattle.bars.specs.Sides.{side_axis}
use Rattle.shape_graphs.specs.declared.graph.Arc.{Arc}
use Rattle.shape_graphs.specs.declared.graph.DiffGraph.{DiffGraph}
use Rattle.shape_graphs.specs.Arcs.{arc_at, no_arc}
use Rattle.shape_graphs.specs.Backings.{DoBack, flow_of}
use Rattle.shape_graphs.specs.Flows.{amount_at, at_node, Balances, IsFlowOn, net}
use Rattle.shape_graphs.specs.Graphs.{arcs_of, choice_arc_along, choice_arcs, IsGraphOf, piece_arcs, side_arc}
use Rattle.shape_graphs.specs.Measures.{BacksBefore}
use Rattle.potentials.specs.inner.Solving.{BalancesOn, IsStartingFlow}
use Rattle.potentials.specs.inner.Solving.IsStartingFlow.{on_all, on_all_but_last}

-- nothing is nothing at every node
nothing_at : (a b : ℕ) → at_node a b (pos 0) ≡ pos 0
nothing_at a b = grind (arith, nat_tests)

-- what an arc that carries z brings to a node
abbrev brought : ℕ → Arc → ℤ → ℤ
brought node a z = at_node a.to node z -ℤ at_node a.from node z

nothing : (node : ℕ) (a : Arc) → brought node a (pos 0) ≡ pos 0
nothing node a = let x = nothing_at a.to node in let y = nothing_at a.from node in omega (arith, ints, x, y)

-- an arc that carries nothing brings nothing to a node
net_longer : (arcs : List Arc) (arc : Arc) (c d : ℕ → ℤ) → ((i : ℕ) → i < length arcs → d i ≡ c i) → d (length arcs) ≡ pos 0 → (node : ℕ) →
    net (arcs ++ arc ∷ []) d node ≡ net arcs c node
net_longer arcs arc c d same none node =
    let longer : length (arcs ++ arc ∷ []) ≡ suc (length arcs) = omega (arith, length_push arcs arc) in
    let last : brought node (arc_at (arcs ++ arc ∷ []) (length arcs)) (d (length arcs)) ≡ pos 0 =
    ap (brought node (arc_at (arcs ++ arc ∷ []) (length arcs))) none ∙ nothing node (arc_at (arcs ++ arc ∷ []) (length arcs)) in
    let front = sum_to-same (λ i. brought node (arc_at (arcs ++ arc ∷ []) i) (d i)) (λ i. brought node (arc_at arcs i) (c i)) (length arcs) (λ i inside. (
    ap (λ (a : Arc). brought node a (d i)) (get_or_append_left arcs (arc ∷ []) no_arc i inside) ∙ ap (brought node (arc_at arcs i)) (same i inside))) in
    ap (sum_to (λ i. brought node (arc_at (arcs ++ arc ∷ []) i) (d i))) longer ∙ omega (arith, ints, last, front)

-- a flow with one arc more, which carries nothing
module _ (arcs : List Arc) (arc : Arc) (amounts : List ℕ) (flow : IsFlowOn arcs amounts) where
  amount_before : (i : ℕ) → i < length arcs → amount_at (amounts ++ 0 ∷ []) i ≡ amount_at amounts i
  amount_before i inside = get_or_append_left amounts (0 ∷ []) 0 i (omega (arith, flow.one_for_each, inside))

  amount_last : amount_at (amounts ++ 0 ∷ []) (length arcs) ≡ 0
  amount_last = get_or_push amounts 0 0 (length arcs) (omega (arith, flow.one_for_each))

  longer_flow : IsFlowOn (arcs ++ arc ∷ []) (amounts ++ 0 ∷ [])
  longer_flow = record {
    one_for_each = omega (arith, length_push arcs arc, length_push amounts 0, flow.one_for_each);
    most = λ i inside. elim (cases_lt i (length arcs)) [
      | inl before ↦ (let is = amount_before i before in let most = flow.most i before in omega (arith, is, most))
      | inr last ↦ (
          let at : i ≡ length arcs = omega (arith, last, inside, length_push arcs arc) in
          let is = amount_last in
          rw at (omega (arith, is)))
    ];
  }

  longer_balances : (nodes : ℕ) → arc.pull ≡ pos 0 → Balances nodes arcs amounts → Balances nodes (arcs ++ arc ∷ []) (amounts ++ 0 ∷ [])
  longer_balances nodes no_pull balances = record {
    one_for_each = longer_flow.one_for_each;
    each = λ node inside.
        net_longer arcs arc (λ i. pos (amount_at amounts i)) (λ i. pos (amount_at (amounts ++ 0 ∷ []) i))
        (λ i before. ap pos (amount_before i before)) (ap pos amount_last) node
        ∙ balances.each node inside
        ∙ sym (net_longer arcs arc (λ i. (arc_at arcs i).pull) (λ i. (arc_at (arcs ++ arc ∷ []) i).pull)
        (λ i before. ap (λ (a : Arc). a.pull) (get_or_append_left arcs (arc ∷ []) no_arc i before))
        (ap (λ (a : Arc). a.pull) (get_or_push arcs arc no_arc (length arcs) refl) ∙ no_pull) node);
  }

-- the flow with an amount on the last arc, where the graph has an arc more
pub begun_longer : (graph : DiffGraph) (flow : Flow) → IsStartingFlow graph flow → length flow.amounts < length graph.arcs →
    (new : Flow) → new.amounts ≡ flow.amounts ++ 0 ∷ [] → BalancesOn graph new
begun_longer graph flow (on_all balances) less new is = absurd (omega (arith, less, balances.amounts.one_for_each))
begun_longer graph flow (on_all_but_last arcs last are no_pull amounts balances) less new is =
    subst (λ (n : List ℕ). BalancesOn graph (record { amounts = n })) (sym is) (record {
      amounts = subst (λ (a : List Arc). IsFlowOn a (flow.amounts ++ 0 ∷ [])) (sym are) (longer_flow arcs last flow.amounts amounts);
      balances = subst (λ (a : List Arc). Balances graph.nodes a (flow.amounts ++ 0 ∷ [])) (sym are)
          (longer_balances arcs last flow.amounts amounts graph.nodes no_pull balances);
    })

-- the flow, where it has an amount for every arc
pub begun_whole : (graph : DiffGraph) (flow : Flow) → IsStartingFlow graph flow → length graph.arcs ≤ length flow.amounts → BalancesOn graph flow
begun_whole graph flow (on_all balances) enough = balances
begun_whole graph flow (on_all_but_last arcs last are no_pull amounts balances) enough =
    let longer = ap (λ (a : List Arc). length a) are in
    absurd (omega (arith, enough, longer, length_push arcs last, amounts.one_for_each))

-- a flow that backs a verdict on the choices before the last begins one on all
module _ (shape : Shape) (choices : List Choice) (start : Flows) (back : BacksBefore (DoBack shape) choices start)
    (axis : Axis) (graph : DiffGraph) (is : IsGraphOf axis shape choices graph) where
  abbrev older : List Arc
  older = arcs_of axis shape back.before

  arcs_are : graph.arcs ≡ older ++ cons_option (choice_arc_along axis shape back.last) []
  arcs_are =
      is.arcs ∙ ap (arcs_of axis shape) back.is
      ∙ ap (λ (l : List Arc). piece_arcs axis shape ++ l) (filter_map-append (choice_arc_along axis shape) back.before (back.last ∷ []))
      ∙ sym (append_assoc (piece_arcs axis shape) (choice_arcs axis shape back.before) (cons_option (choice_arc_along axis shape back.last) []))

  pub begun : IsStartingFlow graph (flow_of axis start)
  begun = by_test (is_axis (side_axis back.last.side) axis) arcs_are
    where
      balances : Balances graph.nodes older (flow_of axis start).amounts
      balances = subst (λ (n : ℕ). Balances n older (flow_of axis start).amounts) (sym is.nodes) (back.backs.balanced axis).balances

      by_test : (test : Bool) →
          graph.arcs ≡ older ++ cons_option (if test then Some (side_arc shape back.last.s back.last.t back.last.side) else None) [] → IsStartingFlow graph (flow_of axis start)
      by_test true are = on_all_but_last older (side_arc shape back.last.s back.last.t back.last.side) are refl (back.backs.balanced axis).amounts balances
      by_test false are =
          let same : graph.arcs ≡ older = are ∙ append-nil older in
          on_all (record {
            amounts = subst (λ (a : List Arc). IsFlowOn a (flow_of axis start).amounts) (sym same) (back.backs.balanced axis).amounts;
            balances = subst (λ (a : List Arc). Balances graph.nodes a (flow_of axis start).amounts) (sym same) balances;
          })
