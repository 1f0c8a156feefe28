-- What a solver knows of its graph, of one with the same nodes and arcs, and of the graph without
-- its last arc.
use Rattle.std.proofs.Common.{◌≡◌, ℕ, zero, suc, ◌≤◌, ◌-◌, ℤ, pos, List, [], ◌∷◌, ◌++◌, length, Option, Some, None, refl, sym, ap, subst, ◌∙◌, arith}
use Rattle.std.specs.Prelude.{◌+ℤ◌, ◌≤ℤ◌, IfSome, MatchOption, slice_get, slice_index}
use Rattle.compact_types.specs.declared.limits.TheConstants.{MOST_VERTICES}
use Rattle.shape_graphs.specs.Paths.{HasCycle}
use Rattle.std.proofs.lemmas.List.{get_or_push, length_push, length-append}
use Rattle.compact_types.specs.declared.search.Flow.{Flow}
use Rattle.shape_graphs.specs.declared.graph.Arc.{Arc}
use Rattle.shape_graphs.specs.declared.graph.DiffGraph.{DiffGraph}
use Rattle.shape_graphs.specs.Arcs.{arc_at, no_arc}
use Rattle.shape_graphs.specs.Flows.{Balances, bound_of, IsFlowOn, number_at}
use Rattle.diff_flow.specs.Tight.{AreLeastTight, AreTight}
use Rattle.diff_flow.specs.Walks.{AreLongestWalkLengths, AreWalkLengthsOf, HasOneMoreArc}
use Rattle.potentials.specs.declared.reached.Bounded.{Bounded}
use Rattle.potentials.specs.declared.reached.Level.{Level}
use Rattle.potentials.specs.declared.reached.FoundFlow.{FoundFlow}
use Rattle.potentials.specs.declared.solver.AxisSolver.{AxisSolver}
use Rattle.potentials.specs.inner.Solving.{AreLeastNumbers, BalancesOn, HasTight, IsBounded, IsSolvable, IsStartingFlow}
use Rattle.potentials.specs.inner.Solving.IsStartingFlow.{on_all_but_last}
use Rattle.potentials.specs.inner.Solvers.{AreLevels, AreNumbersBefore, HasChoiceMore, IsBestOn, IsFoundFlow, IsSame, IsSolver, MeetsLast}
use Rattle.potentials.specs.inner.Solvers.AreLevels.{no_level, one_more}
use Rattle.potentials.proofs.StartLemmas.{begun_longer}

-- lists that are the same with one more at the end
pub same_push : {A : Type 0} (xs ys : List A) (a b : A) → xs ++ a ∷ [] ≡ ys ++ b ∷ [] → (xs ≡ ys) × (a ≡ b)
same_push [] [] a b e = (refl, cc)
same_push [] (y ∷ ys) a b e = let lengths = ap length e in absurd (omega (arith, lengths, length-append ys (b ∷ [])))
same_push (x ∷ xs) [] a b e = let lengths = ap length e in absurd (omega (arith, lengths, length-append xs (a ∷ [])))
same_push (x ∷ xs) (y ∷ ys) a b e =
    let head : x ≡ y = cc in
    let tails : xs ++ a ∷ [] ≡ ys ++ b ∷ [] = cc in
    let rest = same_push xs ys a b tails in
    (rw (head, rest.0) refl, rest.1)

-- what holds of a graph holds of one with the same nodes and arcs
module _ (graph other : DiffGraph) (same : IsSame graph other) where
  there : (P : ℕ → List Arc → Type 0) → P other.nodes other.arcs → P graph.nodes graph.arcs
  there P holds = subst (λ (n : ℕ). P n graph.arcs) same.nodes (subst (λ (a : List Arc). P other.nodes a) same.arcs holds)

  pub balances_there : (flow : Flow) → BalancesOn other flow → BalancesOn graph flow
  balances_there flow is = record {
    amounts = there (λ (n : ℕ) (a : List Arc). IsFlowOn a flow.amounts) is.amounts;
    balances = there (λ (n : ℕ) (a : List Arc). Balances n a flow.amounts) is.balances;
  }

  pub bounded_there : (flow : Flow) (bound : ℤ) → IsBounded other flow bound → IsBounded graph flow bound
  bounded_there flow bound is = record {
    balances = balances_there flow is.balances;
    value = there (λ (n : ℕ) (a : List Arc). bound ≡ bound_of a flow.amounts) is.value;
  }

  pub tight_there : (flow : Flow) → HasTight other flow → HasTight graph flow
  tight_there flow is = there (λ (n : ℕ) (a : List Arc). (numbers : ℕ → ℤ) × AreTight n a flow.amounts numbers) is

  pub numbers_there : (flow : Flow) (numbers : List ℤ) → AreLeastNumbers other flow numbers → AreLeastNumbers graph flow numbers
  numbers_there flow numbers is = record {
    one_for_each = is.one_for_each ∙ same.nodes;
    least = there (λ (n : ℕ) (a : List Arc). AreLeastTight n a flow.amounts (number_at numbers)) is.least;
  }

  pub walks_there : (walks : List ℕ) → AreWalkLengthsOf other walks → AreWalkLengthsOf graph walks
  walks_there walks is = record {
    one_for_each = is.one_for_each ∙ same.nodes;
    longest = there (λ (n : ℕ) (a : List Arc). AreLongestWalkLengths n a (λ v. pos (slice_index walks v))) is.longest;
  }

  pub best_there : (best : Bounded) → IsBestOn other best → IsBestOn graph best
  best_there best is = record {
    bounded = bounded_there best.flow best.bound is.bounded;
    tight = tight_there best.flow is.tight;
  }

  best_if_some : (best : Option Bounded) → IfSome best (IsBestOn other) → IfSome best (IsBestOn graph)
  best_if_some None is = tt
  best_if_some (Some best) is = best_there best is

  numbers_if_some : (best : Option Bounded) (numbers : Option (List ℤ)) →
      IfSome numbers (λ found. MatchOption best ⊥ (λ b. AreLeastNumbers other b.flow found)) →
      IfSome numbers (λ found. MatchOption best ⊥ (λ b. AreLeastNumbers graph b.flow found))
  numbers_if_some best None is = tt
  numbers_if_some None (Some numbers) is = is
  numbers_if_some (Some best) (Some numbers) is = numbers_there best.flow numbers is

  pub reached_there : (reached : FoundFlow) → IsFoundFlow other reached → IsFoundFlow graph reached
  reached_there reached is = record {
    best = best_if_some reached.best is.best;
    numbers = numbers_if_some reached.best reached.numbers is.numbers;
  }

  pub solvable_there : IsSolvable other → IsSolvable graph
  solvable_there is = record {
    few_nodes = there (λ (n : ℕ) (a : List Arc). n ≤ MOST_VERTICES) is.few_nodes;
    no_cycle = there (λ (n : ℕ) (a : List Arc). HasCycle a → ⊥) is.no_cycle;
  }

  pub levels_there : (levels : List Level) → AreLevels other levels → AreLevels graph levels
  levels_there levels (no_level graph-1) = no_level graph
  levels_there levels (one_more before graph-1 front level all are more solvable walks reached below) =
      one_more before graph front level all are (record {
        one = record {
          nodes = sym same.nodes ∙ more.one.nodes;
          last = more.one.last;
          arcs = sym same.arcs ∙ more.one.arcs;
        };
        no_pull = more.no_pull;
      }) solvable walks reached below

-- numbers that are the least without the last arc
module _ (graph : DiffGraph) (flow : Flow) (numbers : List ℤ) (is : AreNumbersBefore graph flow numbers) where
  abbrev last : Arc
  last = is.more.one.last

  begun_before : IsStartingFlow graph flow
  begun_before =
      on_all_but_last is.before.arcs last is.more.one.arcs is.more.no_pull is.balances.amounts
      (subst (λ (n : ℕ). Balances n is.before.arcs flow.amounts) (sym is.more.one.nodes) is.balances.balances)

  more_arcs : length graph.arcs ≡ suc (length is.before.arcs)
  more_arcs = let longer = ap (λ (a : List Arc). length a) is.more.one.arcs in omega (arith, longer, length_push is.before.arcs last)

  pub balances_longer : (new : Flow) → new.amounts ≡ flow.amounts ++ 0 ∷ [] → BalancesOn graph new
  balances_longer new amounts =
      begun_longer graph flow begun_before (omega (arith, more_arcs, is.balances.amounts.one_for_each)) new amounts

  last_is : arc_at graph.arcs (length graph.arcs - 1) ≡ last
  last_is =
      ap (λ (a : List Arc). arc_at a (length graph.arcs - 1)) is.more.one.arcs
      ∙ get_or_push is.before.arcs last no_arc (length graph.arcs - 1) (omega (arith, more_arcs))

  abbrev Law : Type 0
  Law = (nodes : ℕ) (arcs : List Arc) (arc : Arc) (amounts : List ℕ) (numbers : ℕ → ℤ) →
      length amounts ≡ length arcs → AreLeastTight nodes arcs amounts numbers →
      (numbers arc.from +ℤ arc.least) ≤ℤ numbers arc.to →
      AreLeastTight nodes (arcs ++ arc ∷ []) (amounts ++ 0 ∷ []) numbers

  pub numbers_longer : Law → MeetsLast graph numbers → (new : Flow) → new.amounts ≡ flow.amounts ++ 0 ∷ [] → AreLeastNumbers graph new numbers
  numbers_longer law meets new amounts = record {
    one_for_each = is.least.one_for_each ∙ sym is.more.one.nodes;
    least =
        subst (λ (n : ℕ). AreLeastTight n graph.arcs new.amounts (number_at numbers)) (sym is.more.one.nodes)
        (subst (λ (a : List Arc). AreLeastTight is.before.nodes a new.amounts (number_at numbers)) (sym is.more.one.arcs)
        (subst (λ (l : List ℕ). AreLeastTight is.before.nodes (is.before.arcs ++ last ∷ []) l (number_at numbers)) (sym amounts)
        (law is.before.nodes is.before.arcs last flow.amounts (number_at numbers) is.balances.amounts.one_for_each is.least.least
        (subst (λ (a : Arc). (number_at numbers a.from +ℤ a.least) ≤ℤ number_at numbers a.to) last_is meets))));
  }

-- a level is for the graph before its arc came
pub record IsUnder (graph : DiffGraph) (front : List Level) (level : Level) : Type 0 where
  pub before : DiffGraph
  pub more : HasChoiceMore before graph
  pub solvable : IsSolvable before
  pub walks : AreWalkLengthsOf before level.walks
  pub reached : IsFoundFlow before level.reached
  pub below : AreLevels before front

pub last_level : (graph : DiffGraph) (levels front : List Level) (level : Level) → levels ≡ front ++ level ∷ [] → AreLevels graph levels → IsUnder graph front level
last_level graph levels front level are (no_level graph-1) = let lengths = ap length are in absurd (omega (arith, lengths, length_push front level))
last_level graph levels front level are (one_more before graph-1 front-1 level-1 levels-1 are-1 more solvable walks reached below) =
    let same = same_push front-1 front level-1 level (sym are-1 ∙ are) in
    record {
      before = before;
      more = more;
      solvable = solvable;
      walks = subst (λ (l : Level). AreWalkLengthsOf before l.walks) same.1 walks;
      reached = subst (λ (l : Level). IsFoundFlow before l.reached) same.1 reached;
      below = subst (λ (l : List Level). AreLevels before l) same.0 below;
    }

-- nothing was found yet
nothing_reached : (graph : DiffGraph) (reached : FoundFlow) → reached.best ≡ None → reached.numbers ≡ None → IsFoundFlow graph reached
nothing_reached graph reached no_best no_numbers = record {
  best = subst (λ (o : Option Bounded). IfSome o (IsBestOn graph)) (sym no_best) tt;
  numbers = subst (λ (o : Option (List ℤ)). IfSome o (λ numbers. MatchOption reached.best ⊥ (λ best. AreLeastNumbers graph best.flow numbers))) (sym no_numbers) tt;
}

-- the solver of a graph, without levels
pub fresh_solver : (graph network : DiffGraph) (reached : FoundFlow) (levels : List Level) → graph.nodes ≤ MOST_VERTICES → network ≡ graph →
    (HasCycle graph.arcs → ⊥) → reached.best ≡ None → reached.numbers ≡ None → levels ≡ [] →
    IsSolver (record { network = network; reached = reached; levels = levels })
fresh_solver graph network reached levels few is none no_best no_numbers no_levels = record {
  solvable = subst IsSolvable (sym is) (record { few_nodes = few; no_cycle = none });
  reached = nothing_reached network reached no_best no_numbers;
  levels = subst (AreLevels network) (sym no_levels) (no_level network);
}

-- the solver of a graph with one arc more
pub solver_more : (solver : AxisSolver) (graph : DiffGraph) → IsSolver solver → HasChoiceMore solver.network graph →
    (network : DiffGraph) (reached : FoundFlow) (levels : List Level) (level : Level) → network ≡ graph → (HasCycle graph.arcs → ⊥) →
    AreWalkLengthsOf solver.network level.walks → level.reached ≡ solver.reached → reached.best ≡ None → reached.numbers ≡ None →
    levels ≡ solver.levels ++ level ∷ [] → IsSolver (record { network = network; reached = reached; levels = levels })
solver_more solver graph is more network reached levels level same none walks was no_best no_numbers pushed = record {
  solvable = subst IsSolvable (sym same) (record {
    few_nodes = subst (λ (n : ℕ). n ≤ MOST_VERTICES) (sym more.one.nodes) is.solvable.few_nodes;
    no_cycle = none;
  });
  reached = nothing_reached network reached no_best no_numbers;
  levels = one_more solver.network network solver.levels level levels pushed (subst (λ (g : DiffGraph). HasChoiceMore solver.network g) (sym same) more)
      is.solvable walks (subst (IsFoundFlow solver.network) (sym was) is.reached) is.levels;
}

-- the solver of a graph without its last arc
module _ (solver : AxisSolver) (graph : DiffGraph) (is : IsSolver solver) (fewer : HasOneMoreArc graph solver.network)
    (front : List Level) (level : Level) (are : solver.levels ≡ front ++ level ∷ []) where
  abbrev under : IsUnder solver.network front level
  under = last_level solver.network solver.levels front level are is.levels

  same_before : IsSame graph under.before
  same_before =
      let arcs = same_push under.before.arcs graph.arcs under.more.one.last fewer.last (sym under.more.one.arcs ∙ fewer.arcs) in
      record {
        nodes = sym under.more.one.nodes ∙ fewer.nodes;
        arcs = arcs.0;
      }

  pub walks_less : AreWalkLengthsOf graph level.walks
  walks_less = walks_there graph under.before same_before level.walks under.walks

  pub solver_less : (network : DiffGraph) → network ≡ graph → IsSolver (record { network = network; reached = level.reached; levels = front })
  solver_less network same = subst (λ (g : DiffGraph). IsSolver (record { network = g; reached = level.reached; levels = front })) (sym same) (record {
    solvable = solvable_there graph under.before same_before under.solvable;
    reached = reached_there graph under.before same_before level.reached under.reached;
    levels = levels_there graph under.before same_before front under.below;
  })

-- what the last level knows of the graph before its arc came
front_at : (levels : List Level) (level : Level) (n : ℕ) → length levels ≡ suc n → Some level ≡ slice_get levels n → (front : List Level) × (levels ≡ front ++ level ∷ [])
front_at [] level n count is = absurd (omega (arith, count))
front_at (only ∷ []) level zero count is = let same : only ≡ level = cc in ([], ap (λ (l : Level). l ∷ []) same)
front_at (only ∷ []) level (suc n) count is = absurd (omega (arith, count))
front_at (first ∷ second ∷ rest) level zero count is = absurd (omega (arith, count))
front_at (first ∷ second ∷ rest) level (suc n) count is =
    let found = front_at (second ∷ rest) level n (omega (arith, count)) is in
    (first ∷ found.0, ap (λ (l : List Level). first ∷ l) found.1)

front_of_last : (levels : List Level) (level : Level) → Some level ≡ slice_get levels (length levels - 1) → (front : List Level) × (levels ≡ front ++ level ∷ [])
front_of_last [] level is = absurd cc
front_of_last (first ∷ rest) level is =
    front_at (first ∷ rest) level (length rest) refl (is ∙ ap (slice_get (first ∷ rest)) (omega (arith)))

pub numbers_before : (solver : AxisSolver) (graph : DiffGraph) → IsSolver solver → IsSame solver.network graph → (level : Level) →
    Some level ≡ slice_get solver.levels (length solver.levels - 1) → (best : Bounded) (numbers : List ℤ) →
    level.reached.best ≡ Some best → level.reached.numbers ≡ Some numbers → AreNumbersBefore graph best.flow numbers
numbers_before solver graph is same level ends best numbers is_best are_numbers =
    let front = front_of_last solver.levels level ends in
    let under = last_level solver.network solver.levels front.0 level front.1 is.levels in
    let best_is : IsBestOn under.before best = subst (λ (o : Option Bounded). IfSome o (IsBestOn under.before)) is_best under.reached.best in
    record {
      before = under.before;
      more = record {
        one = record { nodes = same.nodes ∙ under.more.one.nodes; last = under.more.one.last; arcs = same.arcs ∙ under.more.one.arcs };
        no_pull = under.more.no_pull;
      };
      balances = best_is.bounded.balances;
      least = subst (λ (o : Option Bounded). MatchOption o ⊥ (λ b. AreLeastNumbers under.before b.flow numbers)) is_best
          (subst (λ (o : Option (List ℤ)). IfSome o (λ found. MatchOption level.reached.best ⊥ (λ b. AreLeastNumbers under.before b.flow found)))
          are_numbers under.reached.numbers);
    }
