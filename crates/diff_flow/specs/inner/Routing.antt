-- Amounts while excess is sent to where they lack.
use Rattle.std.specs.Prelude.{◌≡◌, ℕ, ◌+◌, ◌*◌, ◌^◌, ◌<◌, ◌≤◌, List, length, slice_index, sum}
use Rattle.std.specs.Prelude.{pos, ℤ, ◌-ℤ◌, ◌+ℤ◌, ◌≤ℤ◌}
use Rattle.compact_types.specs.Sums.{sum_to}
use Rattle.shape_graphs.specs.declared.graph.Arc.{Arc}
use Rattle.shape_graphs.specs.Flows.{amount_at, at_node, Balances, bound_of}
use Rattle.diff_flow.specs.Amounts.{IsFlowOn}
use Rattle.diff_flow.specs.declared.steps.ResidualArc.{ResidualArc}
use Rattle.diff_flow.specs.inner.Steps.{along_at}
use Rattle.diff_flow.specs.inner.Numbers.{height}
use Rattle.diff_flow.specs.inner.Search.{AreFit}

-- what comes in at a node minus what goes out, by the steps along so many arcs
abbrev pub net_by : List ResidualArc → ℕ → List ℕ → ℕ → ℤ
net_by steps arcs amounts node =
    sum_to (λ i. at_node (along_at steps i).to node (pos (amount_at amounts i))
    -ℤ at_node (along_at steps i).from node (pos (amount_at amounts i))) arcs

-- with what the nodes lack added, and their excess taken away, the amounts balance as the given
-- ones do
abbrev pub IsSpread : ℕ → ℕ → List ResidualArc → List ℕ → List ℕ → List ℕ → List ℕ → Type 0
IsSpread nodes arcs steps given amounts over want =
    (v : ℕ) → v < nodes →
    net_by steps arcs amounts v +ℤ pos (slice_index want v)
    ≡ net_by steps arcs given v +ℤ pos (slice_index over v)

-- one for each, and as much excess as is lacking
pub record AreEven (nodes arcs : ℕ) (amounts over want : List ℕ) : Type 0 where
  pub amounts_for_each : length amounts ≡ arcs
  pub over_for_each : length over ≡ nodes
  pub want_for_each : length want ≡ nodes
  pub even : sum over ≡ sum want
  pub few : sum over ≤ 2 ^ 90

-- no amount that is given is above the most
abbrev pub AreGiven : ℕ → List ℕ → Type 0
AreGiven arcs given = (i : ℕ) → i < arcs → amount_at given i ≤ 2 ^ 50

-- Amounts on their way: numbers fit them, and some given amounts balance as they do but for
-- excess and want.
pub record IsRouting (nodes arcs limit : ℕ) (steps : List ResidualArc)
    (amounts numbers over want : List ℕ) : Type 0 where
  pub even : AreEven nodes arcs amounts over want
  pub fit : AreFit nodes limit steps amounts numbers want
  pub given : (given : List ℕ) × AreGiven arcs given
      × IsSpread nodes arcs steps given amounts over want

-- what balances as before, but for excess and want, still does
abbrev pub KeepsBalance : ℕ → ℕ → List ResidualArc → List ℕ → List ℕ → List ℕ → List ℕ → List ℕ →
    List ℕ → Type 0
KeepsBalance nodes arcs steps amounts over want amounts' over' want' =
    (given : List ℕ) → IsSpread nodes arcs steps given amounts over want →
    IsSpread nodes arcs steps given amounts' over' want'

-- the amount is sent over the step: added on its arc, or taken away where the step goes against it
pub record IsSent (step : ResidualArc) (amount : ℕ) (amounts amounts' : List ℕ) : Type 0 where
  pub one_for_each : length amounts' ≡ length amounts
  pub along : 0 < step.up → amount_at amounts' step.arc ≡ amount_at amounts step.arc + amount
  pub against : step.up ≡ 0 → amount_at amounts' step.arc + amount ≡ amount_at amounts step.arc
  pub others : (i : ℕ) → (i ≡ step.arc → ⊥) → amount_at amounts' i ≡ amount_at amounts i

-- The amount is moved from one node to another: only tight arcs have more than before, by the
-- amount at most.
pub record IsMoved (nodes arcs : ℕ) (steps : List ResidualArc) (amount start goal : ℕ)
    (numbers amounts amounts' : List ℕ) : Type 0 where
  pub one_for_each : length amounts' ≡ length amounts
  pub net : (v : ℕ) → v < nodes → net_by steps arcs amounts' v +ℤ at_node start v (pos amount)
      ≡ net_by steps arcs amounts v +ℤ at_node goal v (pos amount)
  pub tight : (i : ℕ) → i < arcs → amount_at amounts i < amount_at amounts' i →
      height numbers (along_at steps i).to
      ≡ height numbers (along_at steps i).from + (along_at steps i).up
  pub most : (i : ℕ) → i < arcs → amount_at amounts' i ≤ amount_at amounts i + amount

-- Amounts on slack arcs below n are dropped: they are in excess at the nodes where the arcs begin,
-- and lack where they end.
pub record AreDropped (nodes arcs n : ℕ) (steps : List ResidualArc)
    (numbers amounts over want : List ℕ) : Type 0 where
  pub even : AreEven nodes arcs amounts over want
  pub low : sum over ≤ n * 2 ^ 50
  pub rest : (i : ℕ) → n ≤ i → i < arcs → amount_at amounts i ≤ 2 ^ 50
  pub tight : (i : ℕ) → i < n → i < arcs → 0 < amount_at amounts i →
      height numbers (along_at steps i).to
      ≡ height numbers (along_at steps i).from + (along_at steps i).up

-- the arc has an amount, and the numbers more than meet it
pub record IsSlack (arcs : ℕ) (steps : List ResidualArc) (amounts numbers : List ℕ) (i : ℕ) :
    Type 0 where
  pub inside : i < arcs
  pub some : 0 < amount_at amounts i
  pub more : height numbers (along_at steps i).from + (along_at steps i).up
      < height numbers (along_at steps i).to

-- The amounts balance as before, the arc has less than before, only tight arcs have more, by 1 at
-- most.
pub record IsDetour (nodes arcs : ℕ) (steps : List ResidualArc) (numbers amounts amounts' : List ℕ)
    (i : ℕ) : Type 0 where
  pub one_for_each : length amounts' ≡ length amounts
  pub net : (v : ℕ) → v < nodes → net_by steps arcs amounts' v ≡ net_by steps arcs amounts v
  pub less : amount_at amounts' i < amount_at amounts i
  pub tight : (k : ℕ) → k < arcs → amount_at amounts k < amount_at amounts' k →
      height numbers (along_at steps k).to
      ≡ height numbers (along_at steps k).from + (along_at steps k).up
  pub most : (k : ℕ) → k < arcs → amount_at amounts' k ≤ amount_at amounts k + 1

-- one number for each node, at most the limit, which meets each arc
pub record AreFirst (nodes arcs limit : ℕ) (steps : List ResidualArc) (numbers : List ℕ) :
    Type 0 where
  pub one_for_each : length numbers ≡ nodes
  pub low : (v : ℕ) → v < nodes → height numbers v ≤ limit
  pub met : (k : ℕ) → k < arcs →
      height numbers (along_at steps k).from + (along_at steps k).up
      ≤ height numbers (along_at steps k).to

-- the flow balances, and its bound is higher, but not by much
pub record IsNear (nodes : ℕ) (arcs : List Arc) (amounts near : List ℕ) : Type 0 where
  pub flow : IsFlowOn arcs near
  pub balances : Balances nodes arcs near
  pub higher : (bound_of arcs amounts +ℤ pos 1) ≤ℤ bound_of arcs near
  pub most : bound_of arcs near ≤ℤ (bound_of arcs amounts +ℤ pos (2 ^ 60))
