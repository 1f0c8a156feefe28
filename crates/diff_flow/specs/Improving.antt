-- What the improvement of a flow answers.
use Rattle.std.specs.Prelude.{◌≡◌, ℕ, ℤ, pos, ◌+ℤ◌, ◌≤ℤ◌, List}
use Rattle.shape_graphs.specs.declared.graph.Arc.{Arc}
use Rattle.shape_graphs.specs.Flows.{Balances, bound_of, IsBestFlow}
use Rattle.diff_flow.specs.declared.improving.Improved.{Improved}
use Rattle.diff_flow.specs.declared.improving.Improved.TheVariants.{Raised, Best}
use Rattle.diff_flow.specs.Amounts.{IsFlowOn}
use Rattle.diff_flow.specs.Tight.{AreTight}

-- the new flow balances, and its bound is higher by so much, at least 1
pub record IsRaised (nodes : ℕ) (arcs : List Arc) (amounts amounts' : List ℕ)
    (by : ℤ) : Type 0 where
  pub some : pos 1 ≤ℤ by
  pub flow : IsFlowOn arcs amounts'
  pub balances : Balances nodes arcs amounts'
  pub rise : bound_of arcs amounts' ≡ bound_of arcs amounts +ℤ by

-- the flow stays as it is, is best, and has tight numbers that prove it
pub record IsShownBest (nodes : ℕ) (arcs : List Arc) (amounts amounts' : List ℕ) : Type 0 where
  pub same : amounts' ≡ amounts
  pub best : IsBestFlow nodes arcs amounts
  pub tight : (numbers : ℕ → ℤ) × AreTight nodes arcs amounts numbers

-- the flow balances, and has tight numbers that prove it best
pub record IsBestByNumbers (nodes : ℕ) (arcs : List Arc) (amounts : List ℕ) : Type 0 where
  pub flow : IsFlowOn arcs amounts
  pub balances : Balances nodes arcs amounts
  pub tight : (numbers : ℕ → ℤ) × AreTight nodes arcs amounts numbers

-- what became of a flow: its bound was raised, or it is best
abbrev pub IsImproved : ℕ → List Arc → List ℕ → List ℕ → Improved → Type 0
IsImproved nodes arcs amounts amounts' (Raised by) = IsRaised nodes arcs amounts amounts' by
IsImproved nodes arcs amounts amounts' Best = IsShownBest nodes arcs amounts amounts'
