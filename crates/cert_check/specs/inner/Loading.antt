-- The amounts of loads in a dense list.
use Rattle.std.specs.Prelude.{◌≡◌, ℕ, ◌<◌, List, length, All}
use Rattle.shape_graphs.specs.Flows.{amount_at}
use Rattle.cert_text.specs.declared.tree.Load.{Load}
use Rattle.cert_text.specs.Loads.{amount_on}

-- each amount is that of the loads on the arc of its number; without loads all are 0
abbrev pub HaveLoads : List ℕ → List Load → Type 0
HaveLoads amounts loads = (i : ℕ) → i < length amounts → amount_at amounts i ≡ amount_on loads i

-- each load is on an arc of these many
abbrev pub AreBelow : ℕ → List Load → Type 0
AreBelow count loads = All (λ load. load.arc < count) loads
