-- The numbers of a certificate.
use Rattle.std.specs.Prelude.{ℕ, suc, ◌<◌, ◌≤◌, List, [], ◌∷◌, length, map, slice_index_or, All, ◌==◌, if◌then◌else◌}
use Rattle.std.specs.List.{range_with_len}
use Rattle.shape_graphs.specs.declared.graph.Arc.{Arc}
use Rattle.shape_graphs.specs.declared.graph.TheConstants.{MOST_AMOUNT}
use Rattle.cert_text.specs.declared.tree.CertNode.{CertNode}
use Rattle.cert_text.specs.declared.tree.CertNode.TheVariants.{Split, Bound, Cycle}
use Rattle.cert_text.specs.declared.tree.Load.{Load}
use Rattle.cert_text.specs.declared.tree.TheConstants.{MOST_NUMBER}
use Rattle.cert_text.specs.Trees.{IsWhole}

-- the load of a place in a list
abbrev pub load_at : List Load → ℕ → Load
load_at loads i = slice_index_or loads i (record { arc = 0; amount = 0 })

-- the amount on an arc: that of its load, and 0 where it has none
abbrev pub amount_on : List Load → ℕ → ℕ
amount_on [] arc = 0
amount_on (load ∷ loads) arc = if load.arc == arc then load.amount else amount_on loads arc

-- the amounts on all arcs of a graph
abbrev pub amounts_of : List Arc → List Load → List ℕ
amounts_of arcs loads = map (amount_on loads) (range_with_len 0 (length arcs))

-- the number of a segment or of an arc is not too large
abbrev pub IsSmall : ℕ → Type 0
IsSmall number = number ≤ MOST_NUMBER

-- a positive amount within the limits, on an arc
pub record IsLoad (load : Load) : Type 0 where
  pub arc : IsSmall load.arc
  pub some : 1 ≤ load.amount
  pub most : load.amount ≤ MOST_AMOUNT

-- the loads of one graph: their arcs rise strictly
pub record AreLoads (loads : List Load) : Type 0 where
  pub each : All IsLoad loads
  pub rising : (i : ℕ) → suc i < length loads → (load_at loads i).arc < (load_at loads (suc i)).arc

-- the numbers of an entry are within the limits
abbrev pub IsInRange : CertNode → Type 0
IsInRange (Split s t) = IsSmall s × IsSmall t
IsInRange (Bound x y) = AreLoads x × AreLoads y
IsInRange (Cycle axis arcs) = All IsSmall arcs

-- a cycle has an arc
abbrev pub HasArc : CertNode → Type 0
HasArc (Split s t) = Unit {0}
HasArc (Bound x y) = Unit {0}
HasArc (Cycle axis arcs) = 0 < length arcs

-- what a certificate's text can hold: a whole tree with numbers within the limits, and no cycle
-- without an arc
pub record IsCertTree (nodes : List CertNode) : Type 0 where
  pub whole : IsWhole nodes
  pub in_range : All IsInRange nodes
  pub arcs : All HasArc nodes
