-- The first fault of a certificate for a drawing.
use Rattle.std.specs.Prelude.{◌≡◌, ◌⊎◌, ℕ, zero, suc, ◌-◌, ◌<◌, ◌<ℤ◌, List, [], ◌∷◌, ◌++◌, length, slice_index, None, Some}
use Rattle.compact_types.specs.declared.places.Axis.{Axis}
use Rattle.compact_types.specs.declared.places.Axis.TheVariants.{X, Y}
use Rattle.compact_types.specs.declared.places.Places.{Places}
use Rattle.compact_types.specs.declared.plan.Shape.{Shape}
use Rattle.compact_types.specs.declared.search.Choice.{Choice}
use Rattle.compact_types.specs.declared.search.Flows.{Flows}
use Rattle.compact_types.specs.Drawings.{IsFromZero}
use Rattle.compact_types.specs.Bests.{worth_of}
use Rattle.compact_types.specs.Bests.Objective.{total_length}
use Rattle.compact_types.specs.Lookups.{place}
use Rattle.compact_types.specs.Orders.{IsListBefore, numbers_of}
use Rattle.bars.specs.Segments.{IsPair, node_count}
use Rattle.shape_graphs.specs.declared.graph.Arc.{Arc}
use Rattle.shape_graphs.specs.Backings.{AreBalanced, IsBalanced, bound_by, flow_of}
use Rattle.shape_graphs.specs.Graphs.{arcs_of}
use Rattle.shape_graphs.specs.Paths.{step_arc}
use Rattle.diff_flow.specs.Amounts.{IsFirstUnbalanced}
use Rattle.potentials.specs.TightPlaces.{AreLeastTightPlaces}
use Rattle.cert_text.specs.declared.tree.CertNode.{CertNode}
use Rattle.cert_text.specs.declared.tree.CertNode.TheVariants.{Split, Bound, Cycle}
use Rattle.cert_text.specs.declared.tree.Load.{Load}
use Rattle.cert_text.specs.Accepting.{AreOnArcs, IsGoodEntry, flows_of, opened_by}
use Rattle.cert_text.specs.Loads.{load_at}
use Rattle.cert_check.specs.declared.fault.CheckFault.{CheckFault}
use Rattle.cert_check.specs.declared.fault.CheckFault.TheVariants.{NotFromZero, BadPair, Unbalanced}
use Rattle.cert_check.specs.declared.fault.CheckFault.TheVariants.{WeakBound, NotACycle, NoArc}

-- the first load that is on no arc of the graph is on an arc of this number
pub record IsFirstOffArcs (arcs : List Arc) (loads : List Load) (arc : ℕ) : Type 0 where
  pub place : ℕ
  pub inside : place < length loads
  pub is : (load_at loads place).arc ≡ arc
  pub missing : arc < length arcs → ⊥
  pub first : (before : ℕ) → before < place → (load_at loads before).arc < length arcs

-- both flows have their loads on arcs of the graphs
pub record AreBothOnArcs (shape : Shape) (choices : List Choice) (x y : List Load) : Type 0 where
  pub x_arcs : AreOnArcs (arcs_of X shape choices) x
  pub y_arcs : AreOnArcs (arcs_of Y shape choices) y

-- at the node the flow on the graph of the axis does not balance, and it is the least such node
abbrev pub IsUnbalancedAt : Axis → Shape → List Choice → Flows → ℕ → Type 0
IsUnbalancedAt axis shape choices flows node =
    IsFirstUnbalanced (node_count axis shape) (arcs_of axis shape choices)
    (flow_of axis flows).amounts node

-- at this vertex, and at none before it, the two places differ
pub record IsFirstDifference (places others : Places) (vertex : ℕ) : Type 0 where
  pub inside : vertex < length places.xy
  pub differs : place places.xy vertex ≡ place others.xy vertex → ⊥
  pub same_before : (before : ℕ) → before < vertex → place places.xy before ≡ place others.xy before

-- the least places that are tight for both flows come before these, and first differ at the vertex
pub record IsEarlierAt
    (shape : Shape) (choices : List Choice) (flows : Flows) (places : Places) (vertex : ℕ) :
    Type 0 where
  pub least : Places
  pub tight : AreLeastTightPlaces shape choices flows least
  pub before : IsListBefore (numbers_of least.xy) (numbers_of places.xy)
  pub differ : IsFirstDifference least places vertex

-- The first fault of a bound, of entry `entry`: a load on an arc that is not there, a flow that does
-- not balance, or a bound that is too weak; the column graph is looked at before the row graph.
pub data IsBoundFault (shape : Shape) (choices : List Choice) (places : Places) (entry : ℕ)
    (x y : List Load) : CheckFault → Type 0 where
  no_x_arc : (arc : ℕ) → IsFirstOffArcs (arcs_of X shape choices) x arc →
      IsBoundFault shape choices places entry x y (NoArc entry X arc)
  no_y_arc : (arc : ℕ) → AreOnArcs (arcs_of X shape choices) x →
      IsFirstOffArcs (arcs_of Y shape choices) y arc →
      IsBoundFault shape choices places entry x y (NoArc entry Y arc)
  x_unbalanced : (node : ℕ) → AreBothOnArcs shape choices x y →
      IsUnbalancedAt X shape choices (flows_of shape choices x y) node →
      IsBoundFault shape choices places entry x y (Unbalanced entry X node)
  y_unbalanced : (node : ℕ) → AreBothOnArcs shape choices x y →
      IsBalanced X shape choices (flows_of shape choices x y).x →
      IsUnbalancedAt Y shape choices (flows_of shape choices x y) node →
      IsBoundFault shape choices places entry x y (Unbalanced entry Y node)
  too_low : AreBothOnArcs shape choices x y →
      AreBalanced shape choices (flows_of shape choices x y) →
      bound_by shape choices (flows_of shape choices x y) <ℤ worth_of total_length shape places →
      IsBoundFault shape choices places entry x y
      (WeakBound entry (bound_by shape choices (flows_of shape choices x y)) None)
  too_late : (vertex : ℕ) → AreBothOnArcs shape choices x y →
      AreBalanced shape choices (flows_of shape choices x y) →
      bound_by shape choices (flows_of shape choices x y) ≡ worth_of total_length shape places →
      IsEarlierAt shape choices (flows_of shape choices x y) places vertex →
      IsBoundFault shape choices places entry x y
      (WeakBound entry (bound_by shape choices (flows_of shape choices x y)) (Some vertex))

-- the place before this one in a closed list of so many
abbrev pub place_before : ℕ → ℕ → ℕ
place_before count zero = count - 1
place_before count (suc place) = place

-- The walk is broken at the place: its arc is not there, or begins elsewhere than where the arc
-- before it ends, and that one is there.
pub record IsBrokenAt (arcs : List Arc) (walk : List ℕ) (place : ℕ) : Type 0 where
  pub inside : place < length walk
  pub broken : (slice_index walk place < length arcs → ⊥)
      ⊎ ((slice_index walk (place_before (length walk) place) < length arcs)
      × ((step_arc arcs walk (place_before (length walk) place)).to
      ≡ (step_arc arcs walk place).from → ⊥))

-- the first place at which the list of arcs is no cycle; of an empty list it is place 0
abbrev pub IsFirstBreak : List Arc → List ℕ → ℕ → Type 0
IsFirstBreak arcs [] place = place ≡ 0
IsFirstBreak arcs (arc ∷ walk) place =
    IsBrokenAt arcs (arc ∷ walk) place
    × ((before : ℕ) → before < place → IsBrokenAt arcs (arc ∷ walk) before → ⊥)

-- the fault of entry `entry`, for the choices at hand
abbrev pub IsEntryFault : Shape → List Choice → Places → ℕ → CertNode → CheckFault → Type 0
IsEntryFault shape choices places entry (Split s t) fault =
    (IsPair shape s t → ⊥) × (fault ≡ BadPair entry)
IsEntryFault shape choices places entry (Bound x y) fault =
    IsBoundFault shape choices places entry x y fault
IsEntryFault shape choices places entry (Cycle axis arcs) fault =
    (place : ℕ) × IsFirstBreak (arcs_of axis shape choices) arcs place
    × (fault ≡ NotACycle entry place)

-- The first fault of the entries from entry `entry` on, where branches with these choices are to
-- come, the next one first.
abbrev pub IsFirstIn :
    Shape → Places → ℕ → List (List Choice) → List CertNode → CheckFault → Type 0
IsFirstIn shape places entry branches [] fault = ⊥
IsFirstIn shape places entry [] (node ∷ nodes) fault = ⊥
IsFirstIn shape places entry (choices ∷ branches) (node ∷ nodes) fault =
    IsEntryFault shape choices places entry node fault
    ⊎ (IsGoodEntry shape choices places node
    × IsFirstIn shape places (suc entry) (opened_by node choices ++ branches) nodes fault)

-- The first fault of a whole certificate: that the places are not from zero, and else the first
-- fault of its entries, which are counted from 0.
abbrev pub FirstCheckFault : Shape → Places → List CertNode → CheckFault → Type 0
FirstCheckFault shape places nodes fault =
    ((IsFromZero places → ⊥) × (fault ≡ NotFromZero))
    ⊎ (IsFromZero places × IsFirstIn shape places 0 ([] ∷ []) nodes fault)
