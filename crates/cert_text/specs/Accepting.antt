-- What a certificate has to show of a drawing. It speaks of the drawing and the entries alone.
use Rattle.std.specs.Prelude.{◌≡◌, ◌⊎◌, ◌<◌, ◌<ℤ◌, List, [], ◌∷◌, ◌++◌, length, All}
use Rattle.compact_types.specs.declared.places.Axis.TheVariants.{X, Y}
use Rattle.compact_types.specs.declared.places.Places.{Places}
use Rattle.compact_types.specs.declared.plan.Shape.{Shape}
use Rattle.compact_types.specs.declared.search.Choice.{Choice}
use Rattle.compact_types.specs.declared.search.Flows.{Flows}
use Rattle.compact_types.specs.Drawings.{IsDrawing, IsFromZero}
use Rattle.compact_types.specs.Bests.{worth_of}
use Rattle.compact_types.specs.Bests.Objective.{total_length}
use Rattle.compact_types.specs.Orders.{IsListBefore, numbers_of}
use Rattle.bars.specs.Segments.{IsPair}
use Rattle.shape_graphs.specs.declared.graph.Arc.{Arc}
use Rattle.shape_graphs.specs.Backings.{AreBalanced, bound_by}
use Rattle.shape_graphs.specs.Graphs.{arcs_of}
use Rattle.shape_graphs.specs.Paths.{IsCycle}
use Rattle.potentials.specs.TightPlaces.{AreLeastTightPlaces}
use Rattle.board.specs.Histories.{children_of}
use Rattle.cert_text.specs.declared.tree.CertNode.{CertNode}
use Rattle.cert_text.specs.declared.tree.CertNode.TheVariants.{Split, Bound, Cycle}
use Rattle.cert_text.specs.declared.tree.Load.{Load}
use Rattle.cert_text.specs.Loads.{amounts_of}

-- each load is on an arc of the graph
abbrev pub AreOnArcs : List Arc → List Load → Type 0
AreOnArcs arcs loads = All (λ load. load.arc < length arcs) loads

-- the flows on the two graphs of the choices that have these loads
abbrev pub flows_of : Shape → List Choice → List Load → List Load → Flows
flows_of shape choices x y = record {
  x = record { amounts = amounts_of (arcs_of X shape choices) x };
  y = record { amounts = amounts_of (arcs_of Y shape choices) y };
}

-- the least places that are tight for both flows do not come before these: there are none, or their
-- list of coordinates is not the lesser
abbrev pub NoneEarlier : Shape → List Choice → Flows → Places → Type 0
NoneEarlier shape choices flows places =
    (least : Places) → AreLeastTightPlaces shape choices flows least →
    IsListBefore (numbers_of least.xy) (numbers_of places.xy) → ⊥

-- The flows show that no drawing of the choices comes before the places. Their bound is above the
-- length; or it is the length, so that the drawings of this length are tight for both flows, and
-- the least places that are tight do not come before these.
abbrev pub DoBound : Shape → List Choice → Flows → Places → Type 0
DoBound shape choices flows places =
    (worth_of total_length shape places <ℤ bound_by shape choices flows)
    ⊎ ((bound_by shape choices flows ≡ worth_of total_length shape places)
    × NoneEarlier shape choices flows places)

-- the loads are on arcs of their graphs, and make flows that balance and bound
pub record IsGoodBound
    (shape : Shape) (choices : List Choice) (places : Places) (x y : List Load) : Type 0 where
  pub x_arcs : AreOnArcs (arcs_of X shape choices) x
  pub y_arcs : AreOnArcs (arcs_of Y shape choices) y
  pub balanced : AreBalanced shape choices (flows_of shape choices x y)
  pub bounds : DoBound shape choices (flows_of shape choices x y) places

-- The entry is good for the choices at hand: a split names two segments without a common vertex, of
-- which every drawing takes one of the four sides; a bound shows that no drawing of the choices
-- comes before the places; a cycle of a graph shows that the choices have no drawing.
abbrev pub IsGoodEntry : Shape → List Choice → Places → CertNode → Type 0
IsGoodEntry shape choices places (Split s t) = IsPair shape s t
IsGoodEntry shape choices places (Bound x y) = IsGoodBound shape choices places x y
IsGoodEntry shape choices places (Cycle axis arcs) = IsCycle (arcs_of axis shape choices) arcs

-- the choices of the branches that an entry opens: those at hand, and each of the four sides
abbrev pub opened_by : CertNode → List Choice → List (List Choice)
opened_by (Split s t) choices = children_of choices s t
opened_by (Bound x y) choices = []
opened_by (Cycle axis arcs) choices = []

-- Each entry is good for its choices, and the entries are used up exactly, where branches with
-- these choices are to come, the next one first.
abbrev pub AreGood : Shape → Places → List (List Choice) → List CertNode → Type 0
AreGood shape places [] [] = Unit {0}
AreGood shape places [] (node ∷ nodes) = ⊥
AreGood shape places (choices ∷ branches) [] = ⊥
AreGood shape places (choices ∷ branches) (node ∷ nodes) =
    IsGoodEntry shape choices places node
    × AreGood shape places (opened_by node choices ++ branches) nodes

-- The entries show that the places are the best drawing: the places are a drawing from zero, and
-- the entries are good, read in preorder from the branch without choices.
pub record Accepts (shape : Shape) (places : Places) (nodes : List CertNode) : Type 0 where
  pub drawing : IsDrawing shape places
  pub from_zero : IsFromZero places
  pub entries : AreGood shape places ([] ∷ []) nodes
