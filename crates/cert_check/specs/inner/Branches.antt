-- The branch at hand in a walk over a certificate, and the branches that are still to come.
use Rattle.std.specs.Prelude.{◌≡◌, ℕ, zero, suc, ◌<◌, ℤ, List, [], ◌∷◌, ◌++◌, length}
use Rattle.compact_types.specs.declared.limits.TheConstants.{MOST_CHOICES}
use Rattle.compact_types.specs.declared.places.Axis.{Axis}
use Rattle.compact_types.specs.declared.places.Places.{Places}
use Rattle.compact_types.specs.declared.plan.Shape.{Shape}
use Rattle.compact_types.specs.declared.search.Choice.{Choice}
use Rattle.compact_types.specs.Bests.{worth_of}
use Rattle.compact_types.specs.Bests.Objective.{total_length}
use Rattle.bars.specs.Solutions.{with_choice}
use Rattle.shape_graphs.specs.declared.graph.Arc.{Arc}
use Rattle.shape_graphs.specs.declared.growing.GrowingGraphs.{GrowingGraphs}
use Rattle.shape_graphs.specs.Growing.{AreGrown, graph_on}
use Rattle.cert_text.specs.declared.tree.CertNode.{CertNode}
use Rattle.cert_text.specs.declared.tree.CertNode.TheVariants.{Split, Bound, Cycle}
use Rattle.cert_text.specs.declared.tree.Load.{Load}
use Rattle.cert_check.specs.inner.Loading.{HaveLoads}

-- the drawing has a place for each vertex, and this is its length
pub record IsAnswer (shape : Shape) (places : Places) (worth : ℤ) : Type 0 where
  pub places_fit : length places.xy ≡ shape.plan.vertices
  pub length : worth ≡ worth_of total_length shape places

-- the arcs of the graph of the axis
abbrev pub arcs_on : Axis → GrowingGraphs → List Arc
arcs_on axis branch = (graph_on axis branch).graph.arcs

-- the graphs are those of the choices, with the amounts of these loads
pub record HasLoads (shape : Shape) (x y : List Load) (branch : GrowingGraphs) : Type 0 where
  pub grown : AreGrown shape branch
  pub columns : HaveLoads branch.columns.flow.amounts x
  pub rows : HaveLoads branch.rows.flow.amounts y

-- the graphs are those of the choices, and nothing is on their arcs
abbrev pub IsAt : Shape → GrowingGraphs → Type 0
IsAt shape branch = HasLoads shape [] [] branch

-- the sides of the same pair that come after this one, each as the last choice of a branch
abbrev pub later_sides : List Choice → ℕ → ℕ → ℕ → List (List Choice)
later_sides front s t zero =
    with_choice front s t 1 ∷ with_choice front s t 2 ∷ with_choice front s t 3 ∷ []
later_sides front s t (suc zero) = with_choice front s t 2 ∷ with_choice front s t 3 ∷ []
later_sides front s t (suc (suc zero)) = with_choice front s t 3 ∷ []
later_sides front s t (suc (suc (suc side))) = []

-- the choices of the branches that come after all that begin with these choices: the later sides of
-- the last pair, then those of the pair before it, and so on up to the choices in front
abbrev pub later_from : List Choice → List Choice → List (List Choice)
later_from front [] = []
later_from front (choice ∷ choices) =
    later_from (front ++ choice ∷ []) choices ++ later_sides front choice.s choice.t choice.side

-- the choices of the branches that come after the one at hand
abbrev pub later : List Choice → List (List Choice)
later choices = later_from [] choices

-- the branches that an entry opens do not have too many choices
abbrev pub HasRoomToSplit : CertNode → List Choice → Type 0
HasRoomToSplit (Split s t) choices = length choices < MOST_CHOICES
HasRoomToSplit (Bound x y) choices = Unit {0}
HasRoomToSplit (Cycle axis arcs) choices = Unit {0}

-- the branch at hand is the first of these
pub record IsNext (shape : Shape) (branches : List (List Choice)) (branch : GrowingGraphs) :
    Type 0 where
  pub at : IsAt shape branch
  pub first : branches ≡ branch.choices ∷ later branch.choices
