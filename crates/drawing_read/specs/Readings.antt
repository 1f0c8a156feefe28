-- What a drawing is that a tree holds: its plan, the places of its vertices, and its spots.
use Rattle.std.specs.Prelude.{◌≡◌, ℕ, ◌<◌, ◌≤◌, List, [], ◌∷◌, length}
use Rattle.std.specs.Prelude.{None, codes, unwrap_or, is_some}
use Rattle.std.specs.List.{position}
use Rattle.gml_text.specs.declared.tree.Tree.{Tree, out-Tree}
use Rattle.gml_text.specs.declared.tree.Pair.{Pair}
use Rattle.compact_types.specs.declared.limits.TheConstants.{MOST_VERTICES, GREATEST_THOUSANDTHS}
use Rattle.compact_types.specs.Magnitudes.{AreWithin}
use Rattle.drawing_read.specs.declared.limits.TheConstants.{MOST_PIECES_READ}
use Rattle.drawing_read.specs.declared.reading.Reading.{Reading}
use Rattle.drawing_read.specs.Lookups.{list_under}
use Rattle.drawing_read.specs.Written.{graph_of}
use Rattle.drawing_read.specs.Spans.{points_in, spans_in, pieces_in}
use Rattle.drawing_read.specs.Faults.{graphs_of, graph_fault}
use Rattle.drawing_read.specs.Spots.{graph_spots}

-- the place of the graph at the top
abbrev pub graph_place : Tree → ℕ
graph_place tree =
    unwrap_or (position (λ pair. is_some (list_under (codes "graph") pair)) (out-Tree tree).pairs) 0

-- the reading of a graph whose pair stands at this place
pub record IsGraphReading (at : ℕ) (pairs : List Pair) (reading : Reading) : Type 0 where
  pub faultless : graph_fault (graph_of pairs) ≡ None
  pub vertices : reading.plan.vertices ≡ length (points_in (graph_of pairs))
  pub pieces : reading.plan.pieces ≡ pieces_in (graph_of pairs)
  pub places : reading.places.xy ≡ points_in (graph_of pairs)
  pub spots : reading.spots ≡ graph_spots (at ∷ []) (spans_in (graph_of pairs)) 0 0 0 pairs

-- what holds of the list, where there is just one
abbrev pub IfOne : List (List Pair) → (List Pair → Type 0) → Type 0
IfOne [] P = ⊥
IfOne (pairs ∷ []) P = P pairs
IfOne (pairs ∷ other ∷ more) P = ⊥

-- the tree is a drawing, and this is its reading
abbrev pub IsReading : Tree → Reading → Type 0
IsReading tree reading =
    IfOne (graphs_of tree) (λ pairs. IsGraphReading (graph_place tree) pairs reading)

-- what holds of every reading: how many vertices and pieces it has, and how far out they may be
pub record IsWithinLimits (reading : Reading) : Type 0 where
  pub some_vertex : 0 < reading.plan.vertices
  pub few_vertices : reading.plan.vertices ≤ MOST_VERTICES
  pub few_pieces : length reading.plan.pieces ≤ MOST_PIECES_READ
  pub places_fit : length reading.places.xy ≡ reading.plan.vertices
  pub within_reach : AreWithin GREATEST_THOUSANDTHS reading.places
