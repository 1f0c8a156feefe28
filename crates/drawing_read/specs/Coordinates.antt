-- Where the coordinates of a drawing stand, by cases on their paths: a second form of its spots.
use Rattle.std.specs.Prelude.{◌≡◌, ℕ, ◌<◌, ◌⊎◌, List, [], ◌∷◌, ◌++◌, length, take, slice_get}
use Rattle.std.specs.Prelude.{slice_index_or, Some, option_and_then, codes, All}
use Rattle.std.specs.List.{filter}
use Rattle.gml_text.specs.declared.tree.Pair.{Pair}
use Rattle.compact_types.specs.declared.places.Axis.{Axis}
use Rattle.compact_types.specs.declared.places.Axis.TheVariants.{X, Y}
use Rattle.drawing_read.specs.declared.reading.Spot.{Spot}
use Rattle.drawing_read.specs.declared.spans.EdgeSpan.{EdgeSpan}
use Rattle.drawing_read.specs.Lookups.{has_key, list_under, lists_under, place_under, IsListAt}
use Rattle.drawing_read.specs.Spans.{point_vertex, no_span}

-- the list at this place under this key, and how many such lists stand before it
pub record IsListNumber (key : List ℕ) (pairs : List Pair) (at number : ℕ) (list : List Pair) :
    Type 0 where
  pub there : option_and_then (list_under key) (slice_get pairs at) ≡ Some list
  pub before : length (lists_under key (take at pairs)) ≡ number

-- the point at this place of a line, and how many points stand before it, lists or not
pub record IsPointNumber (line : List Pair) (at number : ℕ) (point : List Pair) : Type 0 where
  pub there : option_and_then (list_under (codes "point")) (slice_get line at) ≡ Some point
  pub before : length (filter (has_key (codes "point")) (take at line)) ≡ number

-- the x and the y of a list stand at these places
pub record HasBoth (pairs : List Pair) (x y : ℕ) : Type 0 where
  pub x_there : place_under (codes "x") pairs ≡ Some x
  pub y_there : place_under (codes "y") pairs ≡ Some y

-- of the places of an x and a y the one along an axis
abbrev pub of_axis : Axis → ℕ → ℕ → ℕ
of_axis X x y = x
of_axis Y x y = y

-- a coordinate of a graph that this path leads to: the x or the y of a node, or of a point of an
-- edge
pub data IsCoordinate (path : List ℕ) (spans : List EdgeSpan) (graph : List Pair) : Spot →
    Type 0 where
  of_node : (i n j x y : ℕ) (node graphics : List Pair) (axis : Axis) →
      IsListNumber (codes "node") graph i n node → IsListAt (codes "graphics") node j graphics →
      HasBoth graphics x y →
      IsCoordinate path spans graph
      (record { path = path ++ i ∷ j ∷ of_axis axis x y ∷ []; vertex = n; axis = axis })
  of_point : (i e j l q p x y : ℕ) (edge graphics line point : List Pair) (axis : Axis) →
      IsListNumber (codes "edge") graph i e edge → IsListAt (codes "graphics") edge j graphics →
      IsListAt (codes "Line") graphics l line → IsPointNumber line q p point →
      HasBoth point x y →
      IsCoordinate path spans graph
      (record {
        path = path ++ i ∷ j ∷ l ∷ q ∷ of_axis axis x y ∷ [];
        vertex = point_vertex (slice_index_or spans e no_span) p;
        axis = axis;
      })

-- the first path comes before the second: at their first difference it has the lesser place
abbrev pub IsPathBefore : List ℕ → List ℕ → Type 0
IsPathBefore [] second = ⊥
IsPathBefore (a ∷ first) [] = ⊥
IsPathBefore (a ∷ first) (b ∷ second) = (a < b) ⊎ ((a ≡ b) × IsPathBefore first second)

-- the path of each spot comes before those of all later ones
abbrev pub AreInDocumentOrder : List Spot → Type 0
AreInDocumentOrder [] = Unit {0}
AreInDocumentOrder (spot ∷ spots) =
    All (λ later. IsPathBefore spot.path later.path) spots × AreInDocumentOrder spots
