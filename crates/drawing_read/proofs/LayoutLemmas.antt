-- Points that are read from their numbers, and the room for the bends of an edge.
use Rattle.std.proofs.Common.{◌≡◌, ℕ, suc, ◌+◌, ◌-◌, ◌<◌, ℤ, List, ◌++◌, length, take, drop, drop-cons, map, get_or, Option, Some, sym, ap, ◌∙◌, arith, length-append}
use Rattle.std.specs.Prelude.{slice_get}
use Rattle.std.specs.List.{flat_map}
use Rattle.std.specs.Option.{option_map}
use Rattle.std.proofs.lemmas.List.{drop-map, take-map, length-map, get_or-map}
use Rattle.std.proofs.lemmas.Option.{slice_get-map, slice_get_within, get_or_from_slice_get}
use Rattle.compact_types.specs.declared.places.Point.{Point}
use Rattle.compact_types.specs.Lookups.{place, origin}
use Rattle.drawing_read.specs.declared.layout.Layout.{Layout}
use Rattle.drawing_read.specs.declared.numerals.Numbers.{Numbers}
use Rattle.drawing_read.specs.declared.written.Node.{Node}
use Rattle.drawing_read.specs.declared.written.Edge.{Edge}
use Rattle.drawing_read.specs.Routes.{point_of, node_points, route_of}
use Rattle.drawing_read.specs.Spans.{bends_of, vertex_points}
use Rattle.drawing_read.specs.inner.Layouts.{IsLaidButFor}

-- the points without the first, and without the last
pub without_first : (points : List (Option Numbers)) → map point_of (drop 1 points) ≡ drop 1 (map point_of points)
without_first points = sym (drop-map point_of 1 points)

pub without_last : (points : List (Option Numbers)) → map point_of (take (length points - 1) points) ≡ take (length (map point_of points) - 1) (map point_of points)
without_last points =
    sym (ap (λ n. take (n - 1) (map point_of points)) (length-map points point_of) ∙ take-map point_of (length points - 1) points)

-- the point at a place
pub point_there : (points : List (Option Numbers)) (p : ℕ) → slice_get (map point_of points) p ≡ option_map point_of (slice_get points p)
point_there points p = slice_get-map point_of points p

-- the place of a node
pub node_place : (nodes : List Node) (n : ℕ) (node : Node) → slice_get nodes n ≡ Some node → place (node_points nodes) n ≡ point_of node.place
node_place nodes n node is =
    get_or-map (λ (node : Node). point_of node.place) nodes n node origin (slice_get_within nodes n node is)
    ∙ ap (λ (node : Node). point_of node.place) (get_or_from_slice_get nodes n node node is)

-- the bends of the next edge can be counted, where all vertices can
module _ (look : ℤ → Option ℕ) (edges : List Edge) (i : ℕ) (edge : Edge) (within : i < length edges) (here : edge ≡ get_or edges i edge) where
  abbrev bends_from : List Point → ℕ → List Point
  bends_from nodes i = flat_map (bends_of nodes) (map (route_of look) (drop i edges))

  next_bends : (nodes : List Point) → bends_from nodes i ≡ bends_of nodes (route_of look edge) ++ bends_from nodes (suc i)
  next_bends nodes =
      ap (λ (edges : List Edge). flat_map (bends_of nodes) (map (route_of look) edges)) (drop-cons edges i edge within)
      ∙ ap (λ (e : Edge). bends_of nodes (route_of look e) ++ bends_from nodes (suc i)) (sym here)

  pub room_for_bends : (nodes : List Point) (layout : Layout) (most : ℕ) → IsLaidButFor nodes (map (route_of look) (drop i edges)) (map (route_of look) edges) layout →
      length (vertex_points nodes (map (route_of look) edges)) < most → length layout.points + length (bends_of nodes (route_of look edge)) < most
  room_for_bends nodes layout most laid few =
      omega (
        arith,
        few,
        ap length laid.points,
        length-append layout.points (bends_from nodes i),
        ap length (next_bends nodes),
        length-append (bends_of nodes (route_of look edge)) (bends_from nodes (suc i)),
      )
