-- How the layout of a graph grows, an edge at a time.
use Rattle.std.specs.Prelude.{◌≡◌, List, [], ◌∷◌, ◌++◌, length}
use Rattle.std.specs.List.{flat_map}
use Rattle.compact_types.specs.declared.places.Point.{Point}
use Rattle.drawing_read.specs.declared.layout.Layout.{Layout}
use Rattle.drawing_read.specs.Routes.{Route}
use Rattle.drawing_read.specs.Spans.{bends_of, edge_span, pieces_of, span_pieces}
use Rattle.drawing_read.specs.Spans.{spans_from, spans_of, vertex_points}

-- the new layout has one route more than the old one, whose bends are its last vertices
pub record AddsRoute (nodes : List Point) (route : Route) (old new : Layout) : Type 0 where
  pub points : new.points ≡ old.points ++ bends_of nodes route
  pub spans : new.spans ≡ old.spans ++ edge_span nodes (length old.points) route ∷ []
  pub pieces : new.pieces ≡ old.pieces ++ span_pieces (edge_span nodes (length old.points) route)

-- the layout is that of all routes but these last ones
pub record IsLaidButFor (nodes : List Point) (left all : List Route) (layout : Layout) :
    Type 0 where
  pub points : layout.points ++ flat_map (bends_of nodes) left ≡ vertex_points nodes all
  pub spans : layout.spans ++ spans_from nodes (length layout.points) left ≡ spans_of nodes all
  pub pieces : layout.pieces ≡ pieces_of layout.spans
