-- Graphs whose vertices stand at other places: their plan and their edges by vertices stay, where no piece has no length.
use Rattle.std.proofs.Common.{◌≡◌, ℕ, zero, suc, ◌+◌, ◌-◌, ◌<◌, ◌≤◌, arith, Bool, true, false, cond, List, [], ◌∷◌, ◌++◌, length, map, take, drop, Option, None, Some, Ok, refl, sym, ap, ◌∙◌, nat_lt, append-nil, add-zero, zero-add, length-append, length-take, add-one}
use Rattle.std.specs.Prelude.{is_none, slice_get}
use Rattle.std.specs.List.{range_with_len}
use Rattle.std.specs.Option.{option_map}
use Rattle.std.specs.Ordering.{int_eq}
use Rattle.std.proofs.lemmas.Bool.{and_parts}
use Rattle.std.proofs.lemmas.Bool.Decides.{nat_tests, Decides-int_eq}
use Rattle.std.proofs.lemmas.List.{map-append}
use Rattle.std.proofs.Math.Seq.{take-append_seam}
use Rattle.compact_types.specs.declared.places.Point.{Point}
use Rattle.compact_types.specs.declared.plan.Piece.{Piece}
use Rattle.compact_types.specs.Lookups.{place}
use Rattle.drawing_read.specs.declared.numerals.Numbers.{Numbers}
use Rattle.drawing_read.specs.declared.written.Node.{Node}
use Rattle.drawing_read.specs.declared.written.Edge.{Edge}
use Rattle.drawing_read.specs.declared.spans.EdgeSpan.{EdgeSpan}
use Rattle.drawing_read.specs.Routes.{Route, point_of, node_points}
use Rattle.compact_types.proofs.Laws.{range_push, same_point as same_coordinates}
use Rattle.drawing_read.specs.Spans.{same_point, begins_at, ends_at, after_first_at, before_last_at, bends_of, chain}
use Rattle.drawing_read.specs.Spans.{point_vertex}

-- each of the nodes has a place
abbrev pub HavePlaces : List Node → Type 0
HavePlaces [] = Unit {0}
HavePlaces (node ∷ nodes) = (is_none node.place ≡ false) × HavePlaces nodes

-- each of the points has both numbers
abbrev pub HavePoints : List (Option Numbers) → Type 0
HavePoints [] = Unit {0}
HavePoints (point ∷ points) = (is_none point ≡ false) × HavePoints points

abbrev pub EdgesHavePoints : List Edge → Type 0
EdgesHavePoints [] = Unit {0}
EdgesHavePoints (edge ∷ edges) = HavePoints edge.points × EdgesHavePoints edges

-- one where it is so
abbrev pub count : Bool → ℕ
count true = 1
count false = 0

-- the one, where it is so
abbrev pub only_if : Bool → ℕ → List ℕ
only_if true v = v ∷ []
only_if false v = []

bend_vertex : (span : EdgeSpan) (p k : ℕ) → p ≡ span.at_source + k → k < span.bends → point_vertex span p ≡ span.first + k
bend_vertex span p k at within =
    let before : nat_lt p span.at_source ≡ false = grind (arith, nat_tests) in
    let distance : p - span.at_source ≡ k = omega arith in
    let bend : nat_lt k span.bends ≡ true = grind (arith, nat_tests) in
    rw (before, distance, bend) refl

target_vertex : (span : EdgeSpan) (p k : ℕ) → p ≡ span.at_source + k → span.bends ≤ k → point_vertex span p ≡ span.target
target_vertex span p k at beyond =
    let before : nat_lt p span.at_source ≡ false = grind (arith, nat_tests) in
    let distance : p - span.at_source ≡ k = omega arith in
    let bend : nat_lt k span.bends ≡ false = grind (arith, nat_tests) in
    rw (before, distance, bend) refl

-- the vertices of the points of an edge from point p on
abbrev pub vertices_from : {A : Type 0} → EdgeSpan → ℕ → List A → List ℕ
vertices_from span p [] = []
vertices_from span p (q ∷ points) = point_vertex span p ∷ vertices_from span (p + 1) points

-- behind a point that stands for the source come the bends, and then the target where a point stands for it
rest_vertices : {A : Type 0} (span : EdgeSpan) (p k n : ℕ) (t : Bool) (points : List A) →
    p ≡ span.at_source + k → span.bends ≡ k + n → length points ≡ n + count t →
    vertices_from span p points ≡ range_with_len (span.first + k) n ++ only_if t span.target
rest_vertices span p k zero false [] at bends long = refl
rest_vertices span p k zero false (q ∷ points) at bends long = absurd (omega arith)
rest_vertices span p k zero true [] at bends long = absurd (omega arith)
rest_vertices span p k zero true (q ∷ []) at bends long = ap (λ (v : ℕ). v ∷ []) (target_vertex span p k at (omega arith))
rest_vertices span p k zero true (q ∷ r ∷ points) at bends long = absurd (omega arith)
rest_vertices span p k (suc n) t [] at bends long = absurd (omega arith)
rest_vertices span p k (suc n) t (q ∷ points) at bends long =
    let here : point_vertex span p ≡ span.first + k = bend_vertex span p k at (omega arith) in
    let rest = rest_vertices span (p + 1) (k + 1) n t points (omega arith) (omega arith) (omega arith) in
    let next : span.first + (k + 1) ≡ (span.first + k) + 1 = omega arith in
    rw (here, rest, next) refl

-- the vertices of all points of an edge
pub all_vertices : {A : Type 0} (span : EdgeSpan) (s t : Bool) (points : List A) →
    span.at_source ≡ count s → length points ≡ count s + (span.bends + count t) →
    vertices_from span 0 points ≡ only_if s span.source ++ (range_with_len span.first span.bends ++ only_if t span.target)
all_vertices span false t points at long =
    rest_vertices span 0 0 span.bends t points (omega arith) (omega arith) (omega arith)
    ∙ ap (λ (n : ℕ). range_with_len n span.bends ++ only_if t span.target) (add-zero span.first)
all_vertices span true t [] at long = absurd (omega arith)
all_vertices span true t (q ∷ points) at long =
    let first : nat_lt 0 span.at_source ≡ true = rw at refl in
    let rest = rest_vertices span 1 0 span.bends t points (omega arith) (omega arith) (omega arith) in
    rw (first, rest, add-zero span.first) refl

same_point_self : (p : Point) → same_point p p ≡ true
same_point_self p = rw ((Decides-int_eq p.x p.x).1 refl, (Decides-int_eq p.y p.y).1 refl) refl

pub same_point_false : (p q : Point) → (p ≡ q → ⊥) → same_point p q ≡ false
same_point_false p q apart = by_test (same_point p q) refl
  where
    by_test : (b : Bool) → same_point p q ≡ b → same_point p q ≡ false
    by_test false is = is
    by_test true is =
        let parts = and_parts (int_eq p.x q.x) (int_eq p.y q.y) is in
        absurd (apart (same_coordinates p q ((Decides-int_eq p.x q.x).0 parts.0) ((Decides-int_eq p.y q.y).0 parts.1)))

slice_get_last : {A : Type 0} (xs : List A) (y : A) → slice_get (xs ++ y ∷ []) (length xs) ≡ Some y
slice_get_last [] y = refl
slice_get_last (x ∷ xs) y = slice_get_last xs y

length_push_pred : {A : Type 0} (xs : List A) (y : A) → length (xs ++ y ∷ []) - 1 ≡ length xs
length_push_pred xs y = let e : length (xs ++ y ∷ []) ≡ length xs + 1 = length-append xs (y ∷ []) in omega arith

-- a last point that stands for the target is left out
ends_at_last : (here : Point) (points : List Point) (last : Point) → same_point last here ≡ true → ends_at here (points ++ last ∷ []) ≡ true
ends_at_last here points last is = rw (length_push_pred points last, slice_get_last points last, is) refl

left_out : (here : Point) (points : List Point) (last : Point) → same_point last here ≡ true → before_last_at here (points ++ last ∷ []) ≡ points
left_out here points last is = rw (ends_at_last here points last is, length_push_pred points last, take-append_seam points (last ∷ [])) refl

kept : (here : Point) (points : List Point) → ends_at here points ≡ false → before_last_at here points ≡ points
kept here points is = rw is refl

ends_elsewhere : (here : Point) (points : List Point) (last : Point) → same_point last here ≡ false → ends_at here (points ++ last ∷ []) ≡ false
ends_elsewhere here points last is = rw (length_push_pred points last, slice_get_last points last, is) refl

module _ (where_is : ℕ → Point) where
  -- no piece has no length
  abbrev pub Apart : List Piece → Type 0
  Apart [] = Unit {0}
  Apart (piece ∷ pieces) = (where_is piece.from ≡ where_is piece.to → ⊥) × Apart pieces

  pub apart_parts : (xs ys : List Piece) → Apart (xs ++ ys) → Apart xs × Apart ys
  apart_parts [] ys apart = (tt, apart)
  apart_parts (piece ∷ xs) ys apart = let rest = apart_parts xs ys apart.1 in ((apart.0, rest.0), rest.1)

  last_apart : (from first n to : ℕ) → Apart (chain from (range_with_len first (suc n)) to) → where_is (first + n) ≡ where_is to → ⊥
  last_apart from first zero to apart is = apart.1.0 (ap where_is (sym (add-zero first)) ∙ is)
  last_apart from first (suc n) to apart is =
      let e : first + suc n ≡ (first + 1) + n = omega arith in
      last_apart first (first + 1) n to apart.1 (ap where_is (sym e) ∙ is)

  begins : (s t : Bool) (source first n target : ℕ) → Apart (chain source (range_with_len first n) target) →
      begins_at (where_is source) (map where_is (only_if s source ++ (range_with_len first n ++ only_if t target))) ≡ s
  begins true t source first n target apart = same_point_self (where_is source)
  begins false t source first (suc n) target apart = same_point_false (where_is first) (where_is source) (λ e. apart.0 (sym e))
  begins false true source first zero target apart = same_point_false (where_is target) (where_is source) (λ e. apart.0 (sym e))
  begins false false source first zero target apart = refl

  after_first : (s : Bool) (source : ℕ) (rest : List ℕ) → begins_at (where_is source) (map where_is (only_if s source ++ rest)) ≡ s →
      after_first_at (where_is source) (map where_is (only_if s source ++ rest)) ≡ map where_is rest
  after_first true source rest is = rw is refl
  after_first false source rest is = rw is refl

  before_no_last : (target : ℕ) (xs : List ℕ) → ends_at (where_is target) (map where_is xs) ≡ false →
      before_last_at (where_is target) (map where_is (xs ++ [])) ≡ map where_is xs
  before_no_last target xs is = rw (append-nil xs) (kept (where_is target) (map where_is xs) is)

  not_at_end : (target v : ℕ) (xs ys : List ℕ) → xs ≡ ys ++ v ∷ [] → (where_is v ≡ where_is target → ⊥) →
      ends_at (where_is target) (map where_is xs) ≡ false
  not_at_end target v xs ys is apart =
      rw (is, map-append where_is ys (v ∷ [])) (ends_elsewhere (where_is target) (map where_is ys) (where_is v) (same_point_false (where_is v) (where_is target) apart))

  before_last : (t : Bool) (source first n target : ℕ) → Apart (chain source (range_with_len first n) target) →
      before_last_at (where_is target) (map where_is (range_with_len first n ++ only_if t target)) ≡ map where_is (range_with_len first n)
  before_last true source first n target apart =
      rw (map-append where_is (range_with_len first n) (target ∷ []))
      (left_out (where_is target) (map where_is (range_with_len first n)) (where_is target) (same_point_self (where_is target)))
  before_last false source first zero target apart = refl
  before_last false source first (suc n) target apart =
      before_no_last target (range_with_len first (suc n))
      (not_at_end target (first + n) (range_with_len first (suc n)) (range_with_len first n) (range_push first n) (last_apart source first n target apart))

  -- the vertices of an edge's points stand apart as its pieces do: so its new points have the same bends
  module _ (nodes : List Point) (route : Route)
      (source : place nodes route.source ≡ where_is route.source) (target : place nodes route.target ≡ where_is route.target) where
    pub new_start : (s t : Bool) (first n : ℕ) → Apart (chain route.source (range_with_len first n) route.target) →
        route.points ≡ map where_is (only_if s route.source ++ (range_with_len first n ++ only_if t route.target)) →
        begins_at (place nodes route.source) route.points ≡ s
    new_start s t first n apart points = rw (source, points) (begins s t route.source first n route.target apart)

    pub new_bends : (s t : Bool) (first n : ℕ) → Apart (chain route.source (range_with_len first n) route.target) →
        route.points ≡ map where_is (only_if s route.source ++ (range_with_len first n ++ only_if t route.target)) →
        bends_of nodes route ≡ map where_is (range_with_len first n)
    new_bends s t first n apart points =
        rw (source, target, points)
        (ap (before_last_at (where_is route.target))
        (after_first s route.source (range_with_len first n ++ only_if t route.target) (begins s t route.source first n route.target apart))
        ∙ before_last t route.source first n route.target apart)

  abbrev pub moved_numbers : ℕ → Numbers → Numbers
  moved_numbers v numbers = record {
    x = record { at = numbers.x.at; value = Ok (where_is v).x };
    y = record { at = numbers.y.at; value = Ok (where_is v).y };
  }

  abbrev pub moved_node : ℕ → Node → Node
  moved_node v node = record { id = node.id; place = option_map (moved_numbers v) node.place }

  -- the nodes, numbered from n on, at their new places
  abbrev pub moved_nodes : ℕ → List Node → List Node
  moved_nodes n [] = []
  moved_nodes n (node ∷ nodes) = moved_node n node ∷ moved_nodes (n + 1) nodes

  abbrev pub moved_points : EdgeSpan → ℕ → List (Option Numbers) → List (Option Numbers)
  moved_points span p [] = []
  moved_points span p (point ∷ points) = option_map (moved_numbers (point_vertex span p)) point ∷ moved_points span (p + 1) points

  abbrev pub moved_edge : EdgeSpan → Edge → Edge
  moved_edge span edge = record { source = edge.source; target = edge.target; points = moved_points span 0 edge.points }

  -- the edges, numbered from e on, with their points at their vertices' new places
  abbrev pub moved_edges : (ℕ → EdgeSpan) → ℕ → List Edge → List Edge
  moved_edges span_at e [] = []
  moved_edges span_at e (edge ∷ edges) = moved_edge (span_at e) edge ∷ moved_edges span_at (e + 1) edges

  moved_place : (v : ℕ) (o : Option Numbers) → is_none o ≡ false → point_of (option_map (moved_numbers v) o) ≡ where_is v
  moved_place v None is = cc
  moved_place v (Some numbers) is = refl

  pub moved_node_points : (n : ℕ) (nodes : List Node) → HavePlaces nodes → node_points (moved_nodes n nodes) ≡ map where_is (range_with_len n (length nodes))
  moved_node_points n [] have = refl
  moved_node_points n (node ∷ nodes) have = rw (moved_place n node.place have.0, moved_node_points (n + 1) nodes have.1) refl

  pub moved_route_points : (span : EdgeSpan) (p : ℕ) (points : List (Option Numbers)) → HavePoints points →
      map point_of (moved_points span p points) ≡ map where_is (vertices_from span p points)
  moved_route_points span p [] have = refl
  moved_route_points span p (point ∷ points) have =
      rw (moved_place (point_vertex span p) point have.0, moved_route_points span (p + 1) points have.1) refl

begins_some : (here : Point) (points : List Point) → begins_at here points ≡ true → length (drop 1 points) + 1 ≡ length points
begins_some here [] is = cc
begins_some here (point ∷ points) is = add-one (length points)

ends_some : (here : Point) (points : List Point) → ends_at here points ≡ true → length (take (length points - 1) points) + 1 ≡ length points
ends_some here [] is = cc
ends_some here (point ∷ points) is = let e = length-take (length (point ∷ points) - 1) (point ∷ points) in omega arith

pub after_length : (here : Point) (points : List Point) → count (begins_at here points) + length (after_first_at here points) ≡ length points
after_length here points = by_test (begins_at here points) refl
  where
    by_test : (b : Bool) → begins_at here points ≡ b → count b + length (cond b (drop 1 points) points) ≡ length points
    by_test true is = let e = begins_some here points is in omega arith
    by_test false is = zero-add (length points)

pub before_length : (here : Point) (points : List Point) → length (before_last_at here points) + count (ends_at here points) ≡ length points
before_length here points = by_test (ends_at here points) refl
  where
    by_test : (b : Bool) → ends_at here points ≡ b → length (cond b (take (length points - 1) points) points) + count b ≡ length points
    by_test true is = ends_some here points is
    by_test false is = add-zero (length points)
