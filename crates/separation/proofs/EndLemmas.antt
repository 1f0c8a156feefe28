-- Extents of segments, and the coordinates of nodes.
use Rattle.std.proofs.Common.{◌≡◌, ℕ, ℤ, pos, ◌<◌, ◌≤◌, ◌<ℤ◌, ◌≤ℤ◌, true, false, int_le, List, length, set, ◌⊎◌, inl, inr, subst, sym, ap, refl, ◌∙◌, arith, ◌+◌, get_or-set_same, get_or-set_other}
use Rattle.std.proofs.Common.{Ordering, Less, Equal, Greater}
use Rattle.std.specs.Ordering.{MatchOrdering, is_lt, int_cmp}
use Rattle.std.specs.Cmp.{int_ranks}
use Rattle.std.specs.List.Sorted.{IsSortedByKey}
use Rattle.std.proofs.lemmas.Bool.{and_parts, and_from, cases_eq, cases_lt}
use Rattle.std.proofs.lemmas.Cmp.{int_cmp_total}
use Rattle.std.proofs.lemmas.List.MinMax.{ranks_by}
use Rattle.std.proofs.lemmas.List.Sorted.{sorted_far}
use Rattle.std.proofs.lemmas.Int.{ints}
use Rattle.compact_types.specs.declared.places.Axis.{Axis}
use Rattle.compact_types.specs.declared.places.Axis.TheVariants.{X, Y}
use Rattle.compact_types.specs.declared.places.Places.{Places}
use Rattle.compact_types.specs.declared.plan.Shape.{Shape}
use Rattle.compact_types.specs.declared.search.Choice.{Choice}
use Rattle.compact_types.specs.Drawings.{HasWays}
use Rattle.compact_types.specs.Lookups.{along, place, other_axis}
use Rattle.bars.specs.Segments.{segment_count, node_of, node_count, low_node, high_node}
use Rattle.bars.specs.Lines.{line_count}
use Rattle.bars.specs.Solutions.{HasDrawing, Fit, Solves}
use Rattle.bars.proofs.Laws.{low_below, high_below, line_below, level_node, few_lines, few_segments}
use Rattle.separation.specs.declared.extents.SegmentExtent.{SegmentExtent}
use Rattle.shape_graphs.specs.Flows.{number_at, IsSolution}
use Rattle.shape_graphs.specs.Graphs.{arcs_of}
use Rattle.shape_graphs.proofs.Laws.{comes_from, meets_arcs, solid_from}
use Rattle.separation.specs.inner.Extents.{nowhere, extent_at, IsAtNode, AreAtNodes, IsExtent, BeginInOrder, ArePut, HasRoom, meet_in_x, meet_in_y, overlap, turned_along, AreTurned, AreExtents, IsExtentAlong, AreExtentsAlong}

-- the nodes of a segment and of a vertex are within the room for all nodes
pub low_inside : (axis : Axis) (shape : Shape) (s n : ℕ) → s < segment_count shape → node_count axis shape ≤ n → low_node axis shape s < n
low_inside axis shape s n within room = let below = low_below axis shape s within in omega (arith, below, room)

pub high_inside : (axis : Axis) (shape : Shape) (s n : ℕ) → s < segment_count shape → node_count axis shape ≤ n → high_node axis shape s < n
high_inside axis shape s n within room = let below = high_below axis shape s within in omega (arith, below, room)

pub node_inside : (axis : Axis) (shape : Shape) (v n : ℕ) → v < shape.plan.vertices → node_count axis shape ≤ n → node_of axis shape v < n
node_inside axis shape v n within room = let below = line_below (other_axis axis) shape v within in omega (arith, below, room)

-- one of two numbers that is not less than the other
from_ranks : (r : Ordering) (x y : ℤ) → MatchOrdering r (x <ℤ y) (x ≡ y) (y <ℤ x) → is_lt r ≡ false → y ≤ℤ x
from_ranks Less x y less not_less = absurd (let e : true ≡ false = not_less in cc)
from_ranks Equal x y same not_less = omega (arith, ints, same)
from_ranks Greater x y more not_less = omega (arith, ints, more)

-- extents sorted by where they begin
pub order_from_sort : (extents : List SegmentExtent) → IsSortedByKey (λ (extent : SegmentExtent). extent.left) int_cmp extents → BeginInOrder extents
order_from_sort extents sorted a b before within =
    from_ranks (int_cmp (extent_at extents b).left (extent_at extents a).left) _ _ (int_ranks (extent_at extents b).left (extent_at extents a).left)
    (sorted_far (λ (x y : SegmentExtent). is_lt (int_cmp x.left y.left)) (ranks_by int_cmp_total (λ (extent : SegmentExtent). extent.left)) extents sorted a b nowhere (omega arith) within)

-- neither extent ends before the other begins, along both axes
pub record Overlap (a b : SegmentExtent) : Type 0 where
  pub x_first : b.left ≤ℤ a.right
  pub x_second : a.left ≤ℤ b.right
  pub y_first : b.low ≤ℤ a.high
  pub y_second : a.low ≤ℤ b.high

module _ where
  from_le : (x y : ℤ) → int_le x y ≡ true → x ≤ℤ y
  from_le x y le = grind (arith, ints)

  to_le : (x y : ℤ) → x ≤ℤ y → int_le x y ≡ true
  to_le x y le = grind (arith, ints)

pub overlap_holds : (a b : SegmentExtent) → overlap a b ≡ true → Overlap a b
overlap_holds a b holds =
    let both = and_parts (meet_in_x a b) (meet_in_y a b) holds in
    let x = and_parts (int_le b.left a.right) (int_le a.left b.right) both.0 in
    let y = and_parts (int_le b.low a.high) (int_le a.low b.high) both.1 in
    record { x_first = from_le _ _ x.0; x_second = from_le _ _ x.1; y_first = from_le _ _ y.0; y_second = from_le _ _ y.1 }

pub overlap_from : (a b : SegmentExtent) → Overlap a b → overlap a b ≡ true
overlap_from a b is =
    and_from (meet_in_x a b) (meet_in_y a b)
    (and_from (int_le b.left a.right) (int_le a.left b.right) (to_le _ _ is.x_first) (to_le _ _ is.x_second))
    (and_from (int_le b.low a.high) (int_le a.low b.high) (to_le _ _ is.y_first) (to_le _ _ is.y_second))

-- coordinates of nodes, after one vertex more
pub numbers_one_more : (axis : Axis) (shape : Shape) (places : Places) (numbers : List ℤ) (v n : ℕ) (z : ℤ) → HasWays shape places → v < shape.plan.vertices →
    node_count axis shape ≤ length numbers → z ≡ along axis (place places.xy v) → n ≡ v + 1 →
    AreAtNodes axis shape places v numbers → AreAtNodes axis shape places n (set numbers (node_of axis shape v) z)
numbers_one_more axis shape places numbers v n z ways vertex room is next before u within =
    by_node (cases_eq (node_of axis shape u) (node_of axis shape v)) (cases_lt u v)
  where
    by_node : (node_of axis shape u ≡ node_of axis shape v) ⊎ (node_of axis shape u ≡ node_of axis shape v → ⊥) → (u < v) ⊎ (v ≤ u) →
        along axis (place places.xy u) ≡ number_at (set numbers (node_of axis shape v) z) (node_of axis shape u)
    by_node (inl same) order =
        level_node shape places ways axis u v same ∙ sym is ∙
        sym (ap (number_at (set numbers (node_of axis shape v) z)) same ∙ get_or-set_same numbers (node_of axis shape v) z (pos 0) (node_inside axis shape v (length numbers) vertex room))
    by_node (inr other) (inl earlier) = before u earlier ∙ sym (get_or-set_other numbers (node_of axis shape v) (node_of axis shape u) z (pos 0) other)
    by_node (inr other) (inr here) = absurd (other (ap (node_of axis shape) (let same : u ≡ v = omega (arith, within, next, here) in same)))

-- the number at the node of the vertices
pub at_node : (axis : Axis) (shape : Shape) (places : Places) (numbers : List ℤ) (node : ℕ) → AreAtNodes axis shape places shape.plan.vertices numbers → IsAtNode axis shape places node (number_at numbers node)
at_node axis shape places numbers node are v vertex same = are v vertex ∙ ap (number_at numbers) same

-- the coordinates of the nodes, in places that solve the choices, solve the graphs
pub coordinates_solve : (axis : Axis) (shape : Shape) (choices : List Choice) (places : Places) (numbers : List ℤ) → HasDrawing shape → Fit shape choices →
    Solves shape choices places → AreAtNodes axis shape places shape.plan.vertices numbers → IsSolution (arcs_of axis shape choices) (number_at numbers)
coordinates_solve axis shape choices places numbers drawing fit solves are i within =
    let solid = solid_from shape choices drawing fit axis _ (comes_from axis shape choices i within) in
    let from = solid.from in
    let to = solid.to in
    let met = meets_arcs shape choices drawing fit places solves axis i within from.0 to.0 from.1 to.1 from.2 to.2 in
    let low = at_node axis shape places numbers _ are from.0 from.1 from.2 in
    let high = at_node axis shape places numbers _ are to.0 to.1 to.2 in
    omega (arith, ints, met, low, high)

-- there is room for all nodes where there is room for all vertices
pub few_nodes : (axis : Axis) (shape : Shape) (room : ℕ) → shape.plan.vertices ≤ room → node_count axis shape ≤ room
few_nodes axis shape room fits = let few = few_lines (other_axis axis) shape in omega (arith, few, fits)

-- so there is room for all
pub room_for_all : (shape : Shape) (room : ℕ) → HasDrawing shape → shape.plan.vertices ≤ room → HasRoom shape room
room_for_all shape room drawing fits = record {
  segments = (let few = few_segments shape drawing in omega (arith, few, fits));
  nodes = λ axis. few_nodes axis shape room fits;
}

-- the columns are the nodes along x, and the rows those along y
pub room_from : (shape : Shape) (room : ℕ) → segment_count shape ≤ room → line_count Y shape ≤ room → line_count X shape ≤ room → HasRoom shape room
room_from shape room segments columns rows = record { segments = segments; nodes = by_axis }
  where
    by_axis : (axis : Axis) → node_count axis shape ≤ room
    by_axis X = columns
    by_axis Y = rows

-- an extent that is turned twice is as before, and has the same segment
turned_twice : (axis : Axis) (e : SegmentExtent) → turned_along axis (turned_along axis e) ≡ e
turned_twice X e = refl
turned_twice Y e = refl

segment_turned : (axis : Axis) (e : SegmentExtent) → (turned_along axis e).segment ≡ e.segment
segment_turned X e = refl
segment_turned Y e = refl

pub segments_turned : (axis : Axis) (before after : List SegmentExtent) (n : ℕ) → length before ≡ n → AreTurned axis before after →
    ((s : ℕ) → s < n → (extent_at before s).segment ≡ s) → (s : ℕ) → s < n → (extent_at after s).segment ≡ s
segments_turned axis before after n fits turned own s within =
    ap (λ (e : SegmentExtent). e.segment) (turned s (omega (arith, within, fits))) ∙ segment_turned axis (extent_at before s) ∙ own s within

pub extents_turned : (axis : Axis) (shape : Shape) (places : Places) (before after : List SegmentExtent) → length after ≡ length before → AreTurned axis before after →
    AreExtents shape places before → AreExtentsAlong axis shape places after
extents_turned axis shape places before after fits turned are k within =
    subst (λ (e : SegmentExtent). IsExtentAlong axis shape places e) (sym (turned k inside))
    (subst (λ (e : SegmentExtent). IsExtent shape places e) (sym (turned_twice axis (extent_at before k))) (are k inside))
  where
    inside : k < length before
    inside = omega (arith, within, fits)

-- the extents before place i are turned, and the others are not
pub record AreTurnedTo (i : ℕ) (before now : List SegmentExtent) : Type 0 where
  pub done : (k : ℕ) → k < i → k < length before → extent_at now k ≡ turned_along Y (extent_at before k)
  pub rest : (k : ℕ) → i ≤ k → extent_at now k ≡ extent_at before k

pub turned_one_more : (i n : ℕ) (before now : List SegmentExtent) (e : SegmentExtent) → n ≡ i + 1 → i < length now → e ≡ turned_along Y (extent_at now i) → AreTurnedTo i before now →
    AreTurnedTo n before (set now i e)
turned_one_more i n before now e next inside is turned = record { done = λ k less within. by_order k within less (cases_lt k i); rest = others }
  where
    by_order : (k : ℕ) → k < length before → k < n → (k < i) ⊎ (i ≤ k) → extent_at (set now i e) k ≡ turned_along Y (extent_at before k)
    by_order k within less (inl earlier) =
        get_or-set_other now i k e nowhere (let other : k ≡ i → ⊥ = λ same. omega (arith, earlier, same) in other) ∙ turned.done k earlier within
    by_order k within less (inr here) =
        let same : k ≡ i = omega (arith, here, less, next) in
        ap (extent_at (set now i e)) same ∙ get_or-set_same now i e nowhere inside ∙ is ∙
        ap (turned_along Y) (turned.rest i (omega arith) ∙ sym (ap (extent_at before) same))

    others : (k : ℕ) → n ≤ k → extent_at (set now i e) k ≡ extent_at before k
    others k past =
        get_or-set_other now i k e nowhere (let other : k ≡ i → ⊥ = λ same. omega (arith, past, same, next) in other) ∙ turned.rest k (omega (arith, past, next))

-- one extent more
pub put_one_more : (shape : Shape) (places : Places) (n m : ℕ) (extents : List SegmentExtent) (e : SegmentExtent) → n < length extents → m ≡ n + 1 → e.segment ≡ n →
    (HasWays shape places → IsExtent shape places e) → ArePut shape places n extents → ArePut shape places m (set extents n e)
put_one_more shape places n m extents e inside next is its put = record {
  segment = λ k within. segment_at k (cases_lt k n) within;
  extent = λ ways k within. extent_at_place ways k (cases_lt k n) within;
}
  where
    earlier : (k : ℕ) → k < n → extent_at (set extents n e) k ≡ extent_at extents k
    earlier k before = get_or-set_other extents n k e nowhere (let other : k ≡ n → ⊥ = λ same. omega (arith, before, same) in other)

    here : (k : ℕ) → n ≤ k → k < m → extent_at (set extents n e) k ≡ e
    here k after within = let same : k ≡ n = omega (arith, after, within, next) in ap (extent_at (set extents n e)) same ∙ get_or-set_same extents n e nowhere inside

    segment_at : (k : ℕ) → (k < n) ⊎ (n ≤ k) → k < m → (extent_at (set extents n e) k).segment ≡ k
    segment_at k (inl before) within = ap (λ (x : SegmentExtent). x.segment) (earlier k before) ∙ put.segment k before
    segment_at k (inr after) within = ap (λ (x : SegmentExtent). x.segment) (here k after within) ∙ is ∙ omega (arith, after, within, next)

    extent_at_place : HasWays shape places → (k : ℕ) → (k < n) ⊎ (n ≤ k) → k < m → IsExtent shape places (extent_at (set extents n e) k)
    extent_at_place ways k (inl before) within = subst (λ (x : SegmentExtent). IsExtent shape places x) (sym (earlier k before)) (put.extent ways k before)
    extent_at_place ways k (inr after) within = subst (λ (x : SegmentExtent). IsExtent shape places x) (sym (here k after within)) (its ways)
