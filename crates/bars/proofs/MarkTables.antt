-- What the pieces along an axis mark, and the first vertices that are left unmarked.
use Rattle.std.proofs.Common.{◌≡◌, ℕ, zero, suc, ◌+◌, ◌<◌, ◌≤◌, ◌==◌, ◌&&◌, ◌||◌, not, Bool, true, false, List, length, set, slice_index, slice_index_or, if◌then◌else◌, Option, Some, ◌⊎◌, inl, inr, sym, ap, refl, ◌∙◌, arith, get_or-set_same, get_or-set_other}
use Rattle.std.specs.List.{find, list_any, range_with_len}
use Rattle.std.specs.Option.{unwrap_or}
use Rattle.std.proofs.Math.ListN.{length-set}
use Rattle.std.proofs.lemmas.Bool.{and_from, and_left, and_right, cases_eq, cond-true, cond-false, eq-eqb, ne_eqb, or_right}
use Rattle.compact_types.specs.declared.places.Axis.{Axis}
use Rattle.compact_types.specs.declared.plan.Piece.{Piece}
use Rattle.compact_types.specs.declared.plan.Shape.{Shape}
use Rattle.compact_types.specs.declared.plan.Way.{Way}
use Rattle.compact_types.specs.Axes.{low_end, high_end}
use Rattle.compact_types.specs.Lookups.{piece_at, way_at, axis_of}
use Rattle.bars.specs.declared.lines.Lines.{Lines}
use Rattle.bars.specs.declared.marks.LineEnds.{LineEnds}
use Rattle.bars.specs.declared.marks.PieceMarks.{PieceMarks}
use Rattle.bars.specs.Lines.{is_axis, is_along, line_of, line_count}
use Rattle.bars.specs.Segments.{has_piece_before, has_piece_after}
use Rattle.bars.specs.inner.Marks.{AreMarked, AreMarks, first_unmarked_in, AreFirstUnmarked, AreLineEnds}
use Rattle.bars.specs.inner.Tables.{AreLines}
use Rattle.bars.proofs.LineNumbers.{line_below}

-- one number more in a search
or_assoc : (a b c : Bool) → (a || (b || c)) ≡ ((a || b) || c)
or_assoc true b c = refl
or_assoc false b c = refl

pub any_more : (test : ℕ → Bool) (a n : ℕ) → list_any test (range_with_len a (suc n)) ≡ (list_any test (range_with_len a n) || test (a + n))
any_more test a zero = let here : a + 0 ≡ a = omega arith in last (test a) (test (a + 0)) (ap test (sym here))
  where
    last : (x y : Bool) → x ≡ y → (x || false) ≡ y
    last true y same = same
    last false y same = same
any_more test a (suc n) =
    let next : a + 1 + n ≡ a + suc n = omega arith in
    ap (λ (rest : Bool). test a || rest) (any_more test (a + 1) n)
    ∙ or_assoc (test a) (list_any test (range_with_len (a + 1) n)) (test (a + 1 + n))
    ∙ ap (λ (m : ℕ). ((test a || list_any test (range_with_len (a + 1) n)) || test m)) next

pub any_one_more : (test : ℕ → Bool) (n : ℕ) → list_any test (range_with_len 0 (n + 1)) ≡ (list_any test (range_with_len 0 n) || test n)
any_one_more test n =
    let next : n + 1 ≡ suc n = omega arith in
    let from : 0 + n ≡ n = omega arith in
    ap (λ (m : ℕ). list_any test (range_with_len 0 m)) next ∙ any_more test 0 n ∙ ap (λ (m : ℕ). (list_any test (range_with_len 0 n) || test m)) from

pub or_false : (x y : Bool) → y ≡ false → (x || y) ≡ x
or_false true y none = refl
or_false false y none = none

-- one piece more marks its number, where it is used
pub marked_more : (is_used : ℕ → Bool) (at : ℕ → ℕ) (n : ℕ) (marks more : List Bool) (used : Bool) (number : ℕ) →
    used ≡ is_used n → number ≡ at n → number < length marks → more ≡ (if used then set marks number true else marks) →
    AreMarked is_used at n marks → AreMarked is_used at (n + 1) more
marked_more is_used at n marks more true number is_true is_number inside is are = record { each = λ k within. each k within (cases_eq k number) }
  where
    each : (k : ℕ) → k < length more → (k ≡ number) ⊎ (k ≡ number → ⊥) →
        slice_index_or more k false ≡ list_any (λ i. is_used i && (at i == k)) (range_with_len 0 (n + 1))
    each k within (inl same) =
        ap (λ (l : List Bool). slice_index_or l k false) is ∙ ap (λ (m : ℕ). slice_index_or (set marks number true) m false) same
        ∙ get_or-set_same marks number true false inside
        ∙ sym (any_one_more (λ i. is_used i && (at i == k)) n
        ∙ or_right _ _ (and_from _ _ (sym is_true) (eq-eqb _ _ (sym is_number ∙ sym same))))
    each k within (inr other) =
        ap (λ (l : List Bool). slice_index_or l k false) is ∙ get_or-set_other marks number k true false other
        ∙ are.each k (let fits : length more ≡ length marks = ap length is ∙ length-set marks number true in omega (arith, within, fits))
        ∙ sym (any_one_more (λ i. is_used i && (at i == k)) n
        ∙ or_false _ _ (and_right _ _ (ne_eqb _ _ (λ same. other (sym same ∙ sym is_number)))))
marked_more is_used at n marks more false number is_false is_number inside is are = record {
  each = λ k within.
      ap (λ (l : List Bool). slice_index_or l k false) is
      ∙ are.each k (let fits : length more ≡ length marks = ap length is in omega (arith, within, fits))
      ∙ sym (any_one_more (λ i. is_used i && (at i == k)) n ∙ or_false _ _ (and_left _ _ (sym is_false)));
}

-- at first nothing is marked
pub nothing_marked : (is_used : ℕ → Bool) (at : ℕ → ℕ) (marks : List Bool) → ((k : ℕ) → k < length marks → slice_index_or marks k false ≡ false) →
    AreMarked is_used at 0 marks
nothing_marked is_used at marks none = record { each = none }

-- the vertex before is the first of its line, unless it is marked
pub first_before : (lines : Lines) (marked : List Bool) (v n : ℕ) (found more : List ℕ) (line : ℕ) (is_marked : Bool) →
    AreFirstUnmarked lines marked (v + 1) n found → line ≡ slice_index lines.of.items v → line < lines.count →
    is_marked ≡ slice_index_or marked v false → more ≡ (if is_marked then found else set found line v) →
    AreFirstUnmarked lines marked v (suc n) more
first_before lines marked v n found more line true are is_line inside is_true is = record {
  one_for_each = ap length is ∙ are.one_for_each;
  each = λ k within. ap (λ (l : List ℕ). slice_index l k) is ∙ are.each k within
      ∙ sym (ap (λ (o : Option ℕ). unwrap_or o 0) (cond-false _ _ _ (and_right (slice_index lines.of.items v == k) _ (ap not (sym is_true)))));
}
first_before lines marked v n found more line false are is_line inside is_false is = record {
  one_for_each = ap length is ∙ length-set found line v ∙ are.one_for_each;
  each = λ k within. each k within (cases_eq k line);
}
  where
    each : (k : ℕ) → k < lines.count → (k ≡ line) ⊎ (k ≡ line → ⊥) → slice_index more k ≡ first_unmarked_in lines marked v (suc n) k
    each k within (inl same) =
        ap (λ (l : List ℕ). slice_index l k) is ∙ ap (λ (m : ℕ). slice_index (set found line v) m) same
        ∙ get_or-set_same found line v 0 (omega (arith, inside, are.one_for_each))
        ∙ sym (ap (λ (o : Option ℕ). unwrap_or o 0) (cond-true _ _ _ (and_from _ _ (eq-eqb _ _ (sym is_line ∙ sym same)) (ap not (sym is_false)))))
    each k within (inr other) =
        ap (λ (l : List ℕ). slice_index l k) is ∙ get_or-set_other found line k v 0 other ∙ are.each k within
        ∙ sym (ap (λ (o : Option ℕ). unwrap_or o 0) (cond-false _ _ _ (and_left _ _ (ne_eqb _ _ (λ same. other (sym same ∙ sym is_line))))))

-- behind the last vertex none is found
pub none_after : (lines : Lines) (marked : List Bool) (v : ℕ) (found : List ℕ) → length found ≡ lines.count →
    ((k : ℕ) → k < length found → slice_index found k ≡ 0) → AreFirstUnmarked lines marked v 0 found
none_after lines marked v found fits none = record { one_for_each = fits; each = λ k within. none k (omega (arith, within, fits)) }

-- two tests that agree find the same
find_same : (p q : ℕ → Bool) (a n : ℕ) → ((v : ℕ) → a ≤ v → v < a + n → p v ≡ q v) → find p (range_with_len a n) ≡ find q (range_with_len a n)
find_same p q a zero same = refl
find_same p q a (suc n) same =
    let here = same a (omega arith) (omega arith) in
    let rest = find_same p q (a + 1) n (λ v from to. same v (omega (arith, from)) (omega (arith, to))) in
    ap (λ (b : Bool). if b then Some a else find p (range_with_len (a + 1) n)) here
    ∙ ap (λ (o : Option ℕ). if q a then Some a else o) rest

module _ (axis : Axis) (shape : Shape) (lines : Lines) (are : AreLines axis shape lines) where
  found_in_lines : (marked : List Bool) (marks : ℕ → Bool) → ((v : ℕ) → v < shape.plan.vertices → slice_index_or marked v false ≡ marks v) →
      (line : ℕ) → first_unmarked_in lines marked 0 shape.plan.vertices line
      ≡ unwrap_or (find (λ v. (line_of axis shape v == line) && not (marks v)) (range_with_len 0 shape.plan.vertices)) 0
  found_in_lines marked marks is_marked line =
      ap (λ (o : Option ℕ). unwrap_or o 0) (find_same _ _ 0 shape.plan.vertices (λ v from to.
      let within : v < shape.plan.vertices = omega (arith, to) in
      ap (λ (number : ℕ). (number == line) && not (slice_index_or marked v false)) (are.each v within)
      ∙ ap (λ (b : Bool). (line_of axis shape v == line) && not b) (is_marked v within)))

  -- the ends of lines, from what is marked and what is first
  pub line_ends_are : (marks : PieceMarks) (first last : List ℕ) (ends : LineEnds) → AreMarks axis shape marks →
      ends.has_piece.items ≡ marks.has_piece.items → ends.first.items ≡ first → ends.last.items ≡ last →
      AreFirstUnmarked lines marks.before.items 0 shape.plan.vertices first → AreFirstUnmarked lines marks.after.items 0 shape.plan.vertices last →
      AreLineEnds axis shape ends
  line_ends_are marks first last ends marked is_piece is_first is_last firsts lasts = record {
    lines = ap length is_piece ∙ marked.lines;
    has_piece = λ line within. ap (λ (l : List Bool). slice_index_or l line false) is_piece ∙ marked.has_piece line within;
    firsts = ap length is_first ∙ firsts.one_for_each ∙ are.count;
    first = λ line within. ap (λ (l : List ℕ). slice_index l line) is_first ∙ firsts.each line (omega (arith, within, are.count))
        ∙ found_in_lines marks.before.items (has_piece_before axis shape) marked.before line;
    lasts = ap length is_last ∙ lasts.one_for_each ∙ are.count;
    last = λ line within. ap (λ (l : List ℕ). slice_index l line) is_last ∙ lasts.each line (omega (arith, within, are.count))
        ∙ found_in_lines marks.after.items (has_piece_after axis shape) marked.after line;
  }

  -- the line of each vertex is one of the lines
  pub number_below : (v : ℕ) → v < shape.plan.vertices → slice_index lines.of.items v < lines.count
  number_below v within =
      let is = are.each v within in
      let below = line_below axis shape v within in
      omega (arith, is, below, are.count)

  -- the line of the first end of a piece, as it is read
  pub line_read : (numbers : List ℕ) (pieces : List Piece) → numbers ≡ lines.of.items → pieces ≡ shape.plan.pieces → (i : ℕ) → i < length pieces →
      slice_index numbers (piece_at pieces i).from ≡ line_of axis shape (piece_at shape.plan.pieces i).from
  line_read numbers pieces is_numbers is_pieces i inside =
      ap (λ (l : List ℕ). slice_index l (piece_at pieces i).from) is_numbers
      ∙ ap (λ (l : List Piece). slice_index lines.of.items (piece_at l i).from) is_pieces
      ∙ are.each _ (shape.plan.ends i (let fits : length pieces ≡ length shape.plan.pieces = ap length is_pieces in omega (arith, inside, fits))).0

  pub line_read_below : (numbers : List ℕ) (pieces : List Piece) → numbers ≡ lines.of.items → pieces ≡ shape.plan.pieces → (i : ℕ) → i < length pieces →
      slice_index numbers (piece_at pieces i).from < line_count axis shape
  line_read_below numbers pieces is_numbers is_pieces i inside =
      let is = line_read numbers pieces is_numbers is_pieces i inside in
      let below = line_below axis shape (piece_at shape.plan.pieces i).from
      (shape.plan.ends i (let fits : length pieces ≡ length shape.plan.pieces = ap length is_pieces in omega (arith, inside, fits))).0 in
      omega (arith, is, below)

-- what the code reads of a piece
pub along_read : (axis : Axis) (shape : Shape) (ways : List Way) (i : ℕ) (along : Bool) → ways ≡ shape.ways → along ≡ is_axis (axis_of (way_at ways i)) axis →
    along ≡ is_along axis shape i
along_read axis shape ways i along is_ways is = is ∙ ap (λ (l : List Way). is_axis (axis_of (way_at l i)) axis) is_ways

pub end_read : (end : Way → Piece → ℕ) (shape : Shape) (ways : List Way) (pieces : List Piece) (i number : ℕ) → ways ≡ shape.ways → pieces ≡ shape.plan.pieces →
    number ≡ end (way_at ways i) (piece_at pieces i) → number ≡ end (way_at shape.ways i) (piece_at shape.plan.pieces i)
end_read end shape ways pieces i number is_ways is_pieces is =
    is ∙ ap (λ (l : List Way). end (way_at l i) (piece_at pieces i)) is_ways ∙ ap (λ (l : List Piece). end (way_at shape.ways i) (piece_at l i)) is_pieces

-- the marks of all pieces
pub marks_are : (axis : Axis) (shape : Shape) (n : ℕ) (lines before after : List Bool) (marks : PieceMarks) → n ≡ length shape.plan.pieces →
    AreMarked (is_along axis shape) (λ i. line_of axis shape (piece_at shape.plan.pieces i).from) n lines →
    AreMarked (is_along axis shape) (λ i. high_end (way_at shape.ways i) (piece_at shape.plan.pieces i)) n before →
    AreMarked (is_along axis shape) (λ i. low_end (way_at shape.ways i) (piece_at shape.plan.pieces i)) n after →
    length lines ≡ line_count axis shape → length before ≡ shape.plan.vertices → length after ≡ shape.plan.vertices →
    marks.has_piece.items ≡ lines → marks.before.items ≡ before → marks.after.items ≡ after → AreMarks axis shape marks
marks_are axis shape n lines before after marks all of_lines of_before of_after lines_fit before_fit after_fit is_lines is_before is_after = record {
  lines = ap length is_lines ∙ lines_fit;
  has_piece = λ line within. ap (λ (l : List Bool). slice_index_or l line false) is_lines ∙ of_lines.each line (omega (arith, within, lines_fit))
      ∙ ap (λ (m : ℕ). list_any (λ i. is_along axis shape i && (line_of axis shape (piece_at shape.plan.pieces i).from == line)) (range_with_len 0 m)) all;
  befores = ap length is_before ∙ before_fit;
  before = λ v within. ap (λ (l : List Bool). slice_index_or l v false) is_before ∙ of_before.each v (omega (arith, within, before_fit))
      ∙ ap (λ (m : ℕ). list_any (λ i. is_along axis shape i && (high_end (way_at shape.ways i) (piece_at shape.plan.pieces i) == v)) (range_with_len 0 m)) all;
  afters = ap length is_after ∙ after_fit;
  after = λ v within. ap (λ (l : List Bool). slice_index_or l v false) is_after ∙ of_after.each v (omega (arith, within, after_fit))
      ∙ ap (λ (m : ℕ). list_any (λ i. is_along axis shape i && (low_end (way_at shape.ways i) (piece_at shape.plan.pieces i) == v)) (range_with_len 0 m)) all;
}
