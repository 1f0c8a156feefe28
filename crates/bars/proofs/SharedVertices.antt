-- Which segments have a vertex in common, from their lines and the table of rows and columns.
use Rattle.std.proofs.Common.{◌≡◌, ℕ, zero, suc, ◌+◌, ◌*◌, ◌<◌, ◌≤◌, ◌==◌, ◌&&◌, ◌||◌, Bool, true, false, List, ◌++◌, length, slice_index, slice_index_or, subst, sym, ap, refl, ◌∙◌, arith}
use mathlib.Core.Bool.{beq}
use Rattle.std.specs.List.{list_any, range_with_len}
use Rattle.std.proofs.lemmas.Bool.{and_parts, and_from, eq-eqb, eqb-true}
use Rattle.std.proofs.lemmas.List.{get_or_default, length-map}
use Rattle.std.proofs.lemmas.List.FromFn.{length-range_with_len}
use Rattle.std.proofs.lemmas.List.Sums.{length-filter, count_by-le-length}
use Rattle.compact_types.specs.declared.places.Axis.{Axis}
use Rattle.compact_types.specs.declared.places.Axis.TheVariants.{X, Y}
use Rattle.compact_types.specs.declared.plan.Shape.{Shape}
use Rattle.bars.specs.declared.lines.Lines.{Lines}
use Rattle.bars.specs.declared.spans.SegmentSpan.{SegmentSpan}
use Rattle.bars.specs.Lines.{is_axis, row_of, column_of, line_of, line_count, is_least}
use Rattle.bars.specs.Segments.{Segment, has_piece, segment_count, segment_at, ShareVertex}
use Rattle.bars.specs.Solutions.{IsSound}
use Rattle.bars.specs.inner.Crossings.{AreCrossings}
use Rattle.bars.specs.inner.Invariant.{AreTables, do_cross}
use Rattle.bars.specs.inner.Spans.{segment_span, spans_along}
use Rattle.bars.specs.inner.Tables.{AreLines}
use Rattle.bars.proofs.CrossingTable.{at_below}
use Rattle.bars.proofs.LineNumbers.{count_below_bound}
use Rattle.bars.proofs.RangeSearches.{any_range, any_range_at}
use Rattle.bars.proofs.SegmentEnds.{vertex_on}
use Rattle.bars.proofs.SegmentLists.{lines, IsNumbered, numbered, count_is, segment_line}
use Rattle.bars.proofs.SegmentLists.IsNumbered.{of_row, of_column}
use Rattle.bars.proofs.SpanTable.{all_spans}

-- an axis by the test of being X
axis_is_x : (a : Axis) → is_axis a X ≡ true → a ≡ X
axis_is_x X is = refl
axis_is_x Y is = absurd (let e : false ≡ true = is in cc)

axis_is_y : (a : Axis) → is_axis a X ≡ false → a ≡ Y
axis_is_y X is = absurd (let e : true ≡ false = is in cc)
axis_is_y Y is = refl

same_axis : (a b : Axis) → is_axis a X ≡ is_axis b X → a ≡ b
same_axis X X is = refl
same_axis X Y is = absurd (let e : true ≡ false = is in cc)
same_axis Y X is = absurd (let e : false ≡ true = is in cc)
same_axis Y Y is = refl

module _ (shape : Shape) (s t : ℕ) (s_within : s < segment_count shape) (t_within : t < segment_count shape) where
  abbrev axis_of_s : Axis
  axis_of_s = (segment_at shape s).axis

  abbrev axis_of_t : Axis
  axis_of_t = (segment_at shape t).axis

  abbrev line_s : ℕ
  line_s = (segment_at shape s).line

  abbrev line_t : ℕ
  line_t = (segment_at shape t).line

  -- two along one axis have a vertex in common where they are one line
  pub shared_along : (first second : ℕ) → first ≡ line_s → second ≡ line_t → (a b : Bool) → a ≡ is_axis axis_of_s X → b ≡ is_axis axis_of_t X → a ≡ b →
      (first ≡ second → ShareVertex shape s t) × (ShareVertex shape s t → first ≡ second)
  shared_along first second is_first is_second a b is_a is_b same = (share, one_line)
    where
      axis : axis_of_s ≡ axis_of_t
      axis = same_axis _ _ (sym is_a ∙ same ∙ is_b)

      share : first ≡ second → ShareVertex shape s t
      share equal =
          let on = vertex_on shape s s_within in (
            on.0,
            on.1,
            record {
              is_vertex = on.1.is_vertex;
              in_line = subst (λ (x : Axis). line_of x shape on.0 ≡ line_t) axis (on.1.in_line ∙ sym is_first ∙ equal ∙ is_second);
            },
          )

      one_line : ShareVertex shape s t → first ≡ second
      one_line shared =
          is_first ∙ sym shared.1.in_line ∙ ap (λ (x : Axis). line_of x shape shared.0) axis ∙ shared.2.in_line ∙ sym is_second

  -- a row and a column have one where they cross
  module _ (is_row : is_axis axis_of_s X ≡ true) (is_column : is_axis axis_of_t X ≡ false) where
    pub row_below : line_s < line_count X shape
    row_below = subst (λ (a : Axis). line_s < line_count a shape) (axis_is_x _ is_row) (segment_line shape s s_within).below

    pub column_below : line_t < line_count Y shape
    column_below = subst (λ (a : Axis). line_t < line_count a shape) (axis_is_y _ is_column) (segment_line shape t t_within).below

    abbrev cross_at : ℕ → Bool
    cross_at v = (row_of shape v == line_s) && (column_of shape v == line_t)

    pub shared_across : (do_cross shape line_s line_t ≡ true → ShareVertex shape s t) × (ShareVertex shape s t → do_cross shape line_s line_t ≡ true)
    shared_across = (share, cross)
      where
        share : do_cross shape line_s line_t ≡ true → ShareVertex shape s t
        share holds =
            let found = any_range cross_at 0 shape.plan.vertices holds in
            let both = and_parts (row_of shape found.0 == line_s) (column_of shape found.0 == line_t) found.1.2 in
            let within : found.0 < shape.plan.vertices = omega (arith, found.1.1) in (
              found.0,
              record { is_vertex = within; in_line = subst (λ (a : Axis). line_of a shape found.0 ≡ line_s) (sym (axis_is_x _ is_row)) (eqb-true _ _ both.0) },
              record { is_vertex = within; in_line = subst (λ (a : Axis). line_of a shape found.0 ≡ line_t) (sym (axis_is_y _ is_column)) (eqb-true _ _ both.1) },
            )

        cross : ShareVertex shape s t → do_cross shape line_s line_t ≡ true
        cross shared =
            any_range_at cross_at 0 shape.plan.vertices shared.0 (
              omega arith,
              (let within = shared.1.is_vertex in omega (arith, within)),
              and_from _ _
                  (eq-eqb _ _ (subst (λ (a : Axis). line_of a shape shared.0 ≡ line_s) (axis_is_x _ is_row) shared.1.in_line))
                  (eq-eqb _ _ (subst (λ (a : Axis). line_of a shape shared.0 ≡ line_t) (axis_is_y _ is_column) shared.2.in_line)),
            )

-- it does not matter which of the two is named first
pub share_turned : (shape : Shape) (s t : ℕ) → ShareVertex shape s t → ShareVertex shape t s
share_turned shape s t shared = (shared.0, shared.2, shared.1)

-- two tests that agree on a range
any_same : (p q : ℕ → Bool) (a n : ℕ) → ((v : ℕ) → a ≤ v → v < a + n → p v ≡ q v) → list_any p (range_with_len a n) ≡ list_any q (range_with_len a n)
any_same p q a zero same = refl
any_same p q a (suc n) same =
    ap (λ (b : Bool). b || list_any p (range_with_len (a + 1) n)) (same a (omega arith) (omega arith))
    ∙ ap (λ (b : Bool). q a || b) (any_same p q (a + 1) n (λ v from to. same v (omega (arith, from)) (omega (arith, to))))

-- what the table says of a row and a column
pub cross_read : (shape value : Shape) (rows columns : Lines) (table : List Bool) (row column : ℕ) (x : Bool) → shape ≡ value →
    AreLines X shape rows → AreLines Y shape columns → AreCrossings rows columns shape.plan.vertices table →
    row < line_count X value → column < line_count Y value →
    x ≡ slice_index_or table (row * columns.count + column) x → x ≡ do_cross value row column
cross_read shape value rows columns table row column x same in_rows in_columns are row_within column_within read =
    subst (λ (v : Shape). row < line_count X v → column < line_count Y v → x ≡ do_cross v row column) same here row_within column_within
  where
    here : row < line_count X shape → column < line_count Y shape → x ≡ do_cross shape row column
    here row_below column_below =
        let row_inside : row < rows.count = omega (arith, row_below, in_rows.count) in
        let column_inside : column < columns.count = omega (arith, column_below, in_columns.count) in
        let below = at_below columns.count rows.count row column row_inside column_inside in
        read ∙ get_or_default table (row * columns.count + column) x false (omega (arith, below, are.size))
        ∙ are.each row column row_inside column_inside
        ∙ any_same _ _ 0 shape.plan.vertices (λ v from to.
        let within : v < shape.plan.vertices = omega (arith, to) in
        ap (λ (r : ℕ). (r == row) && (slice_index columns.of.items v == column)) (in_rows.each v within)
        ∙ ap (λ (c : ℕ). (row_of shape v == row) && (c == column)) (in_columns.each v within))

-- the tables that were made
pub tables_are : (shape copy : Shape) (rows columns : Lines) (spans : List SegmentSpan) (row_segments : ℕ) (crossings : List Bool) → copy ≡ shape → IsSound shape →
    AreLines X shape rows → AreLines Y shape columns → spans ≡ spans_along X shape ++ spans_along Y shape → row_segments ≡ length (spans_along X shape) →
    AreCrossings rows columns (length rows.of.items) crossings → AreTables copy rows columns spans row_segments crossings
tables_are shape copy rows columns spans row_segments crossings same sound in_rows in_columns is_spans is_rows are =
    subst (λ (x : Shape). AreTables x rows columns spans row_segments crossings) (sym same) (record {
      sound = sound;
      in_rows = in_rows;
      in_columns = in_columns;
      of_segments = all_spans shape spans is_spans;
      few =
          let count = count_is shape in
          let x = few_lines X in
          let y = few_lines Y in
          let limit = sound.few_vertices in
          omega (arith, count, x, y, limit);
      row = λ s within. row s within (numbered shape s (let count = count_is shape in let fits = rows_fit in omega (arith, within, count, fits)));
      column = λ s after within. column s after (numbered shape s within);
      of_crossings = subst (λ (n : ℕ). AreCrossings rows columns n crossings) in_rows.one_for_each are;
    })
  where
    rows_fit : row_segments ≡ length (lines shape X)
    rows_fit = is_rows ∙ length-map (lines shape X) (segment_span X shape)

    few_lines : (axis : Axis) → length (lines shape axis) ≤ shape.plan.vertices
    few_lines axis =
        let counted = length-filter (has_piece axis shape) (range_with_len 0 (line_count axis shape)) in
        let at_most = count_by-le-length (has_piece axis shape) (range_with_len 0 (line_count axis shape)) in
        let long = length-range_with_len 0 (line_count axis shape) in
        let bound = count_below_bound (is_least axis shape) shape.plan.vertices in
        omega (arith, counted, at_most, long, bound)

    row : (s : ℕ) → s < row_segments → IsNumbered shape s → is_axis (segment_at shape s).axis X ≡ true
    row s within (of_row k is inside at) = ap (λ (segment : Segment). is_axis segment.axis X) at
    row s within (of_column k is inside at) = let fits = rows_fit in absurd (omega (arith, within, is, fits))

    column : (s : ℕ) → row_segments ≤ s → IsNumbered shape s → is_axis (segment_at shape s).axis X ≡ false
    column s after (of_row k is inside at) = let fits = rows_fit in absurd (omega (arith, after, is, inside, fits))
    column s after (of_column k is inside at) = ap (λ (segment : Segment). is_axis segment.axis X) at

-- what the comparison of two tests says
pub tests_same : (a b : Bool) → beq a b ≡ true → a ≡ b
tests_same true true holds = refl
tests_same true false holds = absurd (let e : false ≡ true = holds in cc)
tests_same false true holds = absurd (let e : false ≡ true = holds in cc)
tests_same false false holds = refl

pub tests_differ : (a b : Bool) → beq a b ≡ false → a ≡ true → b ≡ false
tests_differ true true fails holds = absurd (let e : true ≡ false = fails in cc)
tests_differ true false fails holds = refl
tests_differ false b fails holds = absurd (let e : false ≡ true = holds in cc)

pub tests_differ_back : (a b : Bool) → beq a b ≡ false → a ≡ false → b ≡ true
tests_differ_back false true fails holds = refl
tests_differ_back false false fails holds = absurd (let e : true ≡ false = fails in cc)
tests_differ_back true b fails holds = absurd (let e : true ≡ false = holds in cc)

-- the answer where the table is asked for a row and a column
pub shared_by_cross : (shape : Shape) (s t : ℕ) → s < segment_count shape → t < segment_count shape → (row column : ℕ) (x : Bool) →
    row ≡ (segment_at shape s).line → column ≡ (segment_at shape t).line → is_axis (segment_at shape s).axis X ≡ true → is_axis (segment_at shape t).axis X ≡ false →
    x ≡ do_cross shape row column → (x ≡ true → ShareVertex shape s t) × (ShareVertex shape s t → x ≡ true)
shared_by_cross shape s t s_within t_within row column x is_line is_line_t is_row is_column is =
    let both = shared_across shape s t s_within t_within is_row is_column in
    let same : x ≡ do_cross shape (segment_at shape s).line (segment_at shape t).line =
    is ∙ ap (λ (r : ℕ). do_cross shape r column) is_line ∙ ap (do_cross shape (segment_at shape s).line) is_line_t in
    (λ holds. both.0 (sym same ∙ holds), λ shared. same ∙ both.1 shared)

pub shared_by_lines : (shape : Shape) (s t : ℕ) → s < segment_count shape → t < segment_count shape → (first second : ℕ) (a b : Bool) →
    first ≡ (segment_at shape s).line → second ≡ (segment_at shape t).line → a ≡ is_axis (segment_at shape s).axis X → b ≡ is_axis (segment_at shape t).axis X → a ≡ b →
    ((first == second) ≡ true → ShareVertex shape s t) × (ShareVertex shape s t → (first == second) ≡ true)
shared_by_lines shape s t s_within t_within first second a b is_first is_second is_a is_b same =
    let both = shared_along shape s t s_within t_within first second is_first is_second a b is_a is_b same in
    (λ equal. both.0 (eqb-true _ _ equal), λ shared. eq-eqb _ _ (both.1 shared))
