-- What the pieces along an axis mark, and what is left unmarked.
use Rattle.std.specs.Prelude.{◌≡◌, ℕ, ◌<◌, ◌==◌, ◌&&◌, not, Bool, false, List, length, slice_index, slice_index_or, unwrap_or}
use Rattle.std.specs.List.{find, list_any, range_with_len}
use Rattle.compact_types.specs.declared.places.Axis.{Axis}
use Rattle.compact_types.specs.declared.plan.Shape.{Shape}
use Rattle.bars.specs.declared.lines.Lines.{Lines}
use Rattle.bars.specs.declared.marks.LineEnds.{LineEnds}
use Rattle.bars.specs.declared.marks.PieceMarks.{PieceMarks}
use Rattle.bars.specs.Lines.{line_count}
use Rattle.bars.specs.Segments.{has_piece, has_piece_before, has_piece_after, first_vertex, last_vertex}

-- each number is marked exactly if one of the numbers below n that are used is at it
pub record AreMarked (is_used : ℕ → Bool) (at : ℕ → ℕ) (n : ℕ) (marks : List Bool) : Type 0 where
  pub each : (k : ℕ) → k < length marks →
      slice_index_or marks k false ≡ list_any (λ i. is_used i && (at i == k)) (range_with_len 0 n)

-- the lines with a piece, and the vertices with a piece before or after them
pub record AreMarks (axis : Axis) (shape : Shape) (marks : PieceMarks) : Type 0 where
  pub lines : length marks.has_piece.items ≡ line_count axis shape
  pub has_piece : (line : ℕ) → line < line_count axis shape →
      slice_index_or marks.has_piece.items line false ≡ has_piece axis shape line
  pub befores : length marks.before.items ≡ shape.plan.vertices
  pub before : (v : ℕ) → v < shape.plan.vertices →
      slice_index_or marks.before.items v false ≡ has_piece_before axis shape v
  pub afters : length marks.after.items ≡ shape.plan.vertices
  pub after : (v : ℕ) → v < shape.plan.vertices →
      slice_index_or marks.after.items v false ≡ has_piece_after axis shape v

-- the first of the n vertices from a on that are in the line and not marked; 0 if there is none
abbrev pub first_unmarked_in : Lines → List Bool → ℕ → ℕ → ℕ → ℕ
first_unmarked_in lines marked a n line =
    unwrap_or (find (λ v. (slice_index lines.of.items v == line) && not (slice_index_or marked v false))
    (range_with_len a n)) 0

-- the list has the first unmarked vertex of each line
pub record AreFirstUnmarked (lines : Lines) (marked : List Bool) (a n : ℕ) (found : List ℕ) : Type 0 where
  pub one_for_each : length found ≡ lines.count
  pub each : (line : ℕ) → line < lines.count →
      slice_index found line ≡ first_unmarked_in lines marked a n line

-- whether each line has a piece, and its end vertices
pub record AreLineEnds (axis : Axis) (shape : Shape) (ends : LineEnds) : Type 0 where
  pub lines : length ends.has_piece.items ≡ line_count axis shape
  pub has_piece : (line : ℕ) → line < line_count axis shape →
      slice_index_or ends.has_piece.items line false ≡ has_piece axis shape line
  pub firsts : length ends.first.items ≡ line_count axis shape
  pub first : (line : ℕ) → line < line_count axis shape →
      slice_index ends.first.items line ≡ first_vertex axis shape line
  pub lasts : length ends.last.items ≡ line_count axis shape
  pub last : (line : ℕ) → line < line_count axis shape →
      slice_index ends.last.items line ≡ last_vertex axis shape line
