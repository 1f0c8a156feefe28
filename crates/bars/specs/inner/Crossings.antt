-- The table of rows and columns that have a vertex in common.
use Rattle.std.specs.Prelude.{◌≡◌, ℕ, ◌<◌, ◌+◌, ◌*◌, ◌==◌, ◌&&◌, Bool, false, List, length, slice_index, slice_index_or}
use Rattle.std.specs.List.{list_any, range_with_len}
use Rattle.bars.specs.declared.lines.Lines.{Lines}

-- row by row, whether one of the first n vertices is in the row and in the column
pub record AreCrossings (rows columns : Lines) (n : ℕ) (table : List Bool) : Type 0 where
  pub size : length table ≡ rows.count * columns.count
  pub each : (row column : ℕ) → row < rows.count → column < columns.count →
      slice_index_or table (row * columns.count + column) false
      ≡ list_any (λ v. (slice_index rows.of.items v == row) && (slice_index columns.of.items v == column))
      (range_with_len 0 n)
