-- What a drawing amounts to in numbers, and how they are written.
use Rattle.std.specs.Prelude.{ℕ, zero, suc, ◌+◌, List, [], ◌++◌, codes, decimal}
use Rattle.std.specs.Fmt.{signed_decimal}
use Rattle.compact_types.specs.declared.plan.Shape.{Shape}
use Rattle.bars.specs.Segments.{IsPair}
use Rattle.shape_graphs.specs.Separation.{IsSeparated}
use Rattle.compact_main.specs.declared.summary.Summary.{Summary}

-- exactly k of the numbers below n have P
pub data IsCount (P : ℕ → Type 0) : ℕ → ℕ → Type 0 where
  no_number : IsCount P zero zero
  one_more : (n k : ℕ) → P n → IsCount P n k → IsCount P (suc n) (suc k)
  one_without : (n k : ℕ) → (P n → ⊥) → IsCount P n k → IsCount P (suc n) k

-- exactly k of the pairs s < t of numbers below n have P
pub data IsPairCount (P : ℕ → ℕ → Type 0) : ℕ → ℕ → Type 0 where
  no_pair : IsPairCount P zero zero
  one_row : (t k m : ℕ) → IsPairCount P t k → IsCount (λ s. P s t) t m →
      IsPairCount P (suc t) (k + m)

-- two segments without a common vertex that the shape alone keeps apart: every drawing of it has
-- them on the same side of each other
abbrev pub IsSeparatedPair : Shape → ℕ → ℕ → Type 0
IsSeparatedPair shape s t = IsPair shape s t × IsSeparated shape [] s t

-- a name and the digits of its number, on a line of their own
abbrev pub number_line : List ℕ → List ℕ → List ℕ
number_line name digits = name ++ codes " " ++ digits ++ codes "\n"

-- each number on a line of its own
abbrev pub summary_text : Summary → List ℕ
summary_text summary =
    number_line (codes "vertices") (decimal summary.vertices)
    ++ number_line (codes "pieces") (decimal summary.pieces)
    ++ number_line (codes "rows") (decimal summary.rows)
    ++ number_line (codes "columns") (decimal summary.columns)
    ++ number_line (codes "bars") (decimal summary.bars)
    ++ number_line (codes "pairs") (decimal summary.pairs)
    ++ number_line (codes "separated") (decimal summary.separated)
    ++ number_line (codes "length") (signed_decimal summary.length)
