-- Rows of bits in one flat list of words of 64 bits, each row with the same number of words.
use Rattle.std.specs.Prelude.{◌≡◌, ◌↔◌, ◌⊎◌, ℕ, ◌+◌, ◌*◌, ◌/◌, ◌%◌, ◌<◌, List, length, slice_index, bit_or}
use Rattle.std.specs.Int.{bit_at}
use Rattle.shape_graphs.specs.declared.graph.Arc.{Arc}
use Rattle.shape_graphs.specs.Paths.{HasPath}
use Rattle.reach_rows.specs.declared.bits.TheConstants.{LANES}

-- bit c of row a
abbrev pub bit_in : ℕ → List ℕ → ℕ → ℕ → ℕ
bit_in words bits a c = bit_at (slice_index bits (a * words + c / 64)) (c % 64)

-- bit c of row a is set
abbrev pub IsSet : ℕ → List ℕ → ℕ → ℕ → Type 0
IsSet words bits a c = bit_in words bits a c ≡ 1

-- one row takes all bits of another, and the bit of the other's number; all other rows stay
pub record IsTaken (words into from : ℕ) (old new : List ℕ) : Type 0 where
  pub stay : (a c : ℕ) → (a ≡ into → ⊥) → c < 64 * words →
      bit_in words new a c ≡ bit_in words old a c
  pub take : (c : ℕ) → c < 64 * words →
      IsSet words new into c ↔ (IsSet words old into c ⊎ (IsSet words old from c ⊎ (c ≡ from)))

-- a vector of words has the bits of those from a on, and of those from b on
pub record HasBitsOfBoth (words : List ℕ) (a b : ℕ) (vector : List ℕ) : Type 0 where
  pub long : length vector ≡ LANES
  pub lanes : (k : ℕ) → k < LANES → slice_index vector k ≡ bit_or (slice_index words (a + k)) (slice_index words (b + k))

-- Bit c of row x is set, after an arc from a to b was added, exactly if it was before, or x is
-- a or reaches it, and c is b or is reached from it.
abbrev pub IsAdded : ℕ → List ℕ → ℕ → ℕ → ℕ → ℕ → Type 0 → Type 0
IsAdded words old a b x c now =
    now ↔ (IsSet words old x c
    ⊎ (((x ≡ a) ⊎ IsSet words old x a) × ((c ≡ b) ⊎ IsSet words old b c)))

-- the rows of so many nodes are those of the arcs: a bit is set exactly if a path leads from
-- the node of the row to that of the bit
abbrev pub AreBitsOf : ℕ → List ℕ → ℕ → List Arc → Type 0
AreBitsOf words bits nodes arcs =
    (a b : ℕ) → a < nodes → b < nodes → IsSet words bits a b ↔ HasPath arcs a b
