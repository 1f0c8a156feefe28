-- The lanes of a vector that is made of two others, and where they stand once it is stored.
use Rattle.std.proofs.Common.{◌≡◌, ℕ, ◌+◌, ◌-◌, ◌<◌, ◌≤◌, arith, List, length, slice_index, sym, ap₂, ◌∙◌}
use Rattle.std.specs.Prelude.{bit_or}
use Rattle.std.specs.Simd.Lanes.{chunk, put_chunk, zip2}
use Rattle.std.proofs.lemmas.Simd.{get_or-chunk, length-chunk, get_or-zip2, length-zip2, get_or-put_chunk_at, get_or-put_chunk_below, get_or-put_chunk_above}
use Rattle.reach_rows.specs.Bits.{HasBitsOfBoth}
use Rattle.reach_rows.specs.declared.bits.TheConstants.{LANES}

-- the vectors at two places, joined
pub are_joined : (words : List ℕ) (a b : ℕ) → a + LANES ≤ length words → b + LANES ≤ length words → HasBitsOfBoth words a b (zip2 bit_or (chunk a LANES words) (chunk b LANES words))
are_joined words a b first second =
    let one : length (chunk a LANES words) ≡ LANES = length-chunk a LANES words first in
    let other : length (chunk b LANES words) ≡ LANES = length-chunk b LANES words second in
    record {
      long = length-zip2 bit_or (chunk a LANES words) (chunk b LANES words) (one ∙ sym other) ∙ one;
      lanes = λ k within.
          get_or-zip2 bit_or (chunk a LANES words) (chunk b LANES words) k 0 0 0 (omega arith) (omega arith)
          ∙ ap₂ bit_or (get_or-chunk a LANES words k 0 within) (get_or-chunk b LANES words k 0 within);
    }

-- a word of the vector that was stored over the first of the two
pub stored_word : (words vector : List ℕ) (into from done k : ℕ) → HasBitsOfBoth words (into + done) (from + done) vector → into + done + LANES ≤ length words → done ≤ k → k < done + LANES →
    slice_index (put_chunk (into + done) words vector) (into + k) ≡ bit_or (slice_index words (into + k)) (slice_index words (from + k))
stored_word words vector into from done k joined within behind before =
    let lane : ℕ = k - done in
    let here : into + done + lane ≡ into + k = omega arith in
    let there : from + done + lane ≡ from + k = omega arith in
    rw (here, there) at (get_or-put_chunk_at (into + done) words vector lane 0 (omega (arith, joined.long)) (omega (arith, joined.long)) ∙ joined.lanes lane (omega arith))

pub ruleset storing = (stored_word, get_or-put_chunk_below, get_or-put_chunk_above)
