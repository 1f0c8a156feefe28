use Rattle.std.proofs.Common.{◌≡◌, ℕ, ◌+◌, ◌-◌, ◌<◌, ◌≤◌, ◌⊎◌, slice_index}
use Rattle.std.specs.Prelude.{bit_or}
use Rattle.reach_rows.proofs.bits.or_words.Given as goal

abbrev pub invariant-loop-done : goal.invariant-loop-done
invariant-loop-done l = record {
  within : l.done ≤ l.words;
  row : (j : ℕ) → j < l.done → slice_index l.bits (l.into + j)
      ≡ bit_or (slice_index l.initial.bits (l.into + j)) (slice_index l.initial.bits (l.from + j));
  others : (i : ℕ) → (i < l.into) ⊎ (l.into + l.done ≤ i) → slice_index l.bits i ≡ slice_index l.initial.bits i;
}

abbrev pub decreases-loop-done : goal.decreases-loop-done
decreases-loop-done l = l.words - l.done

abbrev pub invariant-loop-k : goal.invariant-loop-k
invariant-loop-k l = record {
  row : (j : ℕ) → j < l.k → slice_index l.bits (l.into + j)
      ≡ bit_or (slice_index l.fn.bits (l.into + j)) (slice_index l.fn.bits (l.from + j));
  others : (i : ℕ) → (i < l.into) ⊎ (l.into + l.k ≤ i) → slice_index l.bits i ≡ slice_index l.fn.bits i;
}
