-- Pairs of segments counted one by one, and row by row.
use Rattle.std.proofs.Common.{◌≡◌, ℕ, suc, ◌+◌, ◌<◌, [], arith}
use Rattle.compact_types.specs.declared.plan.Shape.{Shape}
use Rattle.compact_types.specs.declared.limits.TheConstants.{MOST_VERTICES}
use Rattle.bars.specs.Segments.{IsPair}
use Rattle.shape_graphs.specs.Separation.{IsSeparated}
use Rattle.compact_main.specs.declared.pairs.PairCounts.{PairCounts}
use Rattle.compact_main.specs.Summaries.{IsCount}
use Rattle.compact_main.specs.Summaries.IsCount.{no_number, one_more, one_without}
use Rattle.compact_main.specs.Summaries.IsPairCount.{no_pair, one_row}
use Rattle.compact_main.specs.inner.PairCounts.{AreCountsWith, AreCountsBelow}

more : {P : ℕ → Type 0} (n k m l : ℕ) → m ≡ suc n → l ≡ suc k → P n → IsCount P n k → IsCount P m l
more n k m l next is p rest = rw (next, is) (one_more n k p rest)

without : {P : ℕ → Type 0} (n k m : ℕ) → m ≡ suc n → (P n → ⊥) → IsCount P n k → IsCount P m k
without n k m next none rest = rw next (one_without n k none rest)

module _ (shape : Shape) (s t : ℕ) (counts : PairCounts) (so_far : AreCountsWith shape t s counts) where
  -- a segment that makes no pair is not counted
  pub not_counted : (IsPair shape s t → ⊥) → AreCountsWith shape t (s + 1) counts
  not_counted none = record {
    pairs = without s counts.pairs (s + 1) (omega arith) none so_far.pairs;
    separated = without s counts.separated (s + 1) (omega arith) (λ both. none both.0) so_far.separated;
    few_pairs = let few = so_far.few_pairs in omega arith;
    few_separated = let few = so_far.few_separated in omega arith;
  }

  -- a pair that the shape keeps apart
  pub separated_counted : IsPair shape s t → IsSeparated shape [] s t →
      AreCountsWith shape t (s + 1) (record { pairs = counts.pairs + 1; separated = counts.separated + 1 })
  separated_counted pair apart = record {
    pairs = more s counts.pairs (s + 1) (counts.pairs + 1) (omega arith) (omega arith) pair so_far.pairs;
    separated = more s counts.separated (s + 1) (counts.separated + 1) (omega arith) (omega arith) (pair, apart) so_far.separated;
    few_pairs = let few = so_far.few_pairs in omega arith;
    few_separated = let few = so_far.few_separated in omega arith;
  }

  -- a pair that it does not
  pub open_counted : IsPair shape s t → (IsSeparated shape [] s t → ⊥) →
      AreCountsWith shape t (s + 1) (record { pairs = counts.pairs + 1; separated = counts.separated })
  open_counted pair none = record {
    pairs = more s counts.pairs (s + 1) (counts.pairs + 1) (omega arith) (omega arith) pair so_far.pairs;
    separated = without s counts.separated (s + 1) (omega arith) (λ both. none both.1) so_far.separated;
    few_pairs = let few = so_far.few_pairs in omega arith;
    few_separated = let few = so_far.few_separated in omega arith;
  }

-- one row more
pub row_counted : (shape : Shape) (t : ℕ) (counts row : PairCounts) → t < MOST_VERTICES → AreCountsBelow shape t counts → AreCountsWith shape t t row →
    AreCountsBelow shape (t + 1) (record { pairs = counts.pairs + row.pairs; separated = counts.separated + row.separated })
row_counted shape t counts row inside so_far in_row =
    let next : t + 1 ≡ suc t = omega arith in
    record {
      pairs = rw next (one_row t counts.pairs row.pairs so_far.pairs in_row.pairs);
      separated = rw next (one_row t counts.separated row.separated so_far.separated in_row.separated);
      few_pairs = let few = so_far.few_pairs in let most = in_row.few_pairs in omega arith;
      few_separated = let few = so_far.few_separated in let most = in_row.few_separated in omega arith;
    }

-- nothing was counted yet
pub none_with : (shape : Shape) (t : ℕ) → AreCountsWith shape t 0 (record { pairs = 0; separated = 0 })
none_with shape t = record { pairs = no_number; separated = no_number; few_pairs = omega arith; few_separated = omega arith }

pub none_below : (shape : Shape) → AreCountsBelow shape 0 (record { pairs = 0; separated = 0 })
none_below shape = record { pairs = no_pair; separated = no_pair; few_pairs = omega arith; few_separated = omega arith }
