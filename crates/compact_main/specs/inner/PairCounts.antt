-- Pairs of segments, counted so far.
use Rattle.std.specs.Prelude.{ℕ, ◌≤◌, ◌*◌}
use Rattle.compact_types.specs.declared.plan.Shape.{Shape}
use Rattle.compact_types.specs.declared.limits.TheConstants.{MOST_VERTICES}
use Rattle.bars.specs.Segments.{IsPair}
use Rattle.compact_main.specs.declared.pairs.PairCounts.{PairCounts}
use Rattle.compact_main.specs.Summaries.{IsCount, IsPairCount, IsSeparatedPair}

-- how many of the segments below n make a pair with t, and how many a separated pair
pub record AreCountsWith (shape : Shape) (t n : ℕ) (counts : PairCounts) : Type 0 where
  pub pairs : IsCount (λ s. IsPair shape s t) n counts.pairs
  pub separated : IsCount (λ s. IsSeparatedPair shape s t) n counts.separated
  pub few_pairs : counts.pairs ≤ n
  pub few_separated : counts.separated ≤ n

-- how many pairs there are of the segments below n, and how many separated pairs
pub record AreCountsBelow (shape : Shape) (n : ℕ) (counts : PairCounts) : Type 0 where
  pub pairs : IsPairCount (IsPair shape) n counts.pairs
  pub separated : IsPairCount (IsSeparatedPair shape) n counts.separated
  pub few_pairs : counts.pairs ≤ MOST_VERTICES * n
  pub few_separated : counts.separated ≤ MOST_VERTICES * n
