use Rattle.std.proofs.Common.{ℕ, ◌<◌, List}
use Rattle.compact_types.specs.declared.search.Choice.{Choice}
use Rattle.bars.specs.Segments.{IsPair}
use Rattle.shape_graphs.specs.Separation.{IsSeparated}
use Rattle.separation.specs.Reaching.{IsReachOf}
use Rattle.separation.proofs.complete.is_complete.Given as goal

-- the pairs so far are separated
abbrev pub invariant-loop-t : goal.invariant-loop-t
invariant-loop-t l =
    (choices : List Choice) → IsReachOf l.bars choices l.reach → (s k : ℕ) → k < l.t → IsPair l.bars s k → IsSeparated l.bars choices s k
