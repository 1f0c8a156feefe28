use Rattle.std.proofs.Common.{ℕ, ◌<◌, List}
use Rattle.compact_types.specs.declared.search.Choice.{Choice}
use Rattle.bars.specs.Segments.{IsPair}
use Rattle.shape_graphs.specs.Separation.{IsSeparated}
use Rattle.separation.specs.Reaching.{IsReachOf}
use Rattle.separation.proofs.complete.is_apart_from_lesser.Given as goal

-- the pairs so far are separated
abbrev pub invariant-loop-s : goal.invariant-loop-s
invariant-loop-s l =
    (choices : List Choice) → IsReachOf l.bars choices l.reach → (k : ℕ) → k < l.s → IsPair l.bars k l.t → IsSeparated l.bars choices k l.t
