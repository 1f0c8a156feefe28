use Rattle.std.proofs.Common.{ℕ, ◌<◌, List}
use Rattle.compact_types.specs.declared.search.Choice.{Choice}
use Rattle.shape_graphs.specs.Separation.{HasSidePath}
use Rattle.separation.specs.Reaching.{IsReachOf}
use Rattle.separation.proofs.sides.is_separated.Given as goal

-- no side before this one is kept
abbrev pub invariant-loop-side : goal.invariant-loop-side
invariant-loop-side l =
    (choices : List Choice) → IsReachOf l.bars choices l.reach → (k : ℕ) → k < l.side → HasSidePath l.bars choices l.s l.t k → ⊥
