use Rattle.std.proofs.Common.{◌≡◌, ◌+◌, length}
use Rattle.std.specs.Prelude.{All}
use Rattle.workers.specs.inner.Lives.{AreDesksAt}
use Rattle.workers.proofs.crews.desks_of.Given as goal

abbrev pub invariant-loop-pass : goal.invariant-loop-pass
invariant-loop-pass g l =
    All (λ pass. pass.home ≡ l.board) l.passes × AreDesksAt l.board l.word l.desks × (l.seat.home ≡ l.word) × (length l.desks + length l.passes ≡ length l.fn.passes)

abbrev pub decreases-loop-pass : goal.decreases-loop-pass
decreases-loop-pass g l = length l.passes
