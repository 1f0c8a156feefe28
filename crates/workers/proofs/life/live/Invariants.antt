use Rattle.std.specs.Prelude.{IfSome}
use Rattle.workers.specs.inner.Lives.{IsLiving}
use Rattle.workers.specs.inner.Sharing.{IsReady}
use Rattle.workers.proofs.life.live.Given as goal

abbrev pub invariant-loop : goal.invariant-loop
invariant-loop g l =
    IsLiving l.fn.hand l.fn.start l.hand × IfSome l.kept (IsReady (g.M.Proof.Backing.backs l.fn.bars))
    × IfSome l.own (g.M.Workspace.Workspace.serves l.fn.bars)
