use Rattle.std.proofs.Common.{◌∙◌, inl, inr, subst, sym}
use Rattle.std.specs.Prelude.{IfSome}
use Rattle.workers.specs.inner.Lives.{IsLiving}
use Rattle.workers.specs.inner.Sharing.{IsReady}
use Rattle.workers.proofs.HandLemmas.{ended_well, stopped_further}
use Rattle.workers.proofs.SharingLemmas.{err_has}
use Rattle.workers.proofs.StartLemmas.{begun_where_stopped, living_further, still_at}
use Rattle.workers.proofs.life.live.Goals as goal

pub has_heard-requires-after_bounds : goal.has_heard-requires-after_bounds
has_heard-requires-after_bounds g c κs within = (still_at _ _ c.args.hand.now c.loop.hand c.requires.at c.loop.invariant.0.going).seat

pub returns-then-has_heard-clause-begun : goal.returns-then-has_heard-clause-begun
returns-then-has_heard-clause-begun g c =
    (living_further c.args.hand.now c.loop.hand c.has_heard.new.hand c.args.start c.loop.invariant.0 c.has_heard.ensures.going).begun

pub returns-then-has_heard-clause-ended : goal.returns-then-has_heard-clause-ended
returns-then-has_heard-clause-ended g c =
    ended_well c.args.hand.now c.has_heard.new.hand
    (living_further c.args.hand.now c.loop.hand c.has_heard.new.hand c.args.start c.loop.invariant.0 c.has_heard.ensures.going).going
    (inr (sym c.has_heard.ensures.heard ∙ c.if-has_heard.true))

pub advance-requires-clause-at : goal.advance-requires-clause-at
advance-requires-clause-at g c κs within =
    let living : IsLiving c.args.hand.now c.args.start c.next_branch.new.hand =
    living_further c.args.hand.now c.has_heard.new.hand c.next_branch.new.hand c.args.start
    (living_further c.args.hand.now c.loop.hand c.has_heard.new.hand c.args.start c.loop.invariant.0 c.has_heard.ensures.going)
    c.next_branch.ensures.going in
    still_at _ _ c.args.hand.now c.next_branch.new.hand c.requires.at living.going

pub advance-requires-clause-ready : goal.advance-requires-clause-ready
advance-requires-clause-ready g c κs within =
    subst (λ next. IfSome next (IsReady (g.M.Proof.Backing.backs c.args.bars.now))) c.in-Some-next_branch.is
    (c.next_branch.ensures.ready c.args.bars.now c.loop.invariant.1)

pub returns-in_err-kept-in-Some-next_branch-clause-begun : goal.returns-in_err-kept-in-Some-next_branch-clause-begun
returns-in_err-kept-in-Some-next_branch-clause-begun g c =
    let living : IsLiving c.args.hand.now c.args.start c.next_branch.new.hand =
    living_further c.args.hand.now c.has_heard.new.hand c.next_branch.new.hand c.args.start
    (living_further c.args.hand.now c.loop.hand c.has_heard.new.hand c.args.start c.loop.invariant.0 c.has_heard.ensures.going)
    c.next_branch.ensures.going in
    begun_where_stopped c.args.hand.now c.next_branch.new.hand c.advance.new.hand c.args.start living
    c.in_err-kept-in-Some-next_branch.ensures.stopped

pub returns-in_err-kept-in-Some-next_branch-clause-stopped : goal.returns-in_err-kept-in-Some-next_branch-clause-stopped
returns-in_err-kept-in-Some-next_branch-clause-stopped g c =
    let living : IsLiving c.args.hand.now c.args.start c.next_branch.new.hand =
    living_further c.args.hand.now c.has_heard.new.hand c.next_branch.new.hand c.args.start
    (living_further c.args.hand.now c.loop.hand c.has_heard.new.hand c.args.start c.loop.invariant.0 c.has_heard.ensures.going)
    c.next_branch.ensures.going in
    err_has c.from_residual-in_err-kept-in-Some-next_branch.result
    (stopped_further c.args.hand.now c.next_branch.new.hand c.advance.new.hand living.going c.in_err-kept-in-Some-next_branch.ensures.stopped)

pub is_done-requires-after_bounds : goal.is_done-requires-after_bounds
is_done-requires-after_bounds g c κs within =
    let living : IsLiving c.args.hand.now c.args.start c.next_branch.new.hand =
    living_further c.args.hand.now c.has_heard.new.hand c.next_branch.new.hand c.args.start
    (living_further c.args.hand.now c.loop.hand c.has_heard.new.hand c.args.start c.loop.invariant.0 c.has_heard.ensures.going)
    c.next_branch.ensures.going in
    (still_at _ _ c.args.hand.now c.next_branch.new.hand c.requires.at living.going).pass

pub returns-then-is_done-clause-begun : goal.returns-then-is_done-clause-begun
returns-then-is_done-clause-begun g c =
    let living : IsLiving c.args.hand.now c.args.start c.next_branch.new.hand =
    living_further c.args.hand.now c.has_heard.new.hand c.next_branch.new.hand c.args.start
    (living_further c.args.hand.now c.loop.hand c.has_heard.new.hand c.args.start c.loop.invariant.0 c.has_heard.ensures.going)
    c.next_branch.ensures.going in
    (living_further c.args.hand.now c.next_branch.new.hand c.is_done.new.hand c.args.start living c.is_done.ensures.going).begun

pub returns-then-is_done-clause-ended : goal.returns-then-is_done-clause-ended
returns-then-is_done-clause-ended g c =
    let living : IsLiving c.args.hand.now c.args.start c.next_branch.new.hand =
    living_further c.args.hand.now c.has_heard.new.hand c.next_branch.new.hand c.args.start
    (living_further c.args.hand.now c.loop.hand c.has_heard.new.hand c.args.start c.loop.invariant.0 c.has_heard.ensures.going)
    c.next_branch.ensures.going in
    ended_well c.args.hand.now c.is_done.new.hand
    (living_further c.args.hand.now c.next_branch.new.hand c.is_done.new.hand c.args.start living c.is_done.ensures.going).going
    (inl (c.is_done.ensures.done c.if-is_done.true))

pub loop-preserved-in-Some-next_branch : goal.loop-preserved-in-Some-next_branch
loop-preserved-in-Some-next_branch g c =
    let living : IsLiving c.args.hand.now c.args.start c.next_branch.new.hand =
    living_further c.args.hand.now c.has_heard.new.hand c.next_branch.new.hand c.args.start
    (living_further c.args.hand.now c.loop.hand c.has_heard.new.hand c.args.start c.loop.invariant.0 c.has_heard.ensures.going)
    c.next_branch.ensures.going in (
      living_further c.args.hand.now c.next_branch.new.hand c.advance.new.hand c.args.start living
          c.in_ok-kept-in-Some-next_branch.ensures.going,
      c.in_ok-kept-in-Some-next_branch.ensures.ready,
      c.advance.ensures.serves,
    )

pub loop-preserved : goal.loop-preserved
loop-preserved g c =
    let living : IsLiving c.args.hand.now c.args.start c.next_branch.new.hand =
    living_further c.args.hand.now c.has_heard.new.hand c.next_branch.new.hand c.args.start
    (living_further c.args.hand.now c.loop.hand c.has_heard.new.hand c.args.start c.loop.invariant.0 c.has_heard.ensures.going)
    c.next_branch.ensures.going in
    (living_further c.args.hand.now c.next_branch.new.hand c.is_done.new.hand c.args.start living c.is_done.ensures.going, tt, c.loop.invariant.2)
