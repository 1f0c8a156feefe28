use Rattle.std.proofs.Common.{arith}
use Rattle.std.proofs.lemmas.List.{get_or_read}
use Rattle.diff_flow.specs.inner.Steps.{step_at}
use Rattle.diff_flow.proofs.StepLemmas.{rows_more}
use Rattle.diff_flow.proofs.steps.rows_of.Goals as goal

pub loop-k-preserved : goal.loop-k-preserved
loop-k-preserved c =
    let from_in = c.requires.inside c.loop-k.k c.loop-k-test.true in
    let item = c.in_ok-push.ensures.items in
    let value = get_or_read c.loop-k.last.items (step_at c.args.list.now c.loop-k.k).from c.index-was.result.now
    (omega (arith, from_in, c.loop-k.invariant.last_for_each)) c.index-was.ensures 0 in
    rw (item, value) (rows_more c.args.nodes c.loop-k.k c.args.list.now c.loop-k.last.items c.loop-k.before.items c.loop-k.invariant from_in)
