use Rattle.std.proofs.Common.{◌-◌, length, arith}
use Rattle.cert_text.proofs.ReadHeads.{last_head_is, no_head}
use Rattle.cert_text.proofs.reading.heads.last_head.Goals as goal

pub returns-then-is_head-clause-last : goal.returns-then-is_head-clause-last
returns-then-is_head-clause-last c =
    last_head_is c.args.text.now (length c.args.text.now - c.loop-step.step) _ c.loop-step.invariant
    (omega arith) (c.is_head.ensures.0 c.if-is_head.true)

pub returns-clause-last : goal.returns-clause-last
returns-clause-last c =
    no_head c.args.text.now (length c.args.text.now - c.loop-step.step) c.loop-step.invariant
    (omega arith)
