use Rattle.std.proofs.Common.{arith}
use Rattle.shape_graphs.proofs.Laws.{fit_more}
use Rattle.cert_check.proofs.BranchLemmas.{at_pushed}
use Rattle.cert_check.proofs.walk.split.Goals as goal

pub push-requires-clause-fit : goal.push-requires-clause-fit
push-requires-clause-fit c =
    fit_more c.args.bars.now c.args.branch.now.choices _ c.requires.at.grown.fit c.requires.room
    (record { pair = c.is_pair.ensures.0 c.if-not-is_pair.false; side = omega arith })

pub returns-clause-at : goal.returns-clause-at
returns-clause-at c =
    at_pushed c.args.bars.now c.args.branch.now c.push.new.self (record { s = c.args.s; t = c.args.t; side = 0 }) c.requires.at c.in_ok-push.ensures.grown
    c.in_ok-push.ensures.amounts
