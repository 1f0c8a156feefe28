use Rattle.workers.proofs.EndLemmas.{all_settled}
use Rattle.workers.proofs.turns.settle_all.Goals as goal

pub returns-clause-settled : goal.returns-clause-settled
returns-clause-settled g c =
    all_settled c.args.bars.now c.args.who c.loop-branch.board c.in_ok-branch.field-0 c.loop-branch.invariant.0 c.in_ok-branch.ensures.latest c.in_default.is
