use Rattle.diff_flow.proofs.LabelLemmas.{waits_pushed}
use Rattle.diff_flow.proofs.LengthenLemmas.{out_of_pushed}
use Rattle.diff_flow.proofs.labels.wait.Goals as goal

pub returns-in_ok-push_back-clause-waits : goal.returns-in_ok-push_back-clause-waits
returns-in_ok-push_back-clause-waits c =
    rw c.in_ok-push_back.ensures.items (waits_pushed c.args.node c.args.waits.now c.args.queue.now.items c.requires.node c.requires.lists)

pub returns-in_ok-push_back-clause-only : goal.returns-in_ok-push_back-clause-only
returns-in_ok-push_back-clause-only c = rw c.in_ok-push_back.ensures.items (out_of_pushed c.args.queue.now.items c.args.node)
