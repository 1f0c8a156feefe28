use Rattle.board.proofs.ChainLemmas.{parents_with, lists_with}
use Rattle.board.proofs.chains.Chains.split.Goals as goal

pub invariant_of-self-2 : goal.invariant_of-self-2
invariant_of-self-2 c =
    rw c.in_ok-push.ensures.items
    (parents_with _ _ c.self.invariant (rw (← c.self.view_is) at c.requires))

pub returns-clause-ok : goal.returns-clause-ok
returns-clause-ok c =
    rw (c.in_ok-push.ensures.items, ← c.self.view_is)
    (lists_with c.self.inside.forks.items (record { parent = c.args.parent; s = c.args.s; t = c.args.t }))
