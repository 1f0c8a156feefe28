use Rattle.std.proofs.Common.{◌∙◌}
use Rattle.workers.proofs.EndLemmas.{best_at_end, ended}
use Rattle.workers.proofs.alone.answer.Goals as goal

pub returns-clause-best : goal.returns-clause-best
returns-clause-best g c =
    best_at_end g.P.Backing.objective g.P.Backing.backs c.args.bars.now c.in_ok-key.key c.args.board c.requires c.best.ensures.facts
    (c.in_ok-key.ensures ∙ c.best.ensures.key)

pub returns-clause-board : goal.returns-clause-board
returns-clause-board g c =
    ended g.P.Backing.objective g.P.Backing.backs c.args.bars.now c.in_ok-key.key c.args.board c.requires c.best.ensures.facts
    (c.in_ok-key.ensures ∙ c.best.ensures.key)
