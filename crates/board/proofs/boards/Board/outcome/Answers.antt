use Rattle.board.proofs.ParentLaws.{numbers_fit}
use Rattle.board.proofs.boards.Board.outcome.Goals as goal

pub returns-clause-children_fit : goal.returns-clause-children_fit
returns-clause-children_fit g c = λ first s t is.
    numbers_fit c.self.inside.entries.items c.self.inside.branches c.args.id first s t _ c.outcome.result c.self.invariant.facts.legal
    c.self.invariant.state c.outcome.ensures.outcome is c.outcome.ensures.few
