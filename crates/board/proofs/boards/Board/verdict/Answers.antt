use Rattle.std.proofs.Common.{None, sym}
use Rattle.board.proofs.TableLemmas.{verdict_settled}
use Rattle.board.proofs.boards.Board.verdict.Goals as goal

pub returns-in-Some-clause-settled : goal.returns-in-Some-clause-settled
returns-in-Some-clause-settled g c =
    let lookup = c.in-Some.ensures.lookup in
    let inside = rw c.deref.ensures.value at lookup.3.0 in
    let found = rw c.deref.ensures.value at (lookup.3.1 None) in
    let told = verdict_settled g.P.Backing.objective g.P.Backing.backs _ c.args.id c.in-Some.verdict.now
    c.self.invariant.facts.kept inside (sym found) in
    rw (← c.self.view_is, c.as_ref.ensures.variant) told
