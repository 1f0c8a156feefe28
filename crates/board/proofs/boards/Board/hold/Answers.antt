use Rattle.std.proofs.Common.{arith}
use Rattle.board.proofs.TableLemmas.{kept_claimed, kept_roomier}
use Rattle.board.proofs.boards.Board.hold.Goals as goal

pub invariant_of-self : goal.invariant_of-self
invariant_of-self g c =
    let caller = rw (← c.self.view_is) at c.requires.caller in
    let waits = rw (← c.self.view_is) at c.requires.waits in
    let long = c.push_reserved.ensures.len in
    let full = c.push_reserved.ensures.capacity in
    rw (c.hold.ensures, c.push_reserved.ensures.items)
    (kept_roomier _ _ _ _ _ _
    (kept_claimed g.P.Backing.objective g.P.Backing.backs _ c.self.inside.branches _ c.args.who c.args.id c.self.invariant caller waits)
    (omega (arith, long, full)))
