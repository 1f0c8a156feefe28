use Rattle.std.proofs.Common.{sym, append-nil, arith}
use Rattle.board.specs.declared.entries.Settled.TheVariants.{Closed}
use Rattle.board.proofs.TableLemmas.{closed_keeps, kept_roomier, kept_settled}
use Rattle.board.proofs.boards.Board.close.Goals as goal

pub invariant_of-self : goal.invariant_of-self
invariant_of-self g c =
    let settling = rw (← c.self.view_is) at c.requires in
    let enough = c.self.invariant.room_left in
    let long = c.push_settled.ensures.len in
    let full = c.push_settled.ensures.capacity in
    rw (c.finish.ensures, c.push_settled.ensures.items)
    (kept_roomier _ _ _ _ _ _
    (kept_settled g.P.Backing.objective g.P.Backing.backs _ c.self.inside.branches _ c.args.who c.args.id c.args.verdict
    Closed c.self.inside.incumbent _ c.self.invariant settling (omega (arith, enough)) (closed_keeps _ _) (sym (append-nil _)))
    (omega (arith, long, full)))
