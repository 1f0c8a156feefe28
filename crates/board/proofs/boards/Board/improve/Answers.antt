use Rattle.std.proofs.Common.{sym, append-nil, arith}
use Rattle.board.specs.declared.entries.Settled.TheVariants.{Improved}
use Rattle.board.proofs.TableLemmas.{improved_by_least, kept_roomier, kept_settled, room_for_settle}
use Rattle.board.proofs.boards.Board.improve.Goals as goal

pub improving_key-requires-after_bounds : goal.improving_key-requires-after_bounds
improving_key-requires-after_bounds g c κs within =
    improved_by_least g.P.Backing.objective g.P.Backing.backs _ c.args.who c.args.id c.args.verdict c.requires

pub push_settled-requires : goal.push_settled-requires
push_settled-requires g c =
    let settling = rw (← c.self.view_is) at c.requires in
    let room = room_for_settle g.P.Backing.objective g.P.Backing.backs _ c.self.inside.branches _ c.args.who c.args.id c.self.invariant
    (rw c.self.invariant.state settling.held) in
    omega (arith, room)

pub invariant_of-self : goal.invariant_of-self
invariant_of-self g c =
    let settling = rw (← c.self.view_is) at c.requires in
    let best = c.in_ok-key.ensures c.self.inside.incumbent in
    let enough = c.self.invariant.room_left in
    let long = c.push_settled.ensures.len in
    let full = c.push_settled.ensures.capacity in
    rw (c.finish.ensures, c.push_settled.ensures.items)
    (kept_roomier _ _ _ _ _ _
    (kept_settled g.P.Backing.objective g.P.Backing.backs _ c.self.inside.branches _ c.args.who c.args.id c.args.verdict
    Improved c.in_ok-key.key _ c.self.invariant settling (omega (arith, enough)) best (sym (append-nil _)))
    (omega (arith, long, full)))
