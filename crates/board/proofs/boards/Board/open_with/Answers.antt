use Rattle.std.proofs.Common.{arith}
use Rattle.board.proofs.TableLemmas.{kept_opened}
use Rattle.board.proofs.boards.Board.open_with.Goals as goal

pub invariant_of-result : goal.invariant_of-result
invariant_of-result g c =
    let exact = c.in_ok-entries.ensures.exact in
    let long = c.in_ok-entries.ensures.len in
    rw (
      c.in_ok-copy.ensures,
      c.shape.ensures.shape,
      c.in_ok-entries.ensures.items,
      c.in_ok-push.ensures.items,
      c.new-verdicts.ensures.items,
      c.in_ok-branches.ensures,
    )
    (kept_opened g.P.Backing.objective g.P.Backing.backs c.args.bars.now c.args.key _ c.shape.ensures.sound c.requires
    (omega (arith, exact, long)))
