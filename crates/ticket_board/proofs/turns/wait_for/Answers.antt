use Rattle.std.proofs.Common.{arith, ◌%◌, ◌^◌, ◌∙◌, ap, sym, subst}
use Rattle.ticket_board.specs.inner.Plays.{IsServed}
use Rattle.ticket_board.proofs.ServedTickets.{watches}
use Rattle.ticket_board.proofs.turns.wait_for.Goals as goal

pub load-requires : goal.load-requires
load-requires g c =
    let words = c.requires.sized.0 in
    let me = c.loop.invariant.1 in (
      c.loop.invariant.0 ∙ c.requires.table,
      omega (arith, words),
      watches c.args.desk.now.key.board.value c.args.desk.now.key.first _ _ _ (ap (λ me. me.0.stage) me ∙ c.requires.waits),
    )

pub returns-then-load-ticket-clause-served : goal.returns-then-load-ticket-clause-served
returns-then-load-ticket-clause-served g c =
    let me = c.loop.invariant.1 in
    subst (λ before. IsServed before c.load.new.seat.me) me
    (c.load.ensures.2.0 (c.if-load-ticket.true ∙ c.requires.ticket ∙ ap (λ me. me.0.ticket % 2 ^ 64) (sym me)))

pub loop-preserved : goal.loop-preserved
loop-preserved g c =
    let me = c.loop.invariant.1 in (
      c.load.ensures.0 ∙ c.loop.invariant.0,
      c.load.ensures.2.1 (λ found. c.if-load-ticket.false (found ∙ ap (λ me. me.0.ticket % 2 ^ 64) me ∙ sym c.requires.ticket)) ∙ me,
    )
