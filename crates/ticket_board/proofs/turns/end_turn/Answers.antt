use Rattle.std.proofs.Common.{ap, sym, ◌∙◌, subst}
use Rattle.ticket_board.specs.inner.Turns.{Adds}
use Rattle.ticket_board.proofs.turns.end_turn.Goals as goal

pub pass_on-requires-clause-full : goal.pass_on-requires-clause-full
pass_on-requires-clause-full g c κs within =
    let now = c.move_in.ensures.me in
    let view = ap (λ me. me.0) now in record {
      board = c.args.board;
      serves = record { stage = ap (λ view. view.stage) view ∙ c.requires.serves.stage; slot = ap (λ me. me.1) now };
      adds = subst (λ view. Adds view c.args.board) (sym view) c.requires.adds;
    }

pub into_badge-requires : goal.into_badge-requires
into_badge-requires g c = ap (λ me. me.1) (c.pass_on.ensures.me c.args.board (ap (λ me. me.1) c.move_in.ensures.me))
