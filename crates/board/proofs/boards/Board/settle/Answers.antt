use Rattle.std.proofs.Common.{◌≡◌, sym, ◌∙◌}
use Rattle.board.specs.declared.standings.Standing.TheVariants.{Held}
use Rattle.board.specs.Boards.{board_state}
use Rattle.board.specs.Histories.{standing_of}
use Rattle.board.proofs.StackLemmas.{waits_below}
use Rattle.board.proofs.boards.Board.settle.Goals as goal

pub record-requires-after_bounds : goal.record-requires-after_bounds
record-requires-after_bounds g c κs within =
    let stands : c.standing_of.result ≡ Held c.args.who = c.is_held_by.ensures.0 c.if-not-is_held_by.false in
    let here : standing_of c.self.inside.branches c.args.id ≡ Held c.args.who = sym c.standing_of.ensures ∙ stands in
    let shown : standing_of (board_state c.args.self.now) c.args.id ≡ Held c.args.who =
    rw (← c.self.view_is, ← c.self.invariant.state) here in
    let below = waits_below _ c.args.id (Held c.args.who) shown (λ e. cc) in
    record {
      caller = c.requires.who;
      held = shown;
      sound = c.requires.verdict below;
      pair = c.args.pair;
      pair_for = c.requires.pair below;
      outcome = c.outcome_of-what.ensures;
    }
