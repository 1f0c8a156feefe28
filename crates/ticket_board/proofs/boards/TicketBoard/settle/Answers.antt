use Rattle.std.proofs.Common.{◌≡◌, ap, sym, subst, ◌∙◌}
use Rattle.std.specs.Prelude.{MatchResult}
use Rattle.board.specs.Boards.{after_settle}
use Rattle.board.specs.Histories.{IsHeldBy, IsLegal}
use Rattle.board.specs.Boards.{board_state}
use Rattle.ticket_board.specs.Passes.{entries_by}
use Rattle.ticket_board.proofs.AddedEntries.{goes_back}
use Rattle.ticket_board.proofs.AnsweredTurns.{answers_settle, ends, held_there, knows, more, pair_there, same_choices, verdict_there}
use Rattle.ticket_board.proofs.boards.TicketBoard.settle.Goals as goal

pub settle_held-settled-requires-clause-held : goal.settle_held-settled-requires-clause-held
settle_held-settled-requires-clause-held g c κs within =
    let begun = c.begin_turn-seat.ensures in
    let old = c.args.pass.now in
    let number = c.pass.invariant.same ∙ ap (λ pass. pass.number) c.pass.view_is in
    let known = knows g.P.Backing.objective g.P.Backing.backs _ _ _ old c.pass.view_is begun.its begun.facts in
    subst (λ number. IsHeldBy (board_state c.begin_turn-seat.result.1) c.args.id number) (sym number) (held_there g.P.Backing.objective g.P.Backing.backs old _ c.args.id known c.requires.holds)

pub settle_held-settled-requires-clause-verdict : goal.settle_held-settled-requires-clause-verdict
settle_held-settled-requires-clause-verdict g c κs within =
    let begun = c.begin_turn-seat.ensures in
    let old = c.args.pass.now in
    let rests = c.pass.invariant.rests in
    let seen = c.pass.view_is in
    let known = knows g.P.Backing.objective g.P.Backing.backs _ _ _ old seen begun.its begun.facts in
    let same = same_choices g.P.Backing.objective g.P.Backing.backs old _ c.args.id known (subst IsLegal (ap (λ pass. pass.seen) seen) rests.legal)
    (subst (λ pass. entries_by pass.number pass.seen ≡ pass.mine) seen rests.own) c.requires.holds in
    verdict_there g.P.Backing.objective g.P.Backing.backs old _ c.args.id c.args.verdict known same c.requires.verdict

pub settle_held-settled-requires-clause-pair : goal.settle_held-settled-requires-clause-pair
settle_held-settled-requires-clause-pair g c κs within =
    let begun = c.begin_turn-seat.ensures in
    let old = c.args.pass.now in
    let rests = c.pass.invariant.rests in
    let seen = c.pass.view_is in
    let known = knows g.P.Backing.objective g.P.Backing.backs _ _ _ old seen begun.its begun.facts in
    let same = same_choices g.P.Backing.objective g.P.Backing.backs old _ c.args.id known (subst IsLegal (ap (λ pass. pass.seen) seen) rests.legal)
    (subst (λ pass. entries_by pass.number pass.seen ≡ pass.mine) seen rests.own) c.requires.holds in
    pair_there g.P.Backing.objective g.P.Backing.backs old _ c.args.id c.args.verdict c.args.pair known same c.requires.pair

pub end_turn-requires-clause-adds : goal.end_turn-requires-clause-adds
end_turn-requires-clause-adds g c κs within =
    goes_back _ _ _ _ _ c.begin_turn-seat.ensures.taken c.begin_turn-seat.ensures.its c.pass.invariant.same c.settle_held-settled.ensures.adds

pub returns-clause-more : goal.returns-clause-more
returns-clause-more g c =
    let begun = c.begin_turn-seat.ensures in
    let old = c.args.pass.now in
    more g.P.Backing.objective g.P.Backing.backs _ old _ _ c.settle_held-settled.new.board
    (ends _ _ _ _ _ _ _ old c.pass.view_is begun.taken (c.end_turn.ensures.table ∙ begun.table) c.end_turn.ensures.views)
    (knows g.P.Backing.objective g.P.Backing.backs _ _ _ old c.pass.view_is begun.its begun.facts) c.settle_held-settled.ensures.adds c.end_turn.ensures.legal

pub returns-clause-answer : goal.returns-clause-answer
returns-clause-answer g c =
    let begun = c.begin_turn-seat.ensures in
    let settled = c.settle_held-settled in
    let old = c.args.pass.now in
    let number = c.pass.invariant.same ∙ ap (λ pass. pass.number) c.pass.view_is in
    answers_settle g.P.Backing.objective g.P.Backing.backs old _ c.begin_turn-seat.result.1 settled.new.board c.args.id c.args.verdict c.args.pair settled.result
    (ends _ _ _ _ _ _ _ old c.pass.view_is begun.taken (c.end_turn.ensures.table ∙ begun.table) c.end_turn.ensures.views)
    (knows g.P.Backing.objective g.P.Backing.backs _ _ _ old c.pass.view_is begun.its begun.facts)
    c.requires.holds
    settled.ensures.outcome
    settled.ensures.fit
    (subst (λ number. MatchResult settled.result (λ what. settled.new.board ≡ after_settle c.begin_turn-seat.result.1 number c.args.id c.args.verdict what)
    (λ refused. settled.new.board ≡ c.begin_turn-seat.result.1)) number settled.ensures.board)
