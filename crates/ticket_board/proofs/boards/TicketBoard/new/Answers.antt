use Rattle.std.proofs.Common.{◌+◌, ◌++◌, ◌∷◌, ap, sym, subst, ◌∙◌, [], Some}
use Rattle.atomic_table.specs.Table.{opening}
use Rattle.ticket_board.specs.inner.Dealing.{IsFounded}
use Rattle.ticket_board.specs.inner.Rules.{KeepsTicketRule}
use Rattle.ticket_board.specs.inner.Views.{first_view}
use Rattle.ticket_board.proofs.DealtSeats.{opens}
use Rattle.ticket_board.proofs.NewPasses.{founds}
use Rattle.ticket_board.proofs.boards.TicketBoard.new.Goals as goal

pub new-requires : goal.new-requires
new-requires g c =
    let start = c.of.result.value in
    let first = c.given-first.result + 1 in
    let facts = c.given-first.ensures.facts in
    let founded = subst (λ given. IsFounded start (given + 1) c.args.callers) (sym c.given-first.ensures.given)
    (founds c.args.board start c.args.callers (c.of.ensures ∙ c.enlist.ensures) facts.legal facts.callers c.requires.some c.requires.few) in
    let items = c.push_reserved.ensures.items ∙ ap (λ slots. slots ++ Some c.enlist.new.board ∷ []) c.in_ok-slots.ensures.items ∙ ap (λ board. Some board ∷ []) (sym c.of.ensures) in
    subst (λ slots. KeepsTicketRule start first (opening (0 ∷ 0 ∷ []) slots (first_view start first))) (sym items) (opens start first c.args.callers founded)

pub deal-requires-clause-founded : goal.deal-requires-clause-founded
deal-requires-clause-founded g c κs within =
    let start = c.of.result.value in
    let facts = c.given-first.ensures.facts in
    let founded = subst (λ given. IsFounded start (given + 1) c.args.callers) (sym c.given-first.ensures.given)
    (founds c.args.board start c.args.callers (c.of.ensures ∙ c.enlist.ensures) facts.legal facts.callers c.requires.some c.requires.few) in
    subst (λ key. IsFounded key.board.value (c.given-first.result + 1) c.args.callers) (sym c.in-Ok.ensures.ok.5) founded
