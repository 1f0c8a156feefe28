use Rattle.std.proofs.Common.{ap, sym, ◌∙◌, Some, ◌∷◌}
use Rattle.atomic_table.specs.Table.{rest}
use Rattle.ticket_board.proofs.turns.move_out.Goals as goal

pub exchange-requires : goal.exchange-requires
exchange-requires g c =
    let slot = c.requires.full.1.slot in
    (c.requires.table, (Some c.requires.full.0, slot ∙ ap (λ held. (0, Some c.requires.full.0) ∷ rest held) (sym slot)))
