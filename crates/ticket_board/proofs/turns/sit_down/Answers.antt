use Rattle.std.proofs.Common.{◌∙◌, ap}
use Rattle.ticket_board.specs.inner.Views.{view_in}
use Rattle.ticket_board.proofs.turns.sit_down.Goals as goal

pub into_seat-requires : goal.into_seat-requires
into_seat-requires g c = (view_in c.args.badge.now.views, ap (λ badge. badge.views) c.replace.ensures.value ∙ c.requires)
