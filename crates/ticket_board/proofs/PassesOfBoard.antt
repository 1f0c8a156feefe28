-- A pass that belongs to a ticket board is of its table and shape.
use Rattle.std.proofs.Common.{◌≡◌, sym, ap, ◌∙◌}
use Rattle.atomic_table.specs.Seated.{TableId}
use Rattle.compact_types.specs.declared.plan.Shape.{Shape}
use Rattle.ticket_board.specs.declared.views.CallerView.{CallerView}
use Rattle.ticket_board.specs.Passes.{BoardHome, PassView}
use Rattle.ticket_board.specs.inner.Views.{pass_of}

pub same_table : (table here : TableId) (shape : Shape) (view : CallerView) (pass : PassView) (home : BoardHome) → pass_of table view ≡ pass → record { table = here; shape = shape } ≡ home → pass.home ≡ home → table ≡ here
same_table table here shape view pass home seen made belongs = ap (λ (pass : PassView). pass.home.table) seen ∙ ap (λ (home : BoardHome). home.table) (belongs ∙ sym made)
