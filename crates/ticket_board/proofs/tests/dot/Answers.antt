use Rattle.std.proofs.Common.{refl}
use Rattle.board.proofs.Laws.{dot_sound}
use Rattle.ticket_board.proofs.tests.dot.Goals as goal

pub bars_of-requires : goal.bars_of-requires
bars_of-requires c = dot_sound _ (record { vertices = refl; pieces = c.new-pieces.ensures })
