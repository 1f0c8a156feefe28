use Rattle.separation.proofs.EndLemmas.{room_for_all}
use Rattle.separation.proofs.branching.branch_pair.Goals as goal

pub pair_in-requires-2-clause-room : goal.pair_in-requires-2-clause-room
pair_in-requires-2-clause-room c =
    room_for_all c.args.bars.now 1000 c.shape-small.ensures.sound.drawable c.shape-small.ensures.sound.few_vertices
