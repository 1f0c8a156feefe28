use Rattle.separation.proofs.EndLemmas.{room_for_all}
use Rattle.separation.proofs.splitting.splitting_pair.Goals as goal

pub splitting_in-requires-2-clause-room : goal.splitting_in-requires-2-clause-room
splitting_in-requires-2-clause-room c =
    room_for_all c.args.bars.now 1000 c.shape-small.ensures.sound.drawable c.shape-small.ensures.sound.few_vertices
