use Rattle.separation.proofs.EndLemmas.{room_for_all}
use Rattle.separation.proofs.sharing.sharing_pair.Goals as goal

pub returns-then-has_room : goal.returns-then-has_room
returns-then-has_room c = λ choices fit solves. c.sharing_in.ensures choices c.shape-small.ensures.sound.drawable solves

pub returns-then-has_room-2 : goal.returns-then-has_room-2
returns-then-has_room-2 c = λ choices fit solves. c.sharing_in-then-has_room-2.ensures choices c.shape-small.ensures.sound.drawable solves

pub returns-then-has_room-3 : goal.returns-then-has_room-3
returns-then-has_room-3 c = λ choices fit solves. c.sharing_in-then-has_room-3.ensures choices c.shape-small.ensures.sound.drawable solves

pub returns-then-has_room-4 : goal.returns-then-has_room-4
returns-then-has_room-4 c = λ choices fit solves. c.sharing_in-then-has_room-4.ensures choices c.shape-small.ensures.sound.drawable solves

pub sharing_in-requires-2-clause-room : goal.sharing_in-requires-2-clause-room
sharing_in-requires-2-clause-room c =
    room_for_all c.args.bars.now 1000 c.shape-small.ensures.sound.drawable c.shape-small.ensures.sound.few_vertices

pub returns : goal.returns
returns c = λ choices fit solves. c.sharing_in-2.ensures choices c.shape-small.ensures.sound.drawable solves
