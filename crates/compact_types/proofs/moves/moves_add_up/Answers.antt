use Rattle.compact_types.proofs.MoveLemmas.{length-moved, place-moved, places_moved_back, places_moved_twice}
use Rattle.compact_types.proofs.moves.moves_add_up.Goals as goal

pub returns-clause-points : goal.returns-clause-points
returns-clause-points c = λ places dx dy. length-moved dx dy places.xy

pub returns-clause-each : goal.returns-clause-each
returns-clause-each c = λ places dx dy. place-moved dx dy places.xy

pub returns-clause-back : goal.returns-clause-back
returns-clause-back c = λ places dx dy. places_moved_back dx dy places

pub returns-clause-twice : goal.returns-clause-twice
returns-clause-twice c = λ places a b. λ d e. places_moved_twice a b d e places
