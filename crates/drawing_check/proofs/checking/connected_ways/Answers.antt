use Rattle.drawing_check.proofs.ShapeLemmas.{ways_found}
use Rattle.drawing_check.proofs.checking.connected_ways.Goals as goal

pub returns-in-Some-2-clause-fault : goal.returns-in-Some-2-clause-fault
returns-in-Some-2-clause-fault c =
    (ways_found c.args.plan.now c.args.places.now _ c.in_ok-ways.ensures.ways, rw c.in-Some-2.is at c.in_ok-vertex.ensures)

pub returns-clause-connected : goal.returns-clause-connected
returns-clause-connected c = rw c.in_default-2.is at c.in_ok-vertex.ensures
