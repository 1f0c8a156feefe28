use Rattle.steal_lanes.proofs.LawLemmas.{got_by_one, no_other_place}
use Rattle.steal_lanes.proofs.law.places_are_got_once.Goals as goal

pub returns-clause-one : goal.returns-clause-one
returns-clause-one c = got_by_one

pub returns-clause-no_other : goal.returns-clause-no_other
returns-clause-no_other c = no_other_place
