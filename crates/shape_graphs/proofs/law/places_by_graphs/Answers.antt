use Rattle.shape_graphs.proofs.NumbersFromPlaces.{graphs_from_solves, solves_from_graphs}
use Rattle.shape_graphs.proofs.PlacesFromNumbers.{no_cycle_where_solved, solved_without_cycle}
use Rattle.shape_graphs.proofs.law.places_by_graphs.Goals as goal

pub returns-clause-solve : goal.returns-clause-solve
returns-clause-solve c = λ shape choices places drawing fit.
    (graphs_from_solves shape choices drawing fit places, solves_from_graphs shape choices drawing fit places)

pub returns-clause-some : goal.returns-clause-some
returns-clause-some c = λ shape choices drawing fit.
    (λ some. no_cycle_where_solved shape choices drawing fit some.0 some.1, solved_without_cycle shape choices drawing fit)
