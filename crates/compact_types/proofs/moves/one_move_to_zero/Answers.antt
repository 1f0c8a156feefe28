use Rattle.compact_types.proofs.MoveLemmas.{some_from_zero, one_shift, one_from_zero}
use Rattle.compact_types.proofs.moves.one_move_to_zero.Goals as goal

pub returns-clause-some : goal.returns-clause-some
returns-clause-some c = some_from_zero

pub returns-clause-one : goal.returns-clause-one
returns-clause-one c = one_shift

pub returns-clause-same : goal.returns-clause-same
returns-clause-same c = one_from_zero
