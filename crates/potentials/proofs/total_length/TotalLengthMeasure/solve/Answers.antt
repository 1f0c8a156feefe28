use Rattle.shape_graphs.proofs.Laws.{not_before_least}
use Rattle.compact_types.specs.Bests.Objective.{total_length}
use Rattle.potentials.proofs.LeastKeys.{some_least_key}
use Rattle.potentials.proofs.total_length.TotalLengthMeasure.solve.Goals as goal

pub returns-clause-has_least : goal.returns-clause-has_least
returns-clause-has_least c = some_least_key c.args.bars.now c.args.extension.now.choices c.solve_from.ensures.sound c.requires.fit

pub returns-clause-never_before : goal.returns-clause-never_before
returns-clause-never_before c = λ key places least drawing from_zero solves.
    not_before_least total_length c.args.bars.now c.args.extension.now.choices key places least solves from_zero
