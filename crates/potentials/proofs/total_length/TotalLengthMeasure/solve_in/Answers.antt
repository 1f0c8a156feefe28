use Rattle.potentials.proofs.LeastKeys.{some_least_key}
use Rattle.potentials.proofs.total_length.TotalLengthMeasure.solve_in.Goals as goal

pub returns-clause-has_least : goal.returns-clause-has_least
returns-clause-has_least c = some_least_key c.args.bars.now c.args.extension.now.choices c.solve_with.ensures.sound c.requires.fit
