use Rattle.bars.proofs.LineOrder.{low_is_low, high_is_high}
use Rattle.bars.proofs.NodeBounds.{low_below, high_below}
use Rattle.bars.proofs.law.nodes_are_ends.Goals as goal

pub returns-clause-low : goal.returns-clause-low
returns-clause-low c = λ axis shape places s drawing ways within. low_is_low shape s within drawing axis places ways

pub returns-clause-high : goal.returns-clause-high
returns-clause-high c = λ axis shape places s drawing ways within. high_is_high shape s within drawing axis places ways

pub returns-clause-low_below : goal.returns-clause-low_below
returns-clause-low_below c = λ axis shape s within. low_below axis shape s within

pub returns-clause-high_below : goal.returns-clause-high_below
returns-clause-high_below c = λ axis shape s within. high_below axis shape s within
