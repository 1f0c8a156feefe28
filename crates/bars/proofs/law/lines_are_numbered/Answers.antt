use Rattle.bars.proofs.LineVertices.{least_of_joined, joined_from_least, least_below, least_joins}
use Rattle.bars.specs.Lines.{is_least}
use Rattle.bars.proofs.LineNumbers.{line_below, line_taken, lines_in_order}
use Rattle.bars.proofs.LineNumbers.{count_below_bound}
use Rattle.bars.proofs.LineEnds.{number_from_in_line, in_line_from_number}
use Rattle.bars.proofs.law.lines_are_numbered.Goals as goal

pub returns-clause-by_least : goal.returns-clause-by_least
returns-clause-by_least c = λ axis shape v w. (least_of_joined axis shape v w, joined_from_least axis shape v w)

pub returns-clause-by_number : goal.returns-clause-by_number
returns-clause-by_number c = λ axis shape v w. (number_from_in_line axis shape v w, in_line_from_number axis shape v w)

pub returns-clause-least : goal.returns-clause-least
returns-clause-least c = λ axis shape v. least_below axis shape v

pub returns-clause-of_line : goal.returns-clause-of_line
returns-clause-of_line c = λ axis shape v. least_joins axis shape v

pub returns-clause-in_order : goal.returns-clause-in_order
returns-clause-in_order c = λ axis shape v w. lines_in_order axis shape v w

pub returns-clause-below : goal.returns-clause-below
returns-clause-below c = λ axis shape v within. line_below axis shape v within

pub returns-clause-taken : goal.returns-clause-taken
returns-clause-taken c = λ axis shape line within. (let taken = line_taken axis shape line within in (taken.0, taken.1, taken.3))

pub returns-clause-few : goal.returns-clause-few
returns-clause-few c = λ axis shape. count_below_bound (is_least axis shape) shape.plan.vertices
