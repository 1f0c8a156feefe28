use Rattle.bars.proofs.LinePositions.{level_line}
use Rattle.bars.proofs.LineOrder.{strict_order, first_stands, last_stands}
use Rattle.bars.proofs.law.lines_stand_in_order.Goals as goal

pub returns-clause-level : goal.returns-clause-level
returns-clause-level c = λ axis shape places v w ways in_line. level_line axis shape places ways v w in_line

pub returns-clause-order : goal.returns-clause-order
returns-clause-order c = λ axis shape v w drawing in_line differ. strict_order axis shape drawing v w in_line differ

pub returns-clause-first : goal.returns-clause-first
returns-clause-first c = λ axis shape places line drawing ways within. first_stands axis shape drawing places ways line within

pub returns-clause-last : goal.returns-clause-last
returns-clause-last c = λ axis shape places line drawing ways within. last_stands axis shape drawing places ways line within
