use Rattle.std.proofs.Common.{sym}
use Rattle.separation.proofs.candidates.candidate_of.Goals as goal

pub returns-clause-open : goal.returns-clause-open
returns-clause-open c = λ choices reach. (c.open_sides.result.is_open, c.open_sides.ensures choices reach, sym c.open_count-open.ensures)
