use Rattle.diff_flow.proofs.GrowLemmas.{least_more}
use Rattle.diff_flow.proofs.law.least_numbers_that_meet_an_arc.Goals as goal

pub returns : goal.returns
returns c = least_more
