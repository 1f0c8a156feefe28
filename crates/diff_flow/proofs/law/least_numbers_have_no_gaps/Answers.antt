use Rattle.diff_flow.proofs.TightLemmas.{least_low, least_taken}
use Rattle.diff_flow.proofs.law.least_numbers_have_no_gaps.Goals as goal

pub returns-clause-low : goal.returns-clause-low
returns-clause-low c = least_low

pub returns-clause-taken : goal.returns-clause-taken
returns-clause-taken c = least_taken
