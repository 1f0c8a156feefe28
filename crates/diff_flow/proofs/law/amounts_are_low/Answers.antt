use Rattle.diff_flow.proofs.LowLemmas.{amounts_low}
use Rattle.diff_flow.proofs.law.amounts_are_low.Goals as goal

pub returns : goal.returns
returns c = amounts_low
