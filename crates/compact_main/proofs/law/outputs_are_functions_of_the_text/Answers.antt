use Rattle.compact_main.proofs.CommandOutputs.{one_drawn, plain_front, one_counted, one_measured, one_verified, one_sampled}
use Rattle.compact_main.proofs.law.outputs_are_functions_of_the_text.Goals as goal

pub returns-clause-drawn : goal.returns-clause-drawn
returns-clause-drawn c = one_drawn

pub returns-clause-certified : goal.returns-clause-certified
returns-clause-certified c = plain_front

pub returns-clause-counted : goal.returns-clause-counted
returns-clause-counted c = one_counted

pub returns-clause-measured : goal.returns-clause-measured
returns-clause-measured c = one_measured

pub returns-clause-verified : goal.returns-clause-verified
returns-clause-verified c = one_verified

pub returns-clause-sampled : goal.returns-clause-sampled
returns-clause-sampled c = one_sampled
