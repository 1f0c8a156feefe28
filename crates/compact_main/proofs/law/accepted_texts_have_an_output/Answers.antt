use Rattle.compact_main.proofs.CommandAnswers.{output_valid}
use Rattle.compact_main.proofs.CommandOutputs.{some_output}
use Rattle.compact_main.proofs.law.accepted_texts_have_an_output.Goals as goal

pub returns-clause-accepted : goal.returns-clause-accepted
returns-clause-accepted c = output_valid

pub returns-clause-output : goal.returns-clause-output
returns-clause-output c = some_output
