use Rattle.compact_main.proofs.CommandAnswers.{command_answer}
use Rattle.compact_main.proofs.law.texts_are_accepted_or_refused.Goals as goal

pub returns : goal.returns
returns c = command_answer
