use Rattle.compact_main.proofs.CommandWords.{one_command}
use Rattle.compact_main.proofs.law.words_ask_for_one_command.Goals as goal

pub returns : goal.returns
returns c = one_command
