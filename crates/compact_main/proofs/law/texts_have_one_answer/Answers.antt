use Rattle.compact_main.proofs.TextAnswers.{text_answer}
use Rattle.compact_main.proofs.law.texts_have_one_answer.Goals as goal

pub returns : goal.returns
returns c = text_answer
