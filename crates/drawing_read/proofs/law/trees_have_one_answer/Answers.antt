use Rattle.drawing_read.proofs.ReadingLemmas.{one_answer}
use Rattle.drawing_read.proofs.law.trees_have_one_answer.Goals as goal

pub returns : goal.returns
returns c = one_answer
