use Rattle.drawing_check.proofs.AnswerLemmas.{one_answer}
use Rattle.drawing_check.proofs.checking.one_shape_or_fault.Goals as goal

pub returns : goal.returns
returns c = one_answer
