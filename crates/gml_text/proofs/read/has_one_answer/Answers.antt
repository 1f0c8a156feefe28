use Rattle.gml_text.proofs.OneAnswer.{one_answer}
use Rattle.gml_text.proofs.read.has_one_answer.Goals as goal

pub returns : goal.returns
returns c = one_answer c.args.text.now
