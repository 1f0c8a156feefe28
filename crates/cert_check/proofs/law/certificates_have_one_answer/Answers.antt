use Rattle.cert_check.proofs.EveryAnswer.{one_check}
use Rattle.cert_check.proofs.law.certificates_have_one_answer.Goals as goal

pub returns : goal.returns
returns c = one_check
