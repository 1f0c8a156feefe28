use Rattle.cert_text.proofs.AcceptedBest.{made_best}
use Rattle.cert_text.proofs.law.certificates.made_is_best.Goals as goal

pub returns : goal.returns
returns c = λ shape places nodes sound shallow accepts. made_best shape places nodes sound shallow accepts
