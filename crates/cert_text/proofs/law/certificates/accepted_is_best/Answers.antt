use Rattle.cert_text.proofs.AcceptedBest.{accepted_best}
use Rattle.cert_text.proofs.law.certificates.accepted_is_best.Goals as goal

pub returns : goal.returns
returns c = λ shape places nodes sound shallow accepts. accepted_best shape places nodes sound shallow accepts
