use Rattle.cert_text.proofs.ReadEvery.{one_certificate}
use Rattle.cert_text.proofs.law.texts.texts_have_one_answer.Goals as goal

pub returns : goal.returns
returns c = one_certificate
