use Rattle.cert_text.proofs.ReadComments.{spelled_with_certificate}
use Rattle.cert_text.proofs.law.texts.certificates_are_comments.Goals as goal

pub returns : goal.returns
returns c = spelled_with_certificate
