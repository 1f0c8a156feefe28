use Rattle.cert_text.proofs.ReadPrinted.{printed_certificate}
use Rattle.cert_text.proofs.law.texts.printed_certificates_are_read.Goals as goal

pub returns : goal.returns
returns c = printed_certificate
