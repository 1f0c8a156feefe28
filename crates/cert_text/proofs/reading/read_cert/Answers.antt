use Rattle.compact_types.proofs.Laws.{decides_by_one_answer}
use Rattle.cert_text.proofs.ReadCertificates.{few}
use Rattle.cert_text.proofs.ReadEvery.{one_certificate}
use Rattle.cert_text.proofs.reading.read_cert.Goals as goal

pub returns-clause-answer : goal.returns-clause-answer
returns-clause-answer c = decides_by_one_answer c.certificate_in.result
    c.certificate_in.ensures.value c.certificate_in.ensures.fault (one_certificate c.args.bytes.now)

pub returns-clause-few : goal.returns-clause-few
returns-clause-few c = few c.args.bytes.now c.certificate_in.result c.certificate_in.ensures.value
