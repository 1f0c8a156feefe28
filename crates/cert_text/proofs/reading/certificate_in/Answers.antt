use Rattle.std.proofs.Common.{ℕ, List}
use Rattle.cert_text.specs.declared.tree.CertNode.{CertNode}
use Rattle.cert_text.specs.declared.tree.CertTree.{CertTree}
use Rattle.cert_text.specs.Faults.{no_certificate}
use Rattle.cert_text.proofs.ReadCertificates.{bad_head_is, body_fault_is, certificate_is}
use Rattle.cert_text.proofs.reading.certificate_in.Goals as goal

pub returns-in_default-clause-fault : goal.returns-in_default-clause-fault
returns-in_default-clause-fault c = rw (c.fault.ensures) (no_certificate c.in_default.ensures.last)

pub returns-in_default-head_at-clause-fault : goal.returns-in_default-head_at-clause-fault
returns-in_default-head_at-clause-fault c = rw (c.fault-in_default-head_at.ensures)
    (bad_head_is c.args.bytes.now c.in-Some.at c.in-Some.ensures.last
    c.in_default-head_at.ensures.head)

pub returns-in-Ok-clause-value : goal.returns-in-Ok-clause-value
returns-in-Ok-clause-value c = certificate_is c.args.bytes.now c.in-Some.at _ _ _
    c.in-Some.ensures.last c.in-Some-head_at.ensures.head c.in-Ok.ensures.value

pub returns-in-Err-clause-fault : goal.returns-in-Err-clause-fault
returns-in-Err-clause-fault c = body_fault_is (List CertNode)
    (ℕ × CertTree) c.args.bytes.now c.in-Some.at _ _ c.in-Err.refusal
    c.in-Some.ensures.last c.in-Some-head_at.ensures.head c.in-Err.ensures.fault
