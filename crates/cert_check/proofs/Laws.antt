-- The laws of this crate as plain lemmas. The proofs of the crates above import this module alone.

-- a certificate is accepted, or has one first fault
pub use Rattle.cert_check.proofs.EveryAnswer.{one_check}
-- a certificate has one first fault at most, and none where it is accepted
pub use Rattle.cert_check.proofs.DecisionLemmas.{only_fault, no_fault}
