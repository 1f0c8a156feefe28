-- The laws of this crate as plain lemmas. The proofs of the crates above import this module alone.

-- what is accepted is best
pub use Rattle.cert_text.proofs.AcceptedBest.{accepted_best, made_best}
-- what entries say of the drawings of their choices
pub use Rattle.cert_text.proofs.EntryLemmas.{none_at_cycle, none_at_bound, tight_from_least}
-- how many branches an entry opens
pub use Rattle.cert_text.proofs.TreeLemmas.{opened_count}
-- how deep entries lie
pub use Rattle.cert_text.proofs.TreeLaws.{whole_shallow, shallower_from}
-- a certificate's text has more bytes than entries
pub use Rattle.cert_text.proofs.ReadCertificates.{few_entries}
-- a text has one certificate or one first fault
pub use Rattle.cert_text.proofs.ReadEvery.{one_certificate}
-- whole lines keep their tree with a certificate after them
pub use Rattle.cert_text.proofs.ReadComments.{spelled_with_certificate}
-- a certificate that is printed after whole lines is read
pub use Rattle.cert_text.proofs.ReadPrinted.{printed_certificate}
