-- The laws of this crate as plain lemmas. The proofs of the crates above import this module alone.

-- a plan and places that can be checked have one shape or one first fault, and not both
pub use Rattle.drawing_check.proofs.AnswerLemmas.{one_answer}
pub use Rattle.drawing_check.proofs.ShapeLemmas.{one_shape, one_fault, no_fault_of_shape}
