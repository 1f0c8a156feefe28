-- The laws of this crate as plain lemmas. The proofs of the crates above import this module alone.

-- numbers with a sign as numbers without one
pub use Rattle.diff_flow.proofs.TightLemmas.{nat, nat_is}
-- a balanced flow bounds every solution, and the two are equal where it is tight
pub use Rattle.diff_flow.proofs.Duality.{bound_below, tight_where_equal, equal_where_tight}
-- shortest solutions meet, and tight numbers can be brought down until they have no gaps
pub use Rattle.diff_flow.proofs.LesserSolutions.{shortest_meet}
pub use Rattle.diff_flow.proofs.Gaps.{closed, closed_most, closed_slow, all_covered}
pub use Rattle.diff_flow.proofs.TightLemmas.{tight_without_gaps, least_taken}
