-- The laws of this crate as plain lemmas. The proofs of the crates above import this module alone.

-- drawings and choices: apart in every drawing, a side in every drawing, no choice and one more, chosen pairs, complete lists
pub use Rattle.separation.proofs.CompleteExtensions.{apart_from_drawn, side_in_drawing, solves_none, solves_one_more, chosen_apart, drawn_from_complete}
-- branch pairs
pub use Rattle.separation.proofs.BranchLaws.{some_count, branch_pairs_are_one, branch_pairs_of_choices}
