-- The laws of this crate as plain lemmas. The proofs of the crates above import this module alone.

-- what stands after longer histories
pub use Rattle.board.proofs.HistoryLaws.{replayed-append, all_fit-append, state_with, legal_with, same_count, known_stays, some_branch, choices_stay, settled_stays, first_choices}
-- open branches
pub use Rattle.board.proofs.OpenLaws.{open_inside, waiting_open, held_open, some_open, none_open, all_settled, open_claimed, open_settled, nothing_opens_again}
-- what a history tells of a branch
pub use Rattle.board.proofs.TellingLaws.{told, holder_holds, held_claimed, held_not_settled}
-- branches that were split
pub use Rattle.board.proofs.SplitLaws.{splits_have_children, splits_name_a_pair, splits_at_branch_pair}
-- where branches come from
pub use Rattle.board.proofs.ParentLaws.{branches_differ, opened_from_split, some_parent}
-- the pair that settles a branch whatever the incumbent is
pub use Rattle.board.proofs.PairLaws.{branch_pairs_settle}
-- the shape of one vertex, for tests
pub use Rattle.board.proofs.DotLemmas.{dot_sound, dot_least}
-- how much is left to do
pub use Rattle.board.proofs.WorkLaws.{work_stays, work_falls}
-- the facts of a board
pub use Rattle.board.proofs.KeptFacts.{facts_opened, facts_enlisted, facts_claimed}
pub use Rattle.board.proofs.SettledFacts.{facts_settled}
pub use Rattle.board.proofs.FewChoices.{few_choices, few_choices_of}
pub use Rattle.board.proofs.BestLaws.{none_open_is_best, worth_not_negative}
