-- The laws of this crate as plain lemmas. The proofs of the crates above import this module alone.

-- places by numbers on the nodes
pub use Rattle.potentials.proofs.NodePlaces.{node_taken, own_numbers, stand_at_own, solution_from, solves_from, tight_from, tight_to}
-- lengths
pub use Rattle.potentials.proofs.LengthLemmas.{length_of_axis, length_is}
pub use Rattle.potentials.proofs.PieceLemmas.{length_from_zero, few_pieces}
-- bounds of flows
pub use Rattle.potentials.proofs.FlowBounds.{bound_from_zero, bound_by_amounts, bound_most, bound_small}
-- what two flows prove
pub use Rattle.potentials.proofs.TightKeys.{graph_of, worth_above, tight_at_bound, bound_at_tight, least_from_tight, none_where_none, least_tight_places}
-- least keys
pub use Rattle.potentials.proofs.LeastKeys.{places_by_stand, some_least_key}
pub use Rattle.potentials.proofs.LowKeys.{no_cycle_where_met, least_key_low}
