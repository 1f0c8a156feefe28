-- The laws of this crate as plain lemmas. The proofs of the crates above import this module alone.

-- arcs of the graphs, and where they come from
pub use Rattle.shape_graphs.proofs.GraphArcs.{KeepsAlong, ComesFrom, comes_from, HasArc, has_piece_arc, has_choice_arc}
-- the graphs of choices are graphs, with few arcs of pieces
pub use Rattle.shape_graphs.proofs.GraphFacts.{are_graph}
pub use Rattle.shape_graphs.proofs.FewArcs.{few_piece_arcs}
-- places that solve the choices
pub use Rattle.shape_graphs.proofs.NumbersFromPlaces.{first_below, IsTaken, IsSolid, solid_from, meets_arcs, path_grows, side_from_path, graphs_from_solves, solves_from_graphs}
-- paths, cycles and solutions of graphs
pub use Rattle.shape_graphs.proofs.PathLemmas.{one_arc, arc_then, joined_paths, no_cycle_in_order, cycle_is_one}
pub use Rattle.shape_graphs.proofs.SolutionLemmas.{path_rises_by_one, path_by_first, path_through_first, no_path, path_decided, same_paths, cycle_decided, some_solution, no_cycle_in_solution}
pub use Rattle.shape_graphs.proofs.SimpleLemmas.{simple_cycle}
-- places by numbers on the nodes, and choices that some places solve, which have no cycle
pub use Rattle.shape_graphs.proofs.PlacesFromNumbers.{places_by, places_by_fit, along_places_by, no_cycle_where_solved}
-- least keys, and what verdicts say
pub use Rattle.shape_graphs.proofs.KeyLemmas.{not_before_least, one_least, SomeCycle, AllAbove, SomeLeast, IsSettled, exact}
-- choices that fit, and the arcs of the choices, with one choice more or less
pub use Rattle.shape_graphs.proofs.GrowingLemmas.{fit_more, fit_less, last_fits, arc_along, no_arc_across}
