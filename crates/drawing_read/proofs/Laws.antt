-- The laws of this crate: the one module of its proofs that other crates import.

-- every tree has one reading or one first fault
pub use Rattle.drawing_read.proofs.ReadingLemmas.{one_answer}
-- readings are within the limits
pub use Rattle.drawing_read.proofs.ReadingLimits.{reading_within_limits}
-- alike trees have the same reading
pub use Rattle.drawing_read.proofs.AlikeReadings.{reading_alike}
-- a graph without a fault, kind by kind
pub use Rattle.drawing_read.proofs.FaultlessGraphs.{HasNoFault, has_no_fault, is_faultless}
-- the pieces of a graph with a node join its vertices
pub use Rattle.drawing_read.proofs.EndLemmas.{end_below, pieces_join_vertices}
-- the spots of a graph are its coordinates, in document order
pub use Rattle.drawing_read.proofs.CoordinateCases.{spot_is_coordinate, coordinate_is_spot}
pub use Rattle.drawing_read.proofs.SpotOrder.{graph_in_order}
-- and each is of a vertex
pub use Rattle.drawing_read.proofs.SpotVertices.{spot_vertex_below}
-- searches in lists that are mapped
pub use Rattle.drawing_read.proofs.AlikeLists.{position-map, prefix_len-map}
pub use Rattle.drawing_read.proofs.FaultlessGraphs.{none_mapped}
-- a tree as it is read from a text can be read as a drawing
pub use Rattle.drawing_read.proofs.LegibleWords.{readable_legible}
