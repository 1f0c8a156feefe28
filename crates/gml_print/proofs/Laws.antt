-- The laws of this crate as plain lemmas. The proofs of the crates above import this module alone.

-- what is printed of a tree within the grammar has an alike tree, and no other
pub use Rattle.gml_print.proofs.ReadsBack.{reads_back}
-- new places keep a tree within the grammar
pub use Rattle.gml_print.proofs.PlacedGrammar.{placed_within}
-- the tree with new places is read as a drawing with these places
pub use Rattle.gml_print.proofs.PlacedReadings.{placed_reading}
