use Rattle.gml_print.proofs.PlacedReadings.{placed_reading}
use Rattle.gml_print.proofs.law.placed_tree_is_read.Goals as goal

pub returns : goal.returns
returns c = placed_reading
