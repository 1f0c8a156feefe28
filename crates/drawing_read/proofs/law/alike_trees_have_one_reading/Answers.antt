use Rattle.drawing_read.proofs.AlikeReadings.{reading_alike}
use Rattle.drawing_read.proofs.law.alike_trees_have_one_reading.Goals as goal

pub returns : goal.returns
returns c = reading_alike
