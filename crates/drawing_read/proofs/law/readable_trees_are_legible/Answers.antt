use Rattle.drawing_read.proofs.LegibleWords.{readable_legible}
use Rattle.drawing_read.proofs.law.readable_trees_are_legible.Goals as goal

pub returns : goal.returns
returns c = readable_legible
