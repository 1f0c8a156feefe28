use Rattle.drawing_read.proofs.ReadingLimits.{reading_within_limits}
use Rattle.drawing_read.proofs.law.readings_are_within_limits.Goals as goal

pub returns : goal.returns
returns c = reading_within_limits
