use Rattle.bars.proofs.PointLemmas.{no_shape}
use Rattle.bars.proofs.points.shape_at.Goals as goal

pub returns-in-Err-Fault : goal.returns-in-Err-Fault
returns-in-Err-Fault c = no_shape c.check_alone.result c.in-Err-Fault.field-0 _ c.in-Err-Fault.is c.in-Err-Fault.field-0-is c.check_alone.ensures.decides
