use Rattle.compact_types.proofs.DivisionLemmas.{quotient_tells}
use Rattle.compact_types.proofs.divisions.divided.Goals as goal

pub returns : goal.returns
returns c = quotient_tells c.args.z c.args.by c.ranges.z c.ranges.by c.requires.positive c.requires.multiple
