use Rattle.compact_types.proofs.DivisionLemmas.{rest_tells}
use Rattle.compact_types.proofs.divisions.is_multiple.Goals as goal

pub returns : goal.returns
returns c = rest_tells c.args.z c.args.by c.ranges.z c.ranges.by c.requires
