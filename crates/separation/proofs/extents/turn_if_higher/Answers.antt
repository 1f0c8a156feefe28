use Rattle.std.proofs.Common.{refl}
use Rattle.compact_types.specs.declared.places.Axis.TheVariants.{X, Y}
use Rattle.separation.proofs.extents.turn_if_higher.Goals as goal

pub returns-then-reach_higher-clause-turned : goal.returns-then-reach_higher-clause-turned
returns-then-reach_higher-clause-turned c = (Y, c.turn.ensures.turned)

pub returns-else-reach_higher-clause-turned : goal.returns-else-reach_higher-clause-turned
returns-else-reach_higher-clause-turned c = (X, λ k within. refl)
