use Rattle.compact_types.specs.declared.places.Axis.TheVariants as axes
use Rattle.separation.proofs.extension.extension_in.Goals as goal

pub put_extents-requires-clause-xs : goal.put_extents-requires-clause-xs
put_extents-requires-clause-xs c = c.requires.few.nodes axes.X

pub put_extents-requires-clause-ys : goal.put_extents-requires-clause-ys
put_extents-requires-clause-ys c = c.requires.few.nodes axes.Y
