use Rattle.std.proofs.Common.{w64}
use Rattle.std.proofs.lemmas.Int.{to_z-of_z}
use Rattle.compact_types.specs.declared.places.Axis.TheVariants.{X, Y}
use Rattle.potentials.proofs.SolvingLemmas.{few_nodes_at}
use Rattle.potentials.proofs.total_length.solve_from.Goals as goal

pub of-requires : goal.of-requires
of-requires c =
    few_nodes_at c.args.bars.now c.args.extension.now.choices c.shape-what_is_known.ensures.sound c.requires.fit X c.in_ok-columns.columns c.in_ok-columns.ensures.columns

pub of-requires-2 : goal.of-requires-2
of-requires-2 c =
    few_nodes_at c.args.bars.now c.args.extension.now.choices c.shape-what_is_known.ensures.sound c.requires.fit Y c.in_ok-columns.rows c.in_ok-columns.ensures.rows

pub returns-clause-asked : goal.returns-clause-asked
returns-clause-asked c = rw (to_z-of_z w64 c.args.stop_above c.ranges.stop_above) at c.verdict_of.ensures.asked
