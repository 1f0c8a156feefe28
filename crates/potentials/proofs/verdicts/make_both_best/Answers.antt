use Rattle.compact_types.specs.declared.places.Axis.TheVariants.{X, Y}
use Rattle.potentials.proofs.StartLemmas.{begun}
use Rattle.potentials.proofs.verdicts.make_both_best.Goals as goal

pub make_best-requires-in-Some-clause-start : goal.make_best-requires-in-Some-clause-start
make_best-requires-in-Some-clause-start c =
    begun c.args.bars.now c.args.extension.now.choices c.in-Some.start.now (rw c.in-Some.is at c.requires.start)
    X c.args.columns.now c.requires.columns

pub make_best-requires-in-Some-2-clause-start : goal.make_best-requires-in-Some-2-clause-start
make_best-requires-in-Some-2-clause-start c =
    begun c.args.bars.now c.args.extension.now.choices c.in-Some.start.now (rw c.in-Some.is at c.requires.start)
    Y c.args.rows.now c.requires.rows
