use Rattle.compact_types.specs.declared.places.Axis.TheVariants.{X, Y}
use Rattle.cert_check.specs.inner.Flowing.{flows_on}
use Rattle.cert_check.proofs.CompareLemmas.{none_earlier, earlier_from_numbers}
use Rattle.cert_check.proofs.earlier.earlier.Goals as goal

pub returns-in-None : goal.returns-in-None
returns-in-None c =
    none_earlier c.args.bars.now c.args.branch.now.choices c.shape-what_is_known.ensures.sound c.requires.fit (flows_on c.args.branch.now) c.args.places.now
    X c.args.branch.now.columns.graph c.requires.flows.columns (rw c.in-None.is at c.in_ok-numbers.ensures.numbers)

pub returns-in-None-2 : goal.returns-in-None-2
returns-in-None-2 c =
    none_earlier c.args.bars.now c.args.branch.now.choices c.shape-what_is_known.ensures.sound c.requires.fit (flows_on c.args.branch.now) c.args.places.now
    Y c.args.branch.now.rows.graph c.requires.flows.rows (rw c.in-None-2.is at c.in_ok-numbers-2.ensures.numbers)

pub returns : goal.returns
returns c =
    earlier_from_numbers c.args.bars.now c.args.branch.now.choices c.shape-what_is_known.ensures.sound c.requires.fit (flows_on c.args.branch.now)
    c.args.places.now c.in-Some.numbers c.in-Some-2.numbers c.args.branch.now.columns.graph c.args.branch.now.rows.graph
    c.requires.flows.columns c.requires.flows.rows
    (rw c.in-Some.is at c.in_ok-numbers.ensures.numbers) (rw c.in-Some-2.is at c.in_ok-numbers-2.ensures.numbers)
    c.requires.places_fit c.first_less.result
    (rw (c.as_slice.ensures, c.as_slice-2.ensures, c.as_slice-points.ensures) at c.first_less.ensures)
