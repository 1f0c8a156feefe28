use Rattle.compact_types.specs.declared.places.Axis.TheVariants.{X, Y}
use Rattle.potentials.proofs.SolvingLemmas.{none_tight_at, least_places_at}
use Rattle.potentials.proofs.keys.least_places.Goals as goal

pub returns-in-None : goal.returns-in-None
returns-in-None c =
    none_tight_at c.args.bars.now c.args.extension.now.choices c.requires.sound c.requires.fit X c.args.columns.now c.requires.columns c.args.flows.now
    (rw c.in-None.is at c.in_ok-numbers.ensures.numbers)

pub returns-in-None-2 : goal.returns-in-None-2
returns-in-None-2 c =
    none_tight_at c.args.bars.now c.args.extension.now.choices c.requires.sound c.requires.fit Y c.args.rows.now c.requires.rows c.args.flows.now
    (rw c.in-None-2.is at c.in_ok-numbers-2.ensures.numbers)

pub returns : goal.returns
returns c =
    least_places_at c.args.bars.now c.args.extension.now.choices c.requires.sound c.requires.fit c.args.columns.now c.args.rows.now
    c.requires.columns c.requires.rows c.args.flows.now c.in-Some.numbers c.in-Some-2.numbers c.in_ok-places.places
    (rw (c.as_slice.ensures, c.as_slice-2.ensures) at c.in_ok-places.ensures)
    (rw c.in-Some.is at c.in_ok-numbers.ensures.numbers)
    (rw c.in-Some-2.is at c.in_ok-numbers-2.ensures.numbers)
