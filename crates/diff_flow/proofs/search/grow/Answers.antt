use Rattle.diff_flow.proofs.TurnLemmas.{fit_low, trap_grown}
use Rattle.diff_flow.proofs.search.grow.Goals as goal

pub spread-requires-clause-low : goal.spread-requires-clause-low
spread-requires-clause-low c =
    let steps = c.args.steps.now in
    fit_low steps.nodes steps.reach steps.list.items c.args.amounts.now c.args.numbers.now c.args.want.now steps.short c.requires.fit

pub turn-requires-clause-no_trap : goal.turn-requires-clause-no_trap
turn-requires-clause-no_trap c = λ marks trap.
    let steps = c.args.steps.now in
    c.requires.no_trap marks
    (trap_grown steps.nodes steps.arcs steps.list.items c.args.amounts.now c.args.want.now c.args.tree.now.entries.items
    c.spread.new.tree.entries.items c.args.tree.now.places.items c.spread.new.tree.places.items marks c.requires.tree.some
    c.in_ok-spread.ensures.grows trap)
