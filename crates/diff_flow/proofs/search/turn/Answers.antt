use Rattle.std.proofs.Common.{◌<◌, length, arith, refl}
use Rattle.diff_flow.specs.inner.Steps.{step_at}
use Rattle.diff_flow.proofs.TreeLemmas.{tree_placed, tree_more, tree_few, searches_entered}
use Rattle.diff_flow.proofs.TurnLemmas.{trapped, fit_raised, tree_raised, leaving_passable, slack_low}
use Rattle.diff_flow.proofs.search.turn.Goals as goal

pub least_leaving-requires-clause-placed : goal.least_leaving-requires-clause-placed
least_leaving-requires-clause-placed c = tree_placed _ _ _ _ _ _ c.requires.tree

pub raise_reached-requires-clause-placed : goal.raise_reached-requires-clause-placed
raise_reached-requires-clause-placed c =
    rw c.requires.fit.one_for_each (tree_placed _ _ _ _ _ _ c.requires.tree)

pub unreachable-requires : goal.unreachable-requires
unreachable-requires c =
    let steps = c.args.steps.now in
    c.requires.no_trap _
    (trapped steps.nodes steps.arcs steps.reach steps.list.items c.args.amounts.now c.args.numbers.now c.args.want.now
    c.args.tree.now.entries.items c.args.tree.now.places.items steps.within steps.paired c.requires.tree c.requires.passed c.requires.none
    (rw c.in_default.is at c.least_leaving.ensures) c.requires.fit.met)

pub raise_reached-requires-clause-by : goal.raise_reached-requires-clause-by
raise_reached-requires-clause-by c =
    let steps = c.args.steps.now in
    let least = rw c.in-Some.is at c.least_leaving.ensures in
    slack_low steps.nodes steps.arcs steps.reach steps.list.items c.args.amounts.now c.args.numbers.now c.args.want.now _ _ _ steps.short
    steps.within least.0.inside c.requires.fit least.0

pub enter-requires-clause-few : goal.enter-requires-clause-few
enter-requires-clause-few c =
    let steps = c.args.steps.now in
    let least = rw c.in-Some.is at c.least_leaving.ensures in
    let inside : c.in-Some.leaving.step < length steps.list.items = least.0.inside in
    tree_few steps.nodes steps.list.items c.args.amounts.now c.args.numbers.now c.args.tree.now.entries.items c.args.tree.now.places.items
    (step_at steps.list.items c.in-Some.leaving.step).to c.requires.tree (steps.within c.in-Some.leaving.step inside).to least.0.to

pub returns-clause-fit : goal.returns-clause-fit
returns-clause-fit c =
    let steps = c.args.steps.now in
    let least = rw c.in-Some.is at c.least_leaving.ensures in
    fit_raised steps.nodes steps.arcs steps.reach _ steps.list.items c.args.amounts.now c.args.numbers.now c.raise_reached.new.numbers c.args.want.now
    c.args.tree.now.entries.items c.args.tree.now.places.items steps.within steps.paired c.requires.fit c.requires.tree c.requires.none c.requires.passed
    c.in-Some.leaving.step c.in-Some.leaving.slack least.0 least.1 c.raise_reached.ensures refl c.requires.no_trap

pub returns-clause-tree : goal.returns-clause-tree
returns-clause-tree c =
    let steps = c.args.steps.now in
    let least = rw c.in-Some.is at c.least_leaving.ensures in
    let raises = c.raise_reached.ensures in
    let inside : c.in-Some.leaving.step < length steps.list.items = least.0.inside in
    tree_more steps.nodes steps.arcs steps.reach steps.list.items c.args.amounts.now c.raise_reached.new.numbers c.in-Some.leaving.step
    c.args.tree.now.entries.items c.enter.new.tree.entries.items c.args.tree.now.places.items c.enter.new.tree.places.items c.in_ok-enter.ensures.0
    steps.within inside
    (leaving_passable steps.nodes steps.arcs steps.reach _ steps.list.items c.args.amounts.now c.args.numbers.now c.raise_reached.new.numbers
    c.args.want.now c.args.tree.now.entries.items c.args.tree.now.places.items steps.within steps.paired c.requires.fit c.requires.tree
    c.requires.none c.requires.passed c.in-Some.leaving.step c.in-Some.leaving.slack least.0 least.1 raises)
    least.0.from least.0.to
    (tree_raised steps.nodes steps.arcs steps.reach _ steps.list.items c.args.amounts.now c.args.numbers.now c.raise_reached.new.numbers
    c.args.want.now c.args.tree.now.entries.items c.args.tree.now.places.items steps.within steps.paired c.requires.fit c.requires.tree
    c.requires.none c.requires.passed c.in-Some.leaving.step c.in-Some.leaving.slack least.0 least.1 raises)
    c.in_ok-enter.ensures.1

pub returns-clause-found : goal.returns-clause-found
returns-clause-found c =
    let steps = c.args.steps.now in
    let inside : c.at.result.to < length c.args.tree.now.places.items = omega (arith, c.at.ensures.within.to, c.requires.tree.one_for_each) in
    searches_entered steps.list.items c.args.amounts.now c.args.want.now c.in-Some.leaving.step c.at.result c.args.tree.now.entries.items
    c.enter.new.tree.entries.items c.args.tree.now.places.items c.enter.new.tree.places.items c.in_ok-enter.ensures.0 c.at.ensures.is inside
    c.in_ok-enter.ensures.1 c.requires.none
