use Rattle.std.proofs.Common.{subst, arith}
use Rattle.diff_flow.specs.inner.Search.{IsTrap}
use Rattle.diff_flow.proofs.TreeLemmas.{tree_most}
use Rattle.diff_flow.proofs.TurnLemmas.{planted_search}
use Rattle.diff_flow.proofs.search.find.Goals as goal

pub loop-found-init : goal.loop-found-init
loop-found-init c =
    let steps = c.args.steps.now in
    let planted = c.in_ok-plant.ensures in
    record {
      tree = planted.tree steps.list.items c.args.amounts.now c.args.numbers.now;
      fit = c.requires.fit;
      start = planted.start;
      most = planted.most;
      search = planted_search c.args.want.now c.plant.new.tree.entries.items c.plant.new.tree.places.items c.args.start
          planted.one planted.start planted.places;
    }

pub grow-requires-clause-no_trap : goal.grow-requires-clause-no_trap
grow-requires-clause-no_trap c = λ marks trap.
    let steps = c.args.steps.now in
    c.requires.no_trap marks
    (subst (λ v. IsTrap steps.nodes steps.arcs steps.list.items c.args.amounts.now c.args.want.now v marks) c.loop-found.invariant.start trap)

pub loop-found-smaller : goal.loop-found-smaller
loop-found-smaller c =
    let steps = c.args.steps.now in
    let most = tree_most steps.nodes steps.list.items c.args.amounts.now c.grow.new.numbers c.grow.new.tree.entries.items
    c.grow.new.tree.places.items c.in_ok-found.ensures.tree in
    omega (arith, most, c.in_ok-found.ensures.more)
