use Rattle.std.proofs.Common.{◌≡◌, ◌<◌, ◌-◌, ◌/◌, ap, ◌∙◌, arith}
use Rattle.board.specs.inner.Chains.{fork_at}
use Rattle.board.proofs.ChainLemmas.{any_default, root_empty, fork_below, step_is}
use Rattle.board.proofs.chains.Chains.step_up.Goals as goal

pub returns-then-id-eq0 : goal.returns-then-id-eq0
returns-then-id-eq0 c = (c.if-id-eq0.true, rw (← c.self.view_is, c.if-id-eq0.true) (root_empty c.self.inside.forks.items))

pub index-fork-requires : goal.index-fork-requires
index-fork-requires c =
    let positive : 0 < c.args.id = let other = c.if-id-eq0.false in omega (arith, other) in
    let below = fork_below c.self.inside.forks.items c.args.id positive (rw (← c.self.view_is) at c.requires) in
    let long = c.self.inside.forks.ok.0 in
    omega (arith, below, long)

pub returns : goal.returns
returns c =
    let forks = c.self.inside.forks.items in
    let positive : 0 < c.args.id = let other = c.if-id-eq0.false in omega (arith, other) in
    let inside = rw (← c.self.view_is) at c.requires in
    let below = fork_below forks c.args.id positive inside in
    let read = rw c.fork_of.ensures at c.index-fork.ensures in
    let is : c.index-fork.result.now ≡ fork_at forks ((c.args.id - 1) / 4) =
    read ∙ any_default forks ((c.args.id - 1) / 4) c.index-fork.result.now _ below in
    rw (← c.self.view_is)
    (step_is forks c.args.id _ c.self.invariant positive inside (ap (λ f. f.parent) is) (ap (λ f. f.s) is) (ap (λ f. f.t) is) c.side_of.ensures)
