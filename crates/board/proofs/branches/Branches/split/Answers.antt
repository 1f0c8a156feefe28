use Rattle.std.proofs.Common.{◌≡◌, ◌++◌, length, set, length-append, ap, ◌∙◌}
use Rattle.std.proofs.lemmas.List.{set-append_left}
use Rattle.board.specs.declared.entries.Settled.TheVariants.{Split}
use Rattle.board.specs.declared.standings.Standing.TheVariants.{Held, Done}
use Rattle.board.specs.Histories.{children_of, four_waiting}
use Rattle.board.specs.inner.Chains.{chain_at}
use Rattle.board.proofs.StackLemmas.{branches_split, same_state, waits_below}
use Rattle.board.proofs.branches.Branches.split.Goals as goal
use Rattle.board.proofs.branches.Branches.split.Goals.{After-self-2-1}

first : (c : After-self-2-1) → c.len-first.result ≡ length c.self.inside.standings.items
first c = c.len-first.ensures ∙ c.reserve.new.self.ok.0 ∙ ap length c.in_ok-reserve.ensures.items

pub invariant_of-self-2 : goal.invariant_of-self-2
invariant_of-self-2 c =
    let held = rw (← c.self.view_is) at c.requires in
    rw (c.push_children.ensures.standings, c.push_children.ensures.waiting, c.in_ok-reserve.ensures.items, c.in_ok-reserve-2.ensures.items, first c)
    (branches_split c.self.inside.chains c.split.new.self c.self.inside.standings.items c.self.inside.waiting.items
    c.self.inside.open_count c.args.id c.args.who _ c.self.invariant held
    (rw c.in_ok-split.ensures.ok
    (length-append c.self.inside.chains (children_of (chain_at c.self.inside.chains c.args.id) c.args.s c.args.t))))

pub returns-clause-ok : goal.returns-clause-ok
returns-clause-ok c =
    let items = c.self.inside.standings.items in
    let held = rw (← c.self.view_is) at c.requires in
    let below = waits_below items c.args.id (Held c.args.who) held (λ e. cc) in
    let standings : set c.push_children.new.standings.items c.args.id (Done (Split c.len-first.result c.args.s c.args.t))
    ≡ set items c.args.id (Done (Split (length items) c.args.s c.args.t)) ++ four_waiting =
    rw (c.push_children.ensures.standings, c.in_ok-reserve.ensures.items, first c)
    (set-append_left items four_waiting c.args.id (Done (Split (length items) c.args.s c.args.t)) below) in
    rw (← c.self.view_is) (same_state _ _ _ _ c.in_ok-split.ensures.ok standings)
