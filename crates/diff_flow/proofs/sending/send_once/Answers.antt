use Rattle.std.proofs.Common.{◌≡◌, ◌≤◌, ◌<◌, ◌-◌, ◌*◌, ◌^◌, ◌∙◌, sym, ap, arith, length}
use Rattle.std.proofs.lemmas.List.{get_or_read}
use Rattle.std.proofs.lemmas.List.Sums.{get_or-le-sum_by}
use Rattle.diff_flow.specs.declared.tree.Reached.{Reached}
use Rattle.diff_flow.specs.inner.Search.{entry_at, no_entry}
use Rattle.diff_flow.proofs.TreeLemmas.{tree_placed}
use Rattle.diff_flow.proofs.RoundLemmas.{not_trapped, amounts_few, round_kept, round_done}
use Rattle.diff_flow.proofs.sending.send_once.Goals as goal

pub clear-requires : goal.clear-requires
clear-requires c = tree_placed _ _ _ _ _ _ c.in_ok-find.ensures.tree

pub find-requires-clause-no_trap : goal.find-requires-clause-no_trap
find-requires-clause-no_trap c = λ marks trap.
    let steps = c.args.steps.now in
    not_trapped steps.nodes steps.arcs steps.reach ((steps.nodes - 1) * steps.reach) steps.list.items c.args.amounts.now c.args.numbers.now
    c.args.over.now c.args.want.now steps.within steps.paired c.requires.routing c.args.node marks c.requires.node c.requires.some trap

pub send-requires-clause-low : goal.send-requires-clause-low
send-requires-clause-low c = λ i inside.
    let steps = c.args.steps.now in
    let few : steps.arcs ≤ 2 ^ 30 = omega (arith, steps.paired.two_for_each, steps.few) in
    let low = amounts_few steps.nodes steps.arcs steps.reach ((steps.nodes - 1) * steps.reach) steps.list.items c.args.amounts.now c.args.numbers.now
    c.args.over.now c.args.want.now steps.within steps.paired c.requires.routing few i inside in
    let tree = c.in_ok-find.ensures.tree in
    let items = c.find.new.tree.entries.items in
    let last_in : c.len.result - 1 < length items = omega (arith, tree.some, c.len.ensures) in
    let read = get_or_read items (c.len.result - 1) c.index-last.result.now last_in c.index-last.ensures no_entry in
    let room : c.index-last.result.now.room ≡ (entry_at items (c.len.result - 1)).room = ap (λ (e : Reached). e.room) read in
    let most = tree.most (c.len.result - 1) last_in in
    let excess = get_or-le-sum_by (λ x. x) c.args.over.now c.args.node 0 (omega (arith, c.requires.node, c.requires.routing.even.over_for_each)) in
    omega (arith, low, room, most, excess, c.in_ok-find.ensures.most, c.min-amount.ensures, c.requires.routing.even.few)

pub returns-clause-routing : goal.returns-clause-routing
returns-clause-routing c =
    let steps = c.args.steps.now in
    let tree = c.in_ok-find.ensures.tree in
    let items = c.find.new.tree.entries.items in
    let last_in : c.len.result - 1 < length items = omega (arith, tree.some, c.len.ensures) in
    let read = get_or_read items (c.len.result - 1) c.index-last.result.now last_in c.index-last.ensures no_entry in
    let place : c.len.result - 1 ≡ length items - 1 = omega (arith, c.len.ensures) in
    let goal_is : (entry_at items (length items - 1)).node ≡ c.index-last.result.now.node =
    ap (λ k. (entry_at items k).node) (sym place) ∙ ap (λ (e : Reached). e.node) (sym read) in
    let room : c.index-last.result.now.room ≡ (entry_at items (c.len.result - 1)).room = ap (λ (e : Reached). e.room) read in
    let goal_in : c.index-last.result.now.node < steps.nodes = rw goal_is at (tree.inside (length items - 1) (omega (arith, tree.some))) in
    let moved = rw (c.in_ok-find.ensures.start, goal_is) at c.send.ensures in
    let most = tree.most (c.len.result - 1) last_in in
    round_done steps.nodes steps.arcs steps.reach ((steps.nodes - 1) * steps.reach) steps.list.items c.args.amounts.now c.args.numbers.now
    c.args.over.now c.args.want.now steps.within steps.paired c.requires.routing c.args.node c.index-last.result.now.node c.min-amount.result
    c.send.new.amounts c.find.new.numbers c.in_ok-find.ensures.fit moved c.requires.node goal_in
    (omega (arith, room, most, c.in_ok-find.ensures.most, c.min-amount.ensures)) (omega (arith, c.min-amount.ensures))

pub returns-clause-kept : goal.returns-clause-kept
returns-clause-kept c = λ given spread.
    let steps = c.args.steps.now in
    let tree = c.in_ok-find.ensures.tree in
    let items = c.find.new.tree.entries.items in
    let last_in : c.len.result - 1 < length items = omega (arith, tree.some, c.len.ensures) in
    let read = get_or_read items (c.len.result - 1) c.index-last.result.now last_in c.index-last.ensures no_entry in
    let place : c.len.result - 1 ≡ length items - 1 = omega (arith, c.len.ensures) in
    let goal_is : (entry_at items (length items - 1)).node ≡ c.index-last.result.now.node =
    ap (λ k. (entry_at items k).node) (sym place) ∙ ap (λ (e : Reached). e.node) (sym read) in
    let room : c.index-last.result.now.room ≡ (entry_at items (c.len.result - 1)).room = ap (λ (e : Reached). e.room) read in
    let goal_in : c.index-last.result.now.node < steps.nodes = rw goal_is at (tree.inside (length items - 1) (omega (arith, tree.some))) in
    let moved = rw (c.in_ok-find.ensures.start, goal_is) at c.send.ensures in
    let most = tree.most (c.len.result - 1) last_in in
    round_kept steps.nodes steps.arcs steps.reach ((steps.nodes - 1) * steps.reach) steps.list.items c.args.amounts.now c.args.numbers.now
    c.args.over.now c.args.want.now steps.within steps.paired c.requires.routing c.args.node c.index-last.result.now.node c.min-amount.result
    c.send.new.amounts c.find.new.numbers c.in_ok-find.ensures.fit moved c.requires.node goal_in
    (omega (arith, room, most, c.in_ok-find.ensures.most, c.min-amount.ensures)) (omega (arith, c.min-amount.ensures)) given spread
