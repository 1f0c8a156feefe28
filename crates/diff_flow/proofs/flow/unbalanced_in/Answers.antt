use Rattle.std.proofs.Common.{◌≡◌, ◌-◌, min, length, arith}
use Rattle.std.proofs.lemmas.List.{length-take}
use Rattle.diff_flow.proofs.SurplusLemmas.{all_balance, first_are_nothing, first_unbalanced}
use Rattle.diff_flow.proofs.flow.unbalanced_in.Goals as goal

pub add_surpluses-requires-clause-none : goal.add_surpluses-requires-clause-none
add_surpluses-requires-clause-none c = first_are_nothing _ _ c.requires.none

pub returns-in-None : goal.returns-in-None
returns-in-None c =
    let fits : length c.add_surpluses.new.sums ≡ min 1024 (c.args.graph.now.nodes - c.args.first) =
    omega (arith, c.add_surpluses.ensures.len, length-take c.min-count.result c.args.room.now, c.min-count.ensures, c.requires.room) in
    all_balance c.args.first c.args.graph.now.nodes c.args.graph.now.arcs c.as_slice.result.now c.args.flow.now.amounts c.as_slice-2.result.now
    c.add_surpluses.new.sums c.as_slice.ensures c.as_slice-2.ensures fits c.add_surpluses.ensures.surpluses c.requires.before c.in-None.ensures

pub returns-in-Some : goal.returns-in-Some
returns-in-Some c =
    let fits : length c.add_surpluses.new.sums ≡ min 1024 (c.args.graph.now.nodes - c.args.first) =
    omega (arith, c.add_surpluses.ensures.len, length-take c.min-count.result c.args.room.now, c.min-count.ensures, c.requires.room) in
    first_unbalanced c.args.first c.args.graph.now.nodes c.args.graph.now.arcs c.as_slice.result.now c.args.flow.now.amounts c.as_slice-2.result.now
    c.add_surpluses.new.sums c.as_slice.ensures c.as_slice-2.ensures fits c.add_surpluses.ensures.surpluses c.requires.before c.in-Some.place c.in-Some.ensures
