use Rattle.std.proofs.lemmas.List.{take_rest}
use Rattle.shape_graphs.proofs.TurnLemmas.{turned_simple}
use Rattle.shape_graphs.proofs.cycle.from_least.Goals as goal

pub returns : goal.returns
returns c =
    turned_simple c.args.graph.now.arcs c.args.walk.now c.least_place-first.result c.requires c.least_place-first.ensures.within c.least_place-first.ensures.least
    c.extend_from_slice.new.self (cc (c.in_ok-extend_from_slice.ensures.ok, c.in_ok-arcs.ensures, take_rest c.args.walk.now c.least_place-first.result))
