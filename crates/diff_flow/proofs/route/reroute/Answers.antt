use Rattle.std.proofs.Common.{◌-◌, ◌*◌, arith}
use Rattle.diff_flow.proofs.BestLemmas.{routing_first, arrived}
use Rattle.diff_flow.proofs.route.reroute.Goals as goal

pub drop_all-requires-clause-low : goal.drop_all-requires-clause-low
drop_all-requires-clause-low c = λ v inside. omega (arith, c.requires.limit v inside, c.args.steps.now.short)

pub send_all-requires : goal.send_all-requires
send_all-requires c =
    let steps = c.args.steps.now in
    record {
      blank = c.requires.blank;
      routing = routing_first steps.nodes steps.arcs ((steps.nodes - 1) * steps.reach) steps.list.items c.requires.given.0 c.drop_all.new.amounts
          c.args.numbers.now c.drop_all.new.over c.drop_all.new.want steps.paired c.requires.numbers c.requires.limit c.requires.met
          c.requires.given.1 c.drop_all.ensures.dropped (c.drop_all.ensures.kept c.requires.given.0 c.requires.given.2);
    }

pub returns-clause-net : goal.returns-clause-net
returns-clause-net c = λ given spread.
    let steps = c.args.steps.now in
    arrived steps.nodes steps.arcs ((steps.nodes - 1) * steps.reach) steps.list.items given c.send_all.new.amounts c.send_all.new.numbers
    c.send_all.new.over c.send_all.new.want c.in_ok-send_all.ensures.routing
    (c.in_ok-send_all.ensures.kept given (c.drop_all.ensures.kept given spread)) c.in_ok-send_all.ensures.none

pub returns-clause-low : goal.returns-clause-low
returns-clause-low c = λ v inside. omega (arith, c.in_ok-send_all.ensures.routing.fit.low v inside, c.args.steps.now.short)
