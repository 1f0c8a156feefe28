use Rattle.std.specs.Int.{w64}
use Rattle.std.proofs.lemmas.Int.{to_z-of_z}
use Rattle.compact_main.proofs.LineLengths.{then}
use Rattle.compact_main.proofs.notify.push_meeting.Goals as goal

pub returns-clause-added : goal.returns-clause-added
returns-clause-added c =
    let x = rw (to_z-of_z w64 c.args.x c.ranges.x) at c.push_number-2.ensures.added in
    let y = rw (to_z-of_z w64 c.args.y c.ranges.y) at c.push_number-3.ensures.added in
    then (then c.push_around.ensures.added c.push_number.ensures.added) (then (then (then c.push.ensures x) c.push-2.ensures) y)
