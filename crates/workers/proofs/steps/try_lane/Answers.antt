use Rattle.std.proofs.Common.{◌≡◌, ◌∙◌, Some, ap, sym}
use Rattle.std.specs.Prelude.{slice_get}
use Rattle.std.specs.Option.{option_copied_mut}
use Rattle.steal_lanes.specs.States.{LaneHome}
use Rattle.workers.proofs.HandLemmas.{going_by_others, going_itself, same_lanes}
use Rattle.workers.proofs.steps.try_lane.Goals as goal

pub returns-in_err-other : goal.returns-in_err-other
returns-in_err-other c = going_itself c.args.hand.now

pub returns-in-Got : goal.returns-in-Got
returns-in-Got c =
    let here : slice_get c.args.hand.now.others c.args.place ≡ Some c.in_ok-other.other.now = sym c.get_mut.ensures.value ∙ ap option_copied_mut c.in_ok-other.was in
    going_by_others c.args.hand.now _
    (same_lanes c.args.hand.now.others c.args.place c.in_ok-other.other.now _ here (ap (λ (home : LaneHome). (c.in_ok-other.other.now.thief, home)) c.steal.ensures.home))

pub returns-in-Empty : goal.returns-in-Empty
returns-in-Empty c =
    let here : slice_get c.args.hand.now.others c.args.place ≡ Some c.in_ok-other.other.now = sym c.get_mut.ensures.value ∙ ap option_copied_mut c.in_ok-other.was in
    going_by_others c.args.hand.now _
    (same_lanes c.args.hand.now.others c.args.place c.in_ok-other.other.now _ here (ap (λ (home : LaneHome). (c.in_ok-other.other.now.thief, home)) c.steal.ensures.home))
