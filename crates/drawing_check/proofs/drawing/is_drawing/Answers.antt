use Rattle.drawing_check.proofs.MeetingLemmas.{drawing_decided}
use Rattle.drawing_check.proofs.drawing.is_drawing.Goals as goal

pub returns-then-has_ways : goal.returns-then-has_ways
returns-then-has_ways c =
    drawing_decided c.args.shape.now c.args.places.now c.first_meeting.result c.is_none.result c.is_none.ensures c.first_meeting.ensures
    (c.has_ways.ensures.0 c.if-has_ways.true) c.requires.places_fit
