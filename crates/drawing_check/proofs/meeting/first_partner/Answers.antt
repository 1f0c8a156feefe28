use Rattle.std.proofs.Common.{arith, refl, ap, ◌∙◌, List, length}
use Rattle.compact_types.specs.declared.plan.Piece.{Piece}
use Rattle.compact_types.specs.Lookups.{piece_at}
use Rattle.drawing_check.proofs.MeetingLemmas.{least_meeting, apart_from_pieces, apart_one_more}
use Rattle.drawing_check.proofs.meeting.first_partner.Goals as goal

pub returns-in-Some : goal.returns-in-Some
returns-in-Some c =
    let first = c.cover-covered.ensures.piece ∙ ap (λ (l : List Piece). piece_at l c.args.first) c.as_slice-pieces.ensures in
    let second = c.cover-other.ensures.piece ∙ ap (λ (l : List Piece). piece_at l c.loop-second.second) c.as_slice-pieces.ensures in
    record {
      is_first = refl;
      in_order = omega arith;
      in_plan = omega (arith, ap length c.as_slice-pieces.ensures);
      least = least_meeting _ _ _ _ _ _ _ _ c.as_slice-points.ensures first second c.in-Some.ensures;
      earlier = c.loop-second.invariant;
    }

pub loop-second-preserved : goal.loop-second-preserved
loop-second-preserved c =
    let first = c.cover-covered.ensures.piece ∙ ap (λ (l : List Piece). piece_at l c.args.first) c.as_slice-pieces.ensures in
    let second = c.cover-other.ensures.piece ∙ ap (λ (l : List Piece). piece_at l c.loop-second.second) c.as_slice-pieces.ensures in
    apart_one_more c.args.plan.now c.args.places.now c.args.first c.loop-second.second c.loop-second.invariant
    (apart_from_pieces c.args.plan.now c.args.places.now c.args.first c.loop-second.second _ _ _ c.as_slice-points.ensures first second c.in_default.ensures)
