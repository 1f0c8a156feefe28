use Rattle.compact_types.specs.declared.limits.TheConstants.{GREATEST_THOUSANDTHS}
use Rattle.compact_types.proofs.CornerLemmas.{corner_within, from_zero-shifted}
use Rattle.compact_types.proofs.shifts.shift_to_zero.Goals as goal

pub shift-requires-clause-corner : goal.shift-requires-clause-corner
shift-requires-clause-corner c =
    corner_within GREATEST_THOUSANDTHS c.args.places.now c.as_slice.result.now c.corner_of-corner.result c.as_slice.ensures c.requires.near
    c.corner_of-corner.ensures

pub returns-clause-from_zero : goal.returns-clause-from_zero
returns-clause-from_zero c =
    from_zero-shifted c.args.places.now c.shift.new.places c.as_slice.result.now c.corner_of-corner.result c.as_slice.ensures
    c.corner_of-corner.ensures c.shift.ensures
