use Rattle.cert_check.proofs.ZeroLemmas.{zero_by_y, not_zero_by_x}
use Rattle.cert_check.proofs.answer.is_from_zero.Goals as goal

pub returns-then-is_least_zero : goal.returns-then-is_least_zero
returns-then-is_least_zero c =
    zero_by_y c.args.places.now c.is_least_zero.result c.is_least_zero-then-is_least_zero.result c.if-is_least_zero.true c.is_least_zero.ensures
    c.is_least_zero-then-is_least_zero.ensures

pub returns-else-is_least_zero : goal.returns-else-is_least_zero
returns-else-is_least_zero c = not_zero_by_x c.args.places.now c.is_least_zero.result c.if-is_least_zero.false c.is_least_zero.ensures
