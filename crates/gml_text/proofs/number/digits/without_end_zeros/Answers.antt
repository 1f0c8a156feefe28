use Rattle.std.proofs.Common.{arith}
use Rattle.gml_text.proofs.EndZeros.{last_is_not_zero}
use Rattle.gml_text.proofs.number.digits.without_end_zeros.Goals as goal

pub returns-in_default-2-clause-last : goal.returns-in_default-2-clause-last
returns-in_default-2-clause-last c = last_is_not_zero c.loop-kept.kept.now c.in_default.len_at_least (λ e. omega arith)
