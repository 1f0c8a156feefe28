use Rattle.std.proofs.Common.{◌+◌, ◌*◌, ◌-◌, ◌≤◌, arith, get_or, drop}
use Rattle.std.proofs.lemmas.List.{drop_all}
use Rattle.std.proofs.lemmas.Grind.{common_steps}
use Rattle.gml_text.specs.Numerals.{digits_value_from}
use Rattle.gml_text.proofs.Digits.{next_at_most}
use Rattle.gml_text.proofs.number.digits.magnitude.Goals as goal

pub returns-in_err-checked_mul : goal.returns-in_err-checked_mul
returns-in_err-checked_mul c = let h : c.loop-digit.value * 10 + (get_or c.args.digits.now c.loop-digit.digit-index 0 - 48) ≤ digits_value_from c.loop-digit.value (drop c.loop-digit.digit-index c.args.digits.now) = next_at_most c.loop-digit.value c.loop-digit.digit-index c.args.digits.now (omega arith) in grind arith

pub returns-in_err-value : goal.returns-in_err-value
returns-in_err-value c = let h : c.loop-digit.value * 10 + (get_or c.args.digits.now c.loop-digit.digit-index 0 - 48) ≤ digits_value_from c.loop-digit.value (drop c.loop-digit.digit-index c.args.digits.now) = next_at_most c.loop-digit.value c.loop-digit.digit-index c.args.digits.now (omega arith) in grind arith

pub returns : goal.returns
returns c = grind (arith, common_steps, drop_all)
