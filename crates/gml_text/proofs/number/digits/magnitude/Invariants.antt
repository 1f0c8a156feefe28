use Rattle.std.proofs.Common.{◌≡◌, ◌<◌, ◌^◌, drop}
use Rattle.gml_text.specs.Numerals.{digits_value_from}
use Rattle.gml_text.proofs.number.digits.magnitude.Given as goal

abbrev pub invariant-loop-digit : goal.invariant-loop-digit
invariant-loop-digit l = (digits_value_from l.value (drop l.digit-index l.digits) ≡ digits_value_from l.fn.before l.digits) × (l.value < 2 ^ 64)
