use Rattle.std.proofs.Common.{arith}
use Rattle.compact_main.proofs.OptionWords.{not_written, not_among, no_numeral}
use Rattle.compact_main.proofs.options.number_of.Goals as goal

pub returns-in_default-clause-none : goal.returns-in_default-clause-none
returns-in_default-clause-none c =
    not_written c.args.greatest (omega arith) c.args.digits.now c.parse.result c.parse.ensures.value.0
    c.in-Ok.number c.is_written.result c.in-Ok.is c.if-is_written.false c.is_written.ensures

pub returns-in_default-2-clause-none : goal.returns-in_default-2-clause-none
returns-in_default-2-clause-none c =
    not_among c.args.greatest (omega arith) c.args.digits.now c.parse.result c.parse.ensures.value.0
    c.in-Ok.number c.is_among.result c.in-Ok.is c.if-is_among.false c.is_among.ensures

pub returns-in_default-3-clause-none : goal.returns-in_default-3-clause-none
returns-in_default-3-clause-none c =
    no_numeral c.args.greatest (omega arith) c.args.digits.now c.parse.result c.parse.ensures.value.0 c.in_default.field-0 c.in_default.is
