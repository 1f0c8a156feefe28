use Rattle.std.proofs.Common.{arith}
use Rattle.cert_text.proofs.ReadLines.{line_found}
use Rattle.cert_text.proofs.reading.lines.line_at.Goals as goal

pub returns-clause-line : goal.returns-clause-line
returns-clause-line c =
    line_found c.args.text.now _ c.line_end-end.ensures.value
    (omega (arith, c.line_end-end.ensures.within))
