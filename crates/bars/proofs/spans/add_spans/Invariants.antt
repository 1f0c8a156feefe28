use Rattle.std.proofs.Common.{◌≡◌, ◌++◌}
use Rattle.bars.specs.inner.Spans.{spans_below}
use Rattle.bars.proofs.spans.add_spans.Given as goal

abbrev pub invariant-loop-line : goal.invariant-loop-line
invariant-loop-line l = l.spans.items ≡ l.fn.spans.items ++ spans_below l.fn.axis l.fn.shape l.line
