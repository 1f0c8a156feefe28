use Rattle.std.proofs.Common.{◌≡◌, ◌-◌, ◌++◌}
use Rattle.std.specs.List.{range_with_len}
use Rattle.drawing_read.specs.Spans.{chain, span_pieces}
use Rattle.drawing_read.proofs.spans.push_pieces.Given as goal

abbrev pub invariant-loop-bend : goal.invariant-loop-bend
invariant-loop-bend l =
    l.pieces ++ chain l.from (range_with_len l.bend (l.bend-end - l.bend)) l.span.target ≡ l.initial.pieces ++ span_pieces l.span
