use Rattle.std.proofs.Common.{◌+◌, ◌++◌, arith}
use Rattle.drawing_read.specs.Spans.{span_pieces}
use Rattle.drawing_read.proofs.LoopSteps.{chain_more}
use Rattle.drawing_read.proofs.spans.push_pieces.Goals as goal

pub loop-bend-preserved : goal.loop-bend-preserved
loop-bend-preserved c =
    rw (c.in_ok-push.ensures.ok, c.new.ensures) (chain_more c.loop-bend.pieces (c.args.pieces.now ++ span_pieces c.args.span) c.loop-bend.from c.loop-bend.bend
    (c.args.span.first + c.args.span.bends) c.args.span.target (omega arith) c.loop-bend.invariant)
