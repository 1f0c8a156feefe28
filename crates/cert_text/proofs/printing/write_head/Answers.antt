use Rattle.std.proofs.Common.{codes, decimal}
use Rattle.std.proofs.lemmas.Result.{on_ok_weaker}
use Rattle.cert_text.proofs.PrintedLists.{three_added}
use Rattle.cert_text.proofs.printing.write_head.Goals as goal

-- the start of the line is written at once
pub returns : goal.returns
returns c =
    on_ok_weaker c.extend_from_slice-2.result
    (three_added c.args.text.now (codes "#! compaction 1 pitch ")
    (decimal c.args.pitch) (codes "\n") _ _ _
    c.in_ok-extend_from_slice.ensures.ok c.in_ok-write_number.ensures)
    c.extend_from_slice-2.ensures.ok
