use Rattle.board.specs.Boards.{board_state}
use Rattle.board.specs.Histories.{branch_count}
use Rattle.cert_text.specs.inner.Outlines.{BeginsCertificate, work_waiting}
use Rattle.cert_text.proofs.trimming.trim.Given as goal

abbrev pub invariant-loop-id : goal.invariant-loop-id
invariant-loop-id l = BeginsCertificate l.board l.nodes l.waiting.items

abbrev pub decreases-loop-id : goal.decreases-loop-id
decreases-loop-id l = work_waiting (branch_count (board_state l.board)) l.waiting.items
