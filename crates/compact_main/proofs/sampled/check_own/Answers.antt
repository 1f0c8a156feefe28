use Rattle.cert_check.proofs.Laws.{no_fault}
use Rattle.compact_main.proofs.sampled.check_own.Goals as goal

pub unreachable-requires : goal.unreachable-requires
unreachable-requires c =
    no_fault c.args.bars.now c.args.places.now c.args.tree.now.nodes c.requires.accepted c.in-Err-Fault._fault
    (rw c.in-Err-Fault.field-0-is at c.in-Err-Fault.ensures.fault)
