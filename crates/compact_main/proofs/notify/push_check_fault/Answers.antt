use Rattle.compact_main.proofs.LineLengths.{then}
use Rattle.compact_main.proofs.notify.push_check_fault.Goals as goal

pub returns-in-NotFromZero-clause-added : goal.returns-in-NotFromZero-clause-added
returns-in-NotFromZero-clause-added c = rw c.in-NotFromZero.is c.push.ensures

pub returns-in-Unbalanced-clause-added : goal.returns-in-Unbalanced-clause-added
returns-in-Unbalanced-clause-added c =
    let named = rw c.name_of.ensures.is at c.push-in-Unbalanced.ensures in
    rw c.in-Unbalanced.is (then (then (then c.push_entry-in-Unbalanced.ensures.added named) c.push-in-Unbalanced-2.ensures) c.push_number.ensures.added)

pub returns-in-NotACycle-clause-added : goal.returns-in-NotACycle-clause-added
returns-in-NotACycle-clause-added c = rw c.in-NotACycle.is c.push_entry-in-NotACycle.ensures.added

pub returns-in-NoArc-clause-added : goal.returns-in-NoArc-clause-added
returns-in-NoArc-clause-added c =
    let named = rw c.name_of-in-NoArc.ensures.is at c.push-in-NoArc-2.ensures in
    rw c.in-NoArc.is (then (then (then c.push_entry-in-NoArc.ensures.added c.push_number-in-NoArc.ensures.added) c.push-in-NoArc.ensures) named)
