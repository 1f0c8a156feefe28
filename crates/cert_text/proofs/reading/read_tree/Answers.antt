use Rattle.std.proofs.Common.{◌≡◌, true, false, arith}
use Rattle.std.proofs.lemmas.Bool.Decides.{nat_tests}
use Rattle.cert_text.proofs.ReadLines.{not_at_end}
use Rattle.cert_text.proofs.ReadTrees.{bad_line_is, body_is, entry_read, missing_branch_is}
use Rattle.cert_text.proofs.ReadTrees.{no_entry_here, no_line_here, nothing_read, trailing_line_is}
use Rattle.cert_text.proofs.reading.read_tree.Goals as goal

pub loop-left-init : goal.loop-left-init
loop-left-init c = nothing_read _ _ c.new-nodes.ensures

pub returns-then-is_end-clause-fault : goal.returns-then-is_end-clause-fault
returns-then-is_end-clause-fault c = rw (c.fault.ensures, c.len.ensures)
    (missing_branch_is c.args.text.now c.loop-left.nodes c.loop-left.left _ c.loop-left.invariant
    (omega arith)
    (c.is_end.ensures.0 c.if-is_end.true))

pub returns-in_default-clause-fault : goal.returns-in_default-clause-fault
returns-in_default-clause-fault c = rw (c.fault-in_default.ensures, c.len-in_default.ensures)
    (bad_line_is c.args.text.now c.loop-left.nodes c.loop-left.left _ c.loop-left.invariant
    (omega arith)
    (no_line_here _ (not_at_end _ _ c.is_end.ensures c.if-is_end.false) c.in_default.ensures.line))

pub returns-in_default-2-clause-fault : goal.returns-in_default-2-clause-fault
returns-in_default-2-clause-fault c = rw (c.fault-in_default-2.ensures, c.len-in_default-2.ensures)
    (bad_line_is c.args.text.now c.loop-left.nodes c.loop-left.left _ c.loop-left.invariant
    (omega arith)
    (no_entry_here _ _ _ c.in-Some.ensures.line (rw (c.in_default-2.is) at c.in_ok-node.ensures)))

pub loop-left-preserved : goal.loop-left-preserved
loop-left-preserved c = entry_read _ _ _ _ _ _ _ _ _ c.loop-left.invariant (omega arith)
    c.in-Some.ensures.line (rw (c.in-Some-2.is) at c.in_ok-node.ensures) c.in_ok-push.ensures.ok
    (omega (arith, c.branches.ensures)) c.in-Some.ensures.shorter

pub returns-then-not-is_end-clause-fault : goal.returns-then-not-is_end-clause-fault
returns-then-not-is_end-clause-fault c = rw
    (c.fault-then-not-is_end.ensures, c.len-then-not-is_end.ensures)
    (trailing_line_is c.args.text.now c.loop-left.nodes c.loop-left.left _ c.loop-left.invariant
    (omega arith)
    (not_at_end _ _ c.is_end-2.ensures (let e : c.is_end-2.result ≡ false =
    grind (arith, nat_tests) in e)))

pub returns-clause-value : goal.returns-clause-value
returns-clause-value c =
    body_is c.args.text.now c.loop-left.nodes c.loop-left.left _ c.loop-left.invariant (omega arith)
    (c.is_end-2.ensures.0 (let e : c.is_end-2.result ≡ true = grind (arith, nat_tests) in e))
