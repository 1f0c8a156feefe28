use Rattle.bars.specs.inner.Leads.{AreLeads}
use Rattle.bars.proofs.lines.join_along.Given as goal

abbrev pub invariant-loop-i : goal.invariant-loop-i
invariant-loop-i l = AreLeads l.axis l.shape l.i l.leads
