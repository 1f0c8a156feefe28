use Rattle.reach_rows.proofs.RowLemmas.{AreDone}
use Rattle.reach_rows.proofs.adding.take_all.Given as goal

abbrev pub invariant-loop-x : goal.invariant-loop-x
invariant-loop-x l = AreDone l.words l.nodes l.a l.b l.x l.initial.bits l.bits
