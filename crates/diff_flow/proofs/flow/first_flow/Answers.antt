use Rattle.std.proofs.Common.{arith}
use Rattle.diff_flow.proofs.FlowLemmas.{pulls_balance}
use Rattle.diff_flow.proofs.flow.first_flow.Goals as goal

pub returns-clause-balances : goal.returns-clause-balances
returns-clause-balances c =
    rw (c.from_vec.ensures, ← c.as_slice-arcs.ensures)
    (pulls_balance _ _ _ (omega arith) (λ i inside. c.loop-i.invariant.each i (omega arith)))
