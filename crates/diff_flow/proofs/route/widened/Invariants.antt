use Rattle.std.proofs.Common.{◌≡◌, take}
use Rattle.diff_flow.proofs.route.widened.Given as goal

abbrev pub invariant-loop-amount : goal.invariant-loop-amount
invariant-loop-amount l = l.amounts.items ≡ take l.amount-index l.given
