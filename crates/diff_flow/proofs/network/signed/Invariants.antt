use Rattle.std.proofs.Common.{◌≡◌, map, take, pos}
use Rattle.diff_flow.proofs.network.signed.Given as goal

abbrev pub invariant-loop-number : goal.invariant-loop-number
invariant-loop-number l = l.list.items ≡ map pos (take l.number-index l.numbers)
