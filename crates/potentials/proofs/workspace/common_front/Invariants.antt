use Rattle.std.proofs.Common.{◌≡◌, ◌≤◌, length, take}
use Rattle.potentials.proofs.workspace.common_front.Given as goal

abbrev pub invariant-loop-i : goal.invariant-loop-i
invariant-loop-i l = (take l.i l.choices ≡ take l.i l.others) × (l.i ≤ length l.others)
