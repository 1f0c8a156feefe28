use Rattle.std.proofs.Common.{◌≡◌, take}
use Rattle.potentials.specs.inner.Solvers.{IsWorkspaceOf}
use Rattle.potentials.proofs.workspace.FlowWorkspace.follow.Given as goal

abbrev pub invariant-loop-i : goal.invariant-loop-i
invariant-loop-i l = IsWorkspaceOf l.bars l.self × (l.self.graphs.choices ≡ take l.i l.choices)
