use Rattle.std.proofs.Common.{◌≡◌, ◌+◌, ◌-◌, take}
use Rattle.potentials.specs.inner.Solvers.{IsWorkspaceOf}
use Rattle.potentials.proofs.workspace.FlowWorkspace.go_back.Given as goal

abbrev pub invariant-loop : goal.invariant-loop
invariant-loop l = IsWorkspaceOf l.bars l.self × (l.self.graphs.choices ≡ take ((l.end + l.kept) - l.counter) l.fn.self.graphs.choices)
