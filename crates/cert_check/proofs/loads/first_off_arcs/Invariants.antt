use Rattle.std.proofs.Common.{◌<◌, ℕ, length}
use Rattle.cert_text.specs.Loads.{load_at}
use Rattle.cert_check.proofs.loads.first_off_arcs.Given as goal

abbrev pub invariant-loop-k : goal.invariant-loop-k
invariant-loop-k l = (before : ℕ) → before < l.k → (load_at l.loads before).arc < length l.graph.arcs
