use Rattle.std.proofs.Common.{inl, inr}
use Rattle.compact_types.proofs.ListLemmas.{not_all_vertices}
use Rattle.compact_types.proofs.plan.Plan.of_ends.Goals as goal
use Rattle.compact_types.proofs.plan.Plan.of_ends.Goals.{then-from-vertices-via-then-from-vertices, then-from-vertices-via-else-from-vertices+then-to-vertices}

pub returns-then-from-vertices : goal.returns-then-from-vertices
returns-then-from-vertices c = elim c.then-from-vertices.branch [
  | then-from-vertices-via-then-from-vertices w ↦
      not_all_vertices c.args.vertices c.args.ends.now c.loop-from.from-index _ c.loop-from-test.true (inl w.if-from-vertices.true)
  | then-from-vertices-via-else-from-vertices+then-to-vertices w ↦
      not_all_vertices c.args.vertices c.args.ends.now c.loop-from.from-index _ c.loop-from-test.true (inr w.if-to-vertices.true)
]
