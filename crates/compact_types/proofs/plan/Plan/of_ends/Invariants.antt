-- The pieces so far, whose ends are vertices.
use Rattle.std.proofs.Common.{◌≡◌, take}
use Rattle.compact_types.specs.Lookups.{EndsAreVertices, pieces_between}
use Rattle.compact_types.proofs.plan.Plan.of_ends.Given as goal

abbrev pub invariant-loop-from : goal.invariant-loop-from
invariant-loop-from l = (l.pieces ≡ pieces_between (take l.from-index l.ends)) × EndsAreVertices l.vertices l.pieces
