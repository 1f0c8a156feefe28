use Rattle.compact_types.specs.Lookups.{origin}
use Rattle.compact_main.specs.Samples.{IsTable, sample_place}
use Rattle.compact_main.proofs.sample.points_of.Given as goal

abbrev pub invariant-loop-vertex : goal.invariant-loop-vertex
invariant-loop-vertex l = IsTable origin (sample_place l.number) l.vertex l.points
