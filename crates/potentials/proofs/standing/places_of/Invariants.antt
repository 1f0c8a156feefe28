use Rattle.std.proofs.Common.{◌≡◌, ℕ, ◌<◌, length}
use Rattle.compact_types.specs.declared.places.Axis.{Axis}
use Rattle.compact_types.specs.Lookups.{along, place}
use Rattle.bars.specs.Segments.{node_of}
use Rattle.potentials.specs.Standing.{numbers_along}
use Rattle.potentials.proofs.standing.places_of.Given as goal

abbrev pub invariant-loop-v : goal.invariant-loop-v
invariant-loop-v l = record {
  so_many : length l.xy.items ≡ l.v;
  each : (axis : Axis) (w : ℕ) → w < l.v →
      along axis (place l.xy.items w) ≡ numbers_along l.across l.up axis (node_of axis l.bars w);
}
