use Rattle.std.proofs.Common.{ℕ, ◌<◌}
use Rattle.compact_types.specs.declared.places.Axis.{Axis}
use Rattle.compact_types.specs.Lookups.{place, along}
use Rattle.gml_print.proofs.PlaceNumbers.{IsWritable}
use Rattle.gml_print.proofs.places.tests.may_be_put.Given as goal

-- the places so far are within
abbrev pub invariant-loop-point : goal.invariant-loop-point
invariant-loop-point l = (axis : Axis) (v : ℕ) → v < l.point-index → IsWritable (along axis (place l.point-items v))
