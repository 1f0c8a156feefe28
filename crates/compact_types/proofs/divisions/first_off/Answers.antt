use Rattle.std.proofs.Common.{ℤ, ◌+◌, length, ap, refl, subst, w64, to_z, of_z, arith}
use Rattle.std.proofs.lemmas.Int.{to_z-of_z}
use Rattle.compact_types.specs.Lookups.{place}
use Rattle.compact_types.specs.Scalings.{IsOnGrid, IsFirstOff}
use Rattle.compact_types.proofs.DivisionLemmas.{off_here, one_more_on_grid}
use Rattle.compact_types.proofs.divisions.first_off.Goals as goal

pub returns-then-not-is_on_grid : goal.returns-then-not-is_on_grid
returns-then-not-is_on_grid c =
    subst (λ (by : ℤ). IsFirstOff by c.args.places.now c.loop-v.v) (to_z-of_z w64 c.args.by c.ranges.by)
    (off_here (to_z w64 (of_z w64 c.args.by)) c.args.places.now c.as_slice-points.result.now c.loop-v.v c.as_slice-points.ensures c.loop-v-test.true
    c.if-not-is_on_grid.ensures c.loop-v.invariant)

pub loop-v-preserved : goal.loop-v-preserved
loop-v-preserved c =
    one_more_on_grid (to_z w64 (of_z w64 c.args.by)) c.args.places.now c.as_slice-points.result.now c.loop-v.v (c.loop-v.v + 1) refl
    c.as_slice-points.ensures c.if-not-is_on_grid.ensures c.loop-v.invariant

pub returns : goal.returns
returns c = λ v inside.
    subst (λ (by : ℤ). IsOnGrid by (place c.args.places.now.xy v)) (to_z-of_z w64 c.args.by c.ranges.by)
    (c.loop-v.invariant v (omega (arith, inside, ap length c.as_slice-points.ensures, c.loop-v-test.false)))
