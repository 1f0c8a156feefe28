use Rattle.std.proofs.Common.{ℤ, ◌<◌, ◌+◌, List, length, ap, refl, subst, sym, ◌∙◌, w64, to_z, of_z, arith}
use Rattle.std.proofs.Common.{length-set}
use Rattle.std.proofs.lemmas.Int.{to_z-of_z}
use Rattle.compact_types.specs.declared.places.Point.{Point}
use Rattle.compact_types.specs.Lookups.{place}
use Rattle.compact_types.specs.Scalings.{IsOnGrid, IsScaled}
use Rattle.compact_types.proofs.DivisionLemmas.{IsTimes, one_more_divided, others_not_divided, all_divided}
use Rattle.compact_types.proofs.divisions.divide.Goals as goal

pub divided_point-requires-clause-on_grid : goal.divided_point-requires-clause-on_grid
divided_point-requires-clause-on_grid c =
    let read = ap (λ (points : List Point). place points c.loop-v.v) c.as_slice.ensures ∙ c.loop-v.invariant.2 c.loop-v.v (omega arith) in
    let here = c.requires.on_grid c.loop-v.v (omega (arith, c.loop-v-test.true, c.len-v-end.ensures)) in
    subst (λ (by : ℤ). IsOnGrid by (place c.as_slice.result.now c.loop-v.v)) (sym (to_z-of_z w64 c.args.by c.ranges.by))
    (subst (λ (p : Point). IsOnGrid c.args.by p) (sym read) here)

pub loop-v-preserved : goal.loop-v-preserved
loop-v-preserved c =
    let by = to_z w64 (of_z w64 c.args.by) in
    let before = c.args.places.now.xy in
    let now = c.loop-v.places.xy in
    let part = c.divided_point.result in
    let inside : c.loop-v.v < length now = omega (arith, c.loop-v-test.true, c.len-v-end.ensures, c.loop-v.invariant.0) in
    let read = ap (λ (points : List Point). place points c.loop-v.v) c.as_slice.ensures ∙ c.loop-v.invariant.2 c.loop-v.v (omega arith) in
    let here : IsTimes by (place c.as_slice.result.now c.loop-v.v) part = record { x = c.divided_point.ensures.x; y = c.divided_point.ensures.y } in (
      ap length c.set.ensures ∙ length-set now c.loop-v.v part ∙ c.loop-v.invariant.0,
      one_more_divided by before now c.set.new.self part c.loop-v.v (c.loop-v.v + 1) refl inside c.set.ensures
          (subst (λ (p : Point). IsTimes by p part) read here) c.loop-v.invariant.1,
      others_not_divided before now c.set.new.self part c.loop-v.v (c.loop-v.v + 1) refl c.set.ensures c.loop-v.invariant.2,
    )

pub returns : goal.returns
returns c =
    subst (λ (by : ℤ). IsScaled by c.args.places.now c.loop-v.places) (to_z-of_z w64 c.args.by c.ranges.by)
    (all_divided (to_z w64 (of_z w64 c.args.by)) c.args.places.now c.loop-v.places c.loop-v.v c.loop-v.invariant.0
    (omega (arith, c.loop-v-test.false, c.len-v-end.ensures)) c.loop-v.invariant.1)
