use Rattle.std.proofs.Common.{◌<◌, ◌+◌, List, length, ap, refl, ◌∙◌, arith}
use Rattle.std.proofs.Common.{length-set}
use Rattle.compact_types.specs.declared.limits.TheConstants.{GREATEST_THOUSANDTHS}
use Rattle.compact_types.specs.declared.places.Point.{Point}
use Rattle.compact_types.specs.Lookups.{place}
use Rattle.compact_types.specs.inner.Corners.{seen_from}
use Rattle.compact_types.proofs.CornerLemmas.{seen_from_parts, one_more_shifted, others_not_shifted, point_within, all_shifted}
use Rattle.compact_types.proofs.shifts.shift.Goals as goal

pub shifted-requires-clause-point : goal.shifted-requires-clause-point
shifted-requires-clause-point c =
    let long = ap length c.as_slice.ensures ∙ c.loop-v.invariant.0 in
    point_within GREATEST_THOUSANDTHS c.args.places.now c.as_slice.result.now c.loop-v.v c.requires.near long
    (omega (arith, long, c.loop-v-test.true, c.len-v-end.ensures))
    (ap (λ (points : List Point). place points c.loop-v.v) c.as_slice.ensures ∙ c.loop-v.invariant.2 c.loop-v.v (omega arith))

pub loop-v-preserved : goal.loop-v-preserved
loop-v-preserved c =
    let before = c.args.places.now.xy in
    let now = c.loop-v.places.xy in
    let inside : c.loop-v.v < length now = omega (arith, c.loop-v-test.true, c.len-v-end.ensures, c.loop-v.invariant.0) in
    let read = ap (λ (points : List Point). place points c.loop-v.v) c.as_slice.ensures ∙ c.loop-v.invariant.2 c.loop-v.v (omega arith) in
    let seen = seen_from_parts c.args.corner (place c.as_slice.result.now c.loop-v.v) c.shifted.result c.shifted.ensures.x c.shifted.ensures.y in (
      ap length c.set.ensures ∙ length-set now c.loop-v.v c.shifted.result ∙ c.loop-v.invariant.0,
      one_more_shifted before now c.set.new.self c.args.corner c.shifted.result c.loop-v.v (c.loop-v.v + 1) refl inside c.set.ensures
          (seen ∙ ap (seen_from c.args.corner) read) c.loop-v.invariant.1,
      others_not_shifted before now c.set.new.self c.shifted.result c.loop-v.v (c.loop-v.v + 1) refl c.set.ensures c.loop-v.invariant.2,
    )

pub returns : goal.returns
returns c =
    all_shifted c.args.places.now c.loop-v.places c.loop-v.v c.args.corner c.loop-v.invariant.0
    (omega (arith, c.loop-v-test.false, c.len-v-end.ensures)) c.loop-v.invariant.1
