use Rattle.std.proofs.Common.{arith, ap, length, refl, ◌<◌, ◌+◌, w64, to_z}
use Rattle.std.proofs.lemmas.Int.{ints}
use Rattle.compact_types.specs.declared.limits.TheConstants.{GREATEST_THOUSANDTHS, MOST_PIECES}
use Rattle.compact_types.proofs.EndLemmas.{from_within, to_within}
use Rattle.compact_types.proofs.LengthLemmas.{place_within, one_piece_longer}
use Rattle.compact_types.proofs.lengths.plain_length.Goals as goal

pub distance-sum-requires-clause-from : goal.distance-sum-requires-clause-from
distance-sum-requires-clause-from c =
    place_within GREATEST_THOUSANDTHS c.args.places.now c.as_slice-points.result.now _ c.as_slice-points.ensures c.requires.near
    (from_within c.args.plan.now c.args.places.now _ _ c.as_slice-pieces.ensures c.as_slice-points.ensures c.requires.fit c.loop-i.i c.loop-i-test.true)

pub distance-sum-requires-clause-to : goal.distance-sum-requires-clause-to
distance-sum-requires-clause-to c =
    place_within GREATEST_THOUSANDTHS c.args.places.now c.as_slice-points.result.now _ c.as_slice-points.ensures c.requires.near
    (to_within c.args.plan.now c.args.places.now _ _ c.as_slice-pieces.ensures c.as_slice-points.ensures c.requires.fit c.loop-i.i c.loop-i-test.true)

pub loop-i-preserved : goal.loop-i-preserved
loop-i-preserved c =
    let few : c.loop-i.i < MOST_PIECES = omega (arith, ap length c.as_slice-pieces.ensures, c.requires.few, c.loop-i-test.true) in (
      one_piece_longer c.args.plan.now c.args.places.now c.as_slice-pieces.result.now c.as_slice-points.result.now c.as_slice-pieces.ensures c.as_slice-points.ensures
          c.loop-i.i (c.loop-i.i + 1) (to_z w64 c.loop-i.sum-bits) _ c.distance-sum.result refl c.loop-i.invariant.0 c.distance-sum.ensures.is (omega (arith, ints)),
      omega (arith, ints),
      omega (arith, ints),
    )
