use Rattle.std.proofs.Common.{refl, arith}
use Rattle.separation.proofs.EndLemmas.{put_one_more}
use Rattle.separation.proofs.extents.put_extents.Goals as goal

pub extent_of-requires-clause-xs : goal.extent_of-requires-clause-xs
extent_of-requires-clause-xs c =
    let few = c.requires.xs in let len = c.put_coordinates.ensures.len in omega (arith, few, len)

pub extent_of-requires-clause-ys : goal.extent_of-requires-clause-ys
extent_of-requires-clause-ys c =
    let few = c.requires.ys in let len = c.put_coordinates-2.ensures.len in omega (arith, few, len)

pub loop-s-init : goal.loop-s-init
loop-s-init c = record { segment = λ k none. absurd (omega arith); extent = λ ways k none. absurd (omega arith) }

pub loop-s-preserved : goal.loop-s-preserved
loop-s-preserved c =
    put_one_more c.args.bars.now c.args.places.now c.loop-s.s _ c.loop-s.extents c.extent_of.result
    (let below = c.loop-s-test.true in let count = c.bars-s-end.ensures in let len = c.loop-s.auto.extents in let fits = c.requires.one_for_each in omega (arith, below, count, len, fits))
    refl c.extent_of.ensures.segment
    (λ ways. c.extent_of.ensures.extent c.args.places.now (c.put_coordinates.ensures.coordinates ways) (c.put_coordinates-2.ensures.coordinates ways))
    c.loop-s.invariant
