use Rattle.std.proofs.Common.{List, set, length, ◌∙◌, ◌+◌, w64, to_z, of_z, ◌≡◌, ◌<◌, ◌≤◌, ℕ, ap, subst, sym, refl, arith}
use Rattle.compact_types.specs.declared.places.Point.{Point}
use Rattle.compact_types.specs.declared.plan.Shape.{Shape}
use Rattle.std.proofs.lemmas.Int.{ints}
use Rattle.compact_types.specs.Lookups.{along, place}
use Rattle.bars.specs.Segments.{node_count}
use Rattle.separation.specs.inner.Extents.{AreAtNodes}
use Rattle.separation.proofs.EndLemmas.{numbers_one_more}
use Rattle.separation.proofs.extents.put_coordinates.Goals as goal

pub loop-v-init : goal.loop-v-init
loop-v-init c = λ ways v none. absurd (omega arith)

pub loop-v-preserved : goal.loop-v-preserved
loop-v-preserved c = λ ways.
    (let z = to_z w64 (of_z w64 c.coordinate.result) in
    let fits : c.shape.result.now.plan.vertices ≡ c.args.bars.now.plan.vertices = ap (λ (shape : Shape). shape.plan.vertices) c.shape.ensures.shape in
    let vertex : c.loop-v.v < c.args.bars.now.plan.vertices = (let inside = c.loop-v-test.true in omega (arith, fits, inside)) in
    let room : node_count c.args.axis c.args.bars.now ≤ length c.loop-v.numbers = (let r = c.requires.room in let l = c.loop-v.auto.numbers in omega (arith, r, l)) in
    let is : z ≡ along c.args.axis (place c.args.places.now.xy c.loop-v.v) = (let e = c.coordinate.ensures ∙ ap (λ (l : List Point). along c.args.axis (place l c.loop-v.v)) c.as_slice.ensures in let f = c.coordinate.type_inv in omega (arith, ints, e, f)) in
    subst (λ (node : ℕ). AreAtNodes c.args.axis c.args.bars.now c.args.places.now (c.loop-v.v + 1) (set c.loop-v.numbers node z)) (sym c.node_of.ensures)
    (numbers_one_more c.args.axis c.args.bars.now c.args.places.now c.loop-v.numbers c.loop-v.v (c.loop-v.v + 1) z ways vertex room is refl (c.loop-v.invariant ways)))

pub returns-clause-coordinates : goal.returns-clause-coordinates
returns-clause-coordinates c = λ ways v within.
    c.loop-v.invariant ways v (let fits : c.shape.result.now.plan.vertices ≡ c.args.bars.now.plan.vertices = ap (λ (shape : Shape). shape.plan.vertices) c.shape.ensures.shape in let done = c.loop-v-test.false in omega (arith, fits, done, within))
