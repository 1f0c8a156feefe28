use Rattle.std.proofs.Common.{◌≡◌, ◌+◌, ◌<◌, refl, ap, subst, arith}
use Rattle.compact_types.specs.declared.plan.Shape.{Shape}
use Rattle.cert_check.proofs.CompareLemmas.{stands_at, same_more, first_is_less, first_is_greater, same_is_not_less}
use Rattle.cert_check.proofs.earlier.first_less.Goals as goal

pub returns-in-Less : goal.returns-in-Less
returns-in-Less c = λ places stand.
    let inside : c.loop-v.v < c.args.bars.now.plan.vertices =
    subst (λ (shape : Shape). c.loop-v.v < shape.plan.vertices) c.shape.ensures.shape c.loop-v-test.true in
    let fits = stand.places_fit in
    first_is_less places.xy c.args.points.now c.loop-v.v c.point_of-point.result _ (omega (arith, inside, fits)) (c.loop-v.invariant places stand)
    (stands_at c.args.bars.now c.args.across.now c.args.up.now places c.loop-v.v c.point_of-point.result stand inside c.point_of-point.ensures.x
    c.point_of-point.ensures.y) refl c.in-Less.ensures

pub returns-in-Greater : goal.returns-in-Greater
returns-in-Greater c = λ places stand.
    let inside : c.loop-v.v < c.args.bars.now.plan.vertices =
    subst (λ (shape : Shape). c.loop-v.v < shape.plan.vertices) c.shape.ensures.shape c.loop-v-test.true in
    let fits = stand.places_fit in
    let others = c.requires.fit in
    first_is_greater places.xy c.args.points.now c.loop-v.v c.point_of-point.result _ (omega (arith, inside, fits)) (omega (arith, inside, others))
    (c.loop-v.invariant places stand)
    (stands_at c.args.bars.now c.args.across.now c.args.up.now places c.loop-v.v c.point_of-point.result stand inside c.point_of-point.ensures.x
    c.point_of-point.ensures.y) refl c.in-Greater.ensures

pub returns : goal.returns
returns c = λ places stand.
    let is : c.shape.result.now.plan.vertices ≡ c.args.bars.now.plan.vertices = ap (λ (shape : Shape). shape.plan.vertices) c.shape.ensures.shape in
    let last = c.loop-v-test.false in
    let most = c.loop-v.auto.v-end in
    let all : c.args.bars.now.plan.vertices ≡ c.loop-v.v = omega (arith, is, last, most) in
    let fits = stand.places_fit in
    let others = c.requires.fit in
    same_is_not_less places.xy c.args.points.now c.loop-v.v (omega (arith, fits, all)) (omega (arith, others, all)) (c.loop-v.invariant places stand)

pub loop-v-preserved : goal.loop-v-preserved
loop-v-preserved c = λ places stand.
    let inside : c.loop-v.v < c.args.bars.now.plan.vertices =
    subst (λ (shape : Shape). c.loop-v.v < shape.plan.vertices) c.shape.ensures.shape c.loop-v-test.true in
    same_more places.xy c.args.points.now c.loop-v.v (c.loop-v.v + 1) c.point_of-point.result _ refl (c.loop-v.invariant places stand)
    (stands_at c.args.bars.now c.args.across.now c.args.up.now places c.loop-v.v c.point_of-point.result stand inside c.point_of-point.ensures.x
    c.point_of-point.ensures.y) refl c.in-Equal.ensures
