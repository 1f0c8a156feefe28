use Rattle.std.proofs.Common.{length, refl}
use Rattle.bars.proofs.PointLemmas.{no_drawing}
use Rattle.bars.proofs.points.bars_of_points.Goals as goal

pub returns-in_default-2-clause-exact : goal.returns-in_default-2-clause-exact
returns-in_default-2-clause-exact c =
    no_drawing c.args.points.now c.args.ends.now (length c.args.points.now) c.in_ok-plan.field-0 c.in-Some.plan c.in_ok-places.places c.in_ok-shape.field-0 refl
    c.in-Some.is c.in_ok-plan.ensures c.in_ok-places.ensures.is c.in_default-2.is c.in_ok-shape.ensures
