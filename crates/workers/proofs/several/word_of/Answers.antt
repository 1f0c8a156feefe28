use Rattle.std.proofs.Common.{◌≡◌, ◌∙◌, pos, ℕ, w64, to_z, of_z, ap, subst, sym, arith, rules}
use Rattle.std.specs.Prelude.{unsigned_abs}
use mir.Val.{SFits}
use Rattle.std.proofs.lemmas.Int.{ints, to_z-of_z}
use Rattle.compact_types.specs.declared.plan.Shape.{Shape}
use Rattle.compact_types.specs.Bests.{IsAttained}
use Rattle.workers.proofs.SharingLemmas.{drawn_key_attained, drawn_key_positive}
use Rattle.workers.proofs.several.word_of.Goals as goal

pub new-requires-clause-attained : goal.new-requires-clause-attained
new-requires-clause-attained g c κs within =
    let fits : SFits w64 c.args.key.now.worth = search rules in
    subst (λ (n : ℕ). IsAttained g.P.Backing.objective c.shape.result.now (pos n))
    (sym (c.unsigned_abs.ensures.value ∙ ap unsigned_abs (to_z-of_z w64 c.args.key.now.worth fits)))
    (subst (λ (s : Shape). IsAttained g.P.Backing.objective s (pos (unsigned_abs c.args.key.now.worth))) (sym c.shape.ensures.shape)
    (drawn_key_attained g.P.Backing.objective c.args.bars.now c.args.key.now c.requires))

pub new-requires-clause-small : goal.new-requires-clause-small
new-requires-clause-small g c κs within =
    let fits : SFits w64 c.args.key.now.worth = search rules in
    let same : to_z w64 (of_z w64 c.args.key.now.worth) ≡ c.args.key.now.worth = to_z-of_z w64 c.args.key.now.worth fits in
    let positive = drawn_key_positive g.P.Backing.objective c.args.bars.now c.args.key.now c.requires in
    let value = c.unsigned_abs.ensures.value ∙ ap unsigned_abs same in
    omega (arith, ints, fits, positive, value)
