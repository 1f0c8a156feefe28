use Rattle.std.proofs.Common.{◌≡◌, ◌∙◌, pos, ℕ, w64, to_z, of_z, ap, subst, sym, arith, rules}
use Rattle.std.specs.Prelude.{unsigned_abs}
use mir.Val.{SFits}
use Rattle.std.proofs.lemmas.Int.{ints, to_z-of_z}
use Rattle.compact_types.specs.Bests.{IsAttained}
use Rattle.workers.proofs.SharingLemmas.{drawn_attained, worth_is_positive}
use Rattle.workers.proofs.sharing.offer.Goals as goal

pub offer-requires-clause-attained : goal.offer-requires-clause-attained
offer-requires-clause-attained g c κs within =
    let fits : SFits w64 c.in-Least-None.key.worth = search rules in
    subst (λ (n : ℕ). IsAttained g.P.Backing.objective c.args.word.now.shape (pos n))
    (sym (c.unsigned_abs.ensures.value ∙ ap unsigned_abs (to_z-of_z w64 c.in-Least-None.key.worth fits)))
    (drawn_attained g.P.Backing.objective c.args.word.now.shape c.args.solved.now.verdict c.args.solved.now.pair c.in-Least-None.key c.in-Least-None.proof-0
    c.requires.solved c.in-Least-None.is-0 c.in-Least-None.is-1)

pub offer-requires-clause-small : goal.offer-requires-clause-small
offer-requires-clause-small g c κs within =
    let fits : SFits w64 c.in-Least-None.key.worth = search rules in
    let same : to_z w64 (of_z w64 c.in-Least-None.key.worth) ≡ c.in-Least-None.key.worth = to_z-of_z w64 c.in-Least-None.key.worth fits in
    let positive = worth_is_positive g.P.Backing.objective c.args.word.now.shape c.args.solved.now.verdict c.args.solved.now.pair c.in-Least-None.key
    c.in-Least-None.proof-0 c.requires.solved c.in-Least-None.is-0 in
    let value = c.unsigned_abs.ensures.value ∙ ap unsigned_abs same in
    omega (arith, ints, fits, positive, value)
