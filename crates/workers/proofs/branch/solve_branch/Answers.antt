use Rattle.std.proofs.Common.{◌≡◌, ℤ, w64, to_z, of_z, subst, sym, arith}
use Rattle.std.proofs.lemmas.Int.{ints}
use Rattle.compact_types.specs.Bests.{IsAttained}
use Rattle.workers.proofs.BranchLemmas.{sound_from_asked}
use Rattle.workers.proofs.branch.solve_branch.Goals as goal

pub returns-clause-sound : goal.returns-clause-sound
returns-clause-sound g c =
    let same : to_z w64 (of_z w64 c.args.stop) ≡ c.args.stop = omega (arith, ints) in
    sound_from_asked g.M.Proof.Backing.objective g.M.Proof.Backing.backs c.args.bars.now c.args.extension.now.choices _ c.in_ok-verdict.verdict
    c.in_ok-verdict.ensures.right c.in_ok-verdict.ensures.backed c.in_ok-verdict.ensures.asked
    (subst (λ (z : ℤ). IsAttained g.M.Proof.Backing.objective c.args.bars.now z) (sym same) c.requires.stop)
