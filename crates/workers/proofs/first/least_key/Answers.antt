use Rattle.workers.proofs.FirstLemmas.{never_cyclic}
use Rattle.workers.proofs.first.least_key.Goals as goal

pub unreachable-requires : goal.unreachable-requires
unreachable-requires g c =
    never_cyclic g.M.Proof.Backing.objective c.args.bars.now c.args.extension.now.choices c.args.places.now c.requires.drawing c.requires.fit c.requires.solved
    c.in_ok-verdict.verdict c.in-Cyclic.axis c.in-Cyclic.cycle c.in_ok-verdict.ensures.right c.in-Cyclic.is
