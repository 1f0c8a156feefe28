use Rattle.compact_main.proofs.SampleOutputs.{sample_checked, sample_measured, sample_told}
use Rattle.compact_main.proofs.sampled.draw_sample.Goals as goal

pub check_own-requires-clause-can : goal.check_own-requires-clause-can
check_own-requires-clause-can g c =
    sample_checked c.args.number c.in_ok-bars.bars c.in_ok-bars.places c.in_ok-best.best.key.places c.requires.some c.requires.most
    c.in_ok-bars.ensures.sample c.in_ok-bars.ensures.shape c.in_ok-best.ensures.best
    c.in_ok-tree.tree.nodes c.in_ok-tree.ensures.tree c.in_ok-tree.ensures.shallow

pub told-requires-clause-measurable : goal.told-requires-clause-measurable
told-requires-clause-measurable g c =
    sample_measured c.args.number c.in_ok-bars.bars c.in_ok-bars.places c.in_ok-best.best.key.places c.requires.some c.requires.most
    c.in_ok-bars.ensures.sample c.in_ok-bars.ensures.shape c.in_ok-best.ensures.best

pub returns : goal.returns
returns g c =
    sample_told c.args.number c.in_ok-bars.bars c.in_ok-bars.places c.in_ok-best.best.key.places c.requires.some c.requires.most
    c.in_ok-bars.ensures.sample c.in_ok-bars.ensures.shape c.in_ok-best.ensures.best
    c.in_ok-tree.tree.nodes c.told.result c.in_ok-tree.ensures.accepted c.in_ok-tree.ensures.shallow c.told.ensures
