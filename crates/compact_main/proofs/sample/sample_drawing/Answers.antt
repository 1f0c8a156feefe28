use Rattle.compact_main.proofs.SampleLaws.{sound_sample}
use Rattle.compact_main.proofs.sample.sample_drawing.Goals as goal

pub bars_of-requires : goal.bars_of-requires
bars_of-requires c =
    sound_sample c.args.number c.in_ok-shape.shape c.in_ok-shape.places c.requires.some c.requires.most c.in_ok-shape.ensures.sample
    c.in_ok-shape.ensures.shape
