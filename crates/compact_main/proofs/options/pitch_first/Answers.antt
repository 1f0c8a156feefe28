use Rattle.compact_main.proofs.OptionWords.{pitch_twice, with_number}
use Rattle.compact_main.proofs.options.pitch_first.Goals as goal

pub returns-in-Some : goal.returns-in-Some
returns-in-Some c = λ words are. pitch_twice words c.args.digits.now c.args.rest _ c.in-Some.is are

pub returns-in-None : goal.returns-in-None
returns-in-None c = λ words are.
    with_number words c.args.digits.now c.args.rest c.number_of.result c.with_pitch.result c.in-None.is
    c.number_of.ensures.some c.number_of.ensures.none c.with_pitch.ensures are
