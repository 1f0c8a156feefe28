use Rattle.std.proofs.Common.{refl}
use Rattle.compact_main.proofs.CommandWords.{no_sample_of}
use Rattle.compact_main.proofs.words.sample_of.Goals as goal

pub returns-in-Some : goal.returns-in-Some
returns-in-Some c = ((c.args.digits.now, refl, c.in-Some.ensures.some), refl)

pub returns-in-None : goal.returns-in-None
returns-in-None c = no_sample_of c.args.digits.now c.in-None.ensures.none
