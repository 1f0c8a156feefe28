use Rattle.std.proofs.Common.{subst}
use Rattle.compact_main.specs.inner.WordOptions.{AreFound}
use Rattle.compact_main.proofs.options.pitch_before.Goals as goal

pub returns-in-Some : goal.returns-in-Some
returns-in-Some c = λ words are. c.pitch_first.ensures words (subst (AreFound words) c.in-Some.is are)
