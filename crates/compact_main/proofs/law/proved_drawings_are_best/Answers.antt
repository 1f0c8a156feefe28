use Rattle.compact_main.proofs.ProvedAnswers.{proved_best}
use Rattle.compact_main.proofs.law.proved_drawings_are_best.Goals as goal

pub returns : goal.returns
returns c = proved_best
