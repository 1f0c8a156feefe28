use Rattle.separation.proofs.CompleteExtensions.{drawn_from_complete}
use Rattle.separation.proofs.law.complete_solutions_are_drawings.Goals as goal

pub returns : goal.returns
returns c = λ shape choices places drawing fit complete solves. drawn_from_complete shape choices places drawing fit solves complete
