use Rattle.potentials.proofs.LengthLemmas.{length_is}
use Rattle.potentials.proofs.law.lengths_by_graphs.Goals as goal

pub returns : goal.returns
returns c = λ shape choices places numbers solves stand. length_is shape choices places solves numbers stand
