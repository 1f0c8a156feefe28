use Rattle.shape_graphs.proofs.KeyLemmas.{exact}
use Rattle.shape_graphs.proofs.measure.verdicts_are_exact.Goals as goal

pub returns-clause-cyclic : goal.returns-clause-cyclic
returns-clause-cyclic g c = λ objective shape choices stop verdict right asked.
    (exact objective shape choices stop verdict right asked).0

pub returns-clause-above : goal.returns-clause-above
returns-clause-above g c = λ objective shape choices stop verdict right asked.
    (exact objective shape choices stop verdict right asked).1

pub returns-clause-least : goal.returns-clause-least
returns-clause-least g c = λ objective shape choices stop verdict right asked.
    (exact objective shape choices stop verdict right asked).2
