use Rattle.separation.proofs.CompleteExtensions.{side_in_drawing, solves_one_more}
use Rattle.separation.proofs.law.drawings_take_a_side.Goals as goal

pub returns-clause-side : goal.returns-clause-side
returns-clause-side c = λ shape places s t is pair. side_in_drawing shape places s t is pair

pub returns-clause-added : goal.returns-clause-added
returns-clause-added c = λ shape choices places s t side solves holds. solves_one_more shape choices places s t side solves holds

pub returns-clause-solved : goal.returns-clause-solved
returns-clause-solved c = λ shape choices places s t is solves pair.
    (let side = side_in_drawing shape places s t is pair in (side.0, side.1, solves_one_more shape choices places s t side.0 solves side.2))
