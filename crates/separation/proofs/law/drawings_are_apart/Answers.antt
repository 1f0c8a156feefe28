use Rattle.separation.proofs.CompleteExtensions.{drawn_from_apart, apart_from_drawn, separated_apart, chosen_apart}
use Rattle.separation.proofs.law.drawings_are_apart.Goals as goal

pub returns-clause-drawing : goal.returns-clause-drawing
returns-clause-drawing c = λ shape choices places drawing solves.
    (λ is. apart_from_drawn shape drawing places solves.ways is, λ apart. drawn_from_apart shape drawing places solves.ways solves.places_fit apart)

pub returns-clause-not_separated : goal.returns-clause-not_separated
returns-clause-not_separated c = λ shape choices places s t drawing fit solves pair share separated. separated_apart shape choices places drawing fit solves s t pair separated share

pub returns-clause-not_chosen : goal.returns-clause-not_chosen
returns-clause-not_chosen c = λ shape choices places j drawing fit solves within share. chosen_apart shape choices places drawing fit solves j within share
