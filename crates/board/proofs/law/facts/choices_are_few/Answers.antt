use Rattle.board.proofs.FewChoices.{few_choices, few_choices_of}
use Rattle.board.proofs.law.facts.choices_are_few.Goals as goal

pub returns-clause-pairs : goal.returns-clause-pairs
returns-clause-pairs c = λ shape choices sound. few_choices shape choices sound

pub returns-clause-few : goal.returns-clause-few
returns-clause-few c = λ shape choices whole sound. few_choices_of shape choices whole sound
