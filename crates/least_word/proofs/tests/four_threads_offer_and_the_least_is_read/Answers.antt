use Rattle.std.proofs.Common.{sym, ◌∙◌, subst, pos}
use Rattle.compact_types.specs.declared.plan.Shape.{Shape}
use Rattle.compact_types.specs.Bests.{IsAttained}
use Rattle.compact_types.specs.Bests.Objective.{total_length}
use Rattle.least_word.proofs.tests.four_threads_offer_and_the_least_is_read.Goals as goal

pub read_after_four-requires-clause-attained : goal.read_after_four-requires-clause-attained
read_after_four-requires-clause-attained g c κs =
    subst (λ (shape : Shape). IsAttained total_length shape (pos c.in_ok-five.five)) (sym c.in_ok-word.ensures.shape) c.in_ok-five.ensures.attained
