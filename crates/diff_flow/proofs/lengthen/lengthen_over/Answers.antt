use Rattle.std.proofs.Common.{◌≡◌, ℕ, ◌<◌, ◌+◌, ◌⊎◌, arith, subst}
use Rattle.diff_flow.specs.declared.steps.ResidualArc.{ResidualArc}
use Rattle.diff_flow.specs.inner.Numbers.{height, IsInList, IsLift, Waits}
use Rattle.diff_flow.specs.inner.Lengthening.{MeetsAlong}
use Rattle.diff_flow.proofs.LengthenLemmas.{over_kept, over_too_high, over_start, over_raised}
use Rattle.diff_flow.proofs.lengthen.lengthen_over.Goals as goal

pub returns-in-Kept-clause-lengthened : goal.returns-in-Kept-clause-lengthened
returns-in-Kept-clause-lengthened c =
    let steps = c.args.steps.now in
    over_kept steps.nodes steps.arcs steps.reach steps.list.items c.args.limit c.args.start c.args.numbers.now c.args.waits.now c.args.queue.now.items
    steps.within c.args.k c.requires.inside c.requires.start c.requires.lengthens c.requires.climb c.lift.new.numbers c.in-Kept.ensures.0
    (subst (MeetsAlong c.args.numbers.now) c.at-step.ensures.is (λ some. c.in-Kept.ensures.1 (omega (arith, some))))

pub returns-in-TooHigh-clause-lengthened : goal.returns-in-TooHigh-clause-lengthened
returns-in-TooHigh-clause-lengthened c =
    let steps = c.args.steps.now in
    let up : 0 < c.at-step.result.up = omega (arith, c.in-TooHigh.ensures.0) in
    over_too_high steps.nodes steps.arcs steps.reach steps.list.items c.args.limit c.args.start c.args.numbers.now c.args.waits.now c.args.queue.now.items
    steps.within c.args.k c.requires.inside c.requires.start c.requires.lengthens c.requires.climb
    (subst (λ (s : ResidualArc). 0 < s.up) c.at-step.ensures.is up)
    (subst (λ (s : ResidualArc). c.args.limit + s.down < height c.args.numbers.now s.from + s.up) c.at-step.ensures.is c.in-TooHigh.ensures.1)

pub returns-then-step-start-clause-lengthened : goal.returns-then-step-start-clause-lengthened
returns-then-step-start-clause-lengthened c =
    let steps = c.args.steps.now in
    let up : 0 < c.at-step.result.up = omega (arith, c.in-Raised.ensures.0) in
    let lifted = c.in-Raised.ensures.1 in
    over_start steps.nodes steps.arcs steps.reach steps.list.items c.args.limit c.args.start c.args.numbers.now c.args.waits.now c.args.queue.now.items
    steps.within c.args.k c.requires.inside c.requires.start c.requires.lengthens c.requires.climb c.lift.new.numbers lifted.0
    (subst (λ (s : ResidualArc). 0 < s.up) c.at-step.ensures.is up)
    (subst (λ (s : ResidualArc). IsLift s c.args.numbers.now c.lift.new.numbers lifted.0) c.at-step.ensures.is lifted.1)
    (subst (λ (s : ResidualArc). s.to ≡ c.args.start) c.at-step.ensures.is c.if-step-start.true)

pub returns-in_ok-wait-in-Raised-clause-lengthened : goal.returns-in_ok-wait-in-Raised-clause-lengthened
returns-in_ok-wait-in-Raised-clause-lengthened c =
    let steps = c.args.steps.now in
    let up : 0 < c.at-step.result.up = omega (arith, c.in-Raised.ensures.0) in
    let lifted = c.in-Raised.ensures.1 in
    let waits = rw c.requires.lengthens.lists.flags at c.in_ok-wait-in-Raised.ensures.waits in
    over_raised steps.nodes steps.arcs steps.reach steps.list.items c.args.limit c.args.start c.args.numbers.now c.args.waits.now c.args.queue.now.items
    steps.within c.args.k c.requires.inside c.requires.start c.requires.lengthens c.requires.climb c.lift.new.numbers lifted.0
    (subst (λ (s : ResidualArc). 0 < s.up) c.at-step.ensures.is up)
    (subst (λ (s : ResidualArc). IsLift s c.args.numbers.now c.lift.new.numbers lifted.0) c.at-step.ensures.is lifted.1)
    _ _ lifted.2
    (subst (λ (s : ResidualArc). s.to ≡ c.args.start → ⊥) c.at-step.ensures.is c.if-step-start.false)
    (subst (λ (s : ResidualArc). Waits steps.nodes s.to c.args.waits.now c.args.queue.now.items c.wait.new.waits c.wait.new.queue.items) c.at-step.ensures.is waits)
    (subst (λ (s : ResidualArc). (v : ℕ) → IsInList c.wait.new.queue.items v → (v ≡ s.to) ⊎ IsInList c.args.queue.now.items v) c.at-step.ensures.is
    c.in_ok-wait-in-Raised.ensures.only)
