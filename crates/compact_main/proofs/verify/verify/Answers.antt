use Rattle.std.proofs.Common.{rules, ℕ, ℤ, List, ap, ◌∙◌}
use Rattle.std.proofs.lemmas.Int.{to_z-of_z}
use mir.Syntax.{w64}
use mir.Val.{SFits}
use Rattle.compact_main.specs.declared.command.Command.TheVariants.{Verify}
use Rattle.compact_main.specs.declared.status.Failure.TheVariants.{NotProved}
use Rattle.compact_main.specs.Outputs.{proved_line, FirstFailure, FirstUnproved}
use Rattle.compact_main.proofs.StepRefusals.{told}
use Rattle.compact_main.proofs.verify.verify.Goals as goal

pub returns-in-Err-clause-fault : goal.returns-in-Err-clause-fault
returns-in-Err-clause-fault g c =
    let drawing = c.in_ok-drawing.drawing in
    told ℤ (List ℕ) c.in-Err.refusal c.map.result (λ unproved. NotProved unproved)
    (FirstUnproved c.args.bytes.now drawing) (FirstFailure Verify c.args.bytes.now)
    (λ unproved first. (drawing, c.in_ok-drawing.ensures.input, first)) c.in-Err.ensures.unproved c.map.ensures

pub returns-in_ok-proved_line-in-Ok-clause-output : goal.returns-in_ok-proved_line-in-Ok-clause-output
returns-in_ok-proved_line-in-Ok-clause-output g c =
    let (places, is, long) = c.in-Ok.ensures.proved in
    let fits : SFits w64 c.in-Ok.length = search rules in
    let told = rw (to_z-of_z w64 c.in-Ok.length fits) at c.in_ok-proved_line-in-Ok.ensures in
    (c.in_ok-drawing.drawing, places, is, told ∙ ap proved_line long)
