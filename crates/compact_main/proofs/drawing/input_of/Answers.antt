use Rattle.compact_main.specs.declared.drawing.Drawing.{Drawing}
use Rattle.compact_main.specs.declared.status.Failure.TheVariants.{Refused}
use Rattle.compact_main.specs.Drawings.{FirstTextFault}
use Rattle.compact_main.specs.Outputs.{FirstFailure}
use Rattle.compact_main.proofs.CommandAnswers.{input_fault}
use Rattle.compact_main.proofs.StepRefusals.{told}
use Rattle.compact_main.proofs.drawing.input_of.Goals as goal

pub returns-in-Err-clause-fault : goal.returns-in-Err-clause-fault
returns-in-Err-clause-fault g c =
    told Drawing Drawing c.in-Err.refusal c.map.result (λ why. Refused why) (FirstTextFault c.args.bytes.now) (FirstFailure c.args.command c.args.bytes.now)
    (λ why first. input_fault c.args.command c.args.bytes.now why c.requires.drawing c.requires.within first)
    c.in-Err.ensures.fault c.map.ensures
