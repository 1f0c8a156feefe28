use Rattle.std.proofs.Common.{Err, sym, subst}
use Rattle.compact_types.specs.declared.plan.Shape.{Shape as AnyShape}
use Rattle.compact_types.proofs.Laws.{decides_by_one_answer}
use Rattle.drawing_check.specs.Faults.{FirstShapeFault}
use Rattle.drawing_check.specs.Shapes.{IsShapeOf}
use Rattle.compact_main.specs.declared.drawing.Drawing.{Drawing}
use Rattle.compact_main.specs.declared.status.Why.TheVariants.{Shape as Figure}
use Rattle.compact_main.specs.Drawings.{FirstTextFault}
use Rattle.compact_main.proofs.StepRefusals.{told}
use Rattle.compact_main.proofs.TextAnswers.{can_check, text_answer}
use Rattle.compact_main.proofs.drawing.drawing_of.Goals as goal

pub check-requires-after_bounds : goal.check-requires-after_bounds
check-requires-after_bounds g c κs within = can_check c.in-Ok-read_drawing.reading c.in-Ok-read_drawing.ensures.limits

pub returns-in-Err-check : goal.returns-in-Err-check
returns-in-Err-check g c =
    let tree = c.in-Ok.tree in
    let reading = c.in-Ok-read_drawing.reading in
    decides_by_one_answer (Err c.map-in-Err-check.result) tt
    (told AnyShape Drawing c.in-Err-check.refusal c.map-in-Err-check.result (λ fault. Figure fault)
    (FirstShapeFault reading.plan reading.places) (FirstTextFault c.args.bytes.now)
    (λ fault first. (tree, reading, c.in-Ok.ensures.decides.value, c.in-Ok-read_drawing.ensures.decides.value, first))
    c.in-Err-check.ensures.decides.fault c.map-in-Err-check.ensures)
    (text_answer c.args.bytes.now)

pub returns : goal.returns
returns g c =
    decides_by_one_answer _ (record {
      spelled = c.in-Ok.ensures.decides.value;
      read = c.in-Ok-read_drawing.ensures.decides.value;
      checked =
          subst (λ (s : AnyShape). IsShapeOf c.in-Ok-read_drawing.reading.plan c.in-Ok-read_drawing.reading.places s) (sym c.in_ok-bars.ensures)
          c.in-Ok-check.ensures.decides.value;
    }) tt (text_answer c.args.bytes.now)
