use Rattle.std.proofs.Common.{refl, subst, List, Bool}
use Rattle.bars.specs.inner.Marks.{AreFirstUnmarked}
use Rattle.bars.proofs.MarkTables.{number_below, line_ends_are}
use Rattle.bars.proofs.marks.line_ends.Goals as goal

pub first_unmarked-requires-clause-numbers : goal.first_unmarked-requires-clause-numbers
first_unmarked-requires-clause-numbers c = number_below c.args.axis c.args.shape.now c.args.lines.now c.requires

pub first_unmarked-requires-2-clause-numbers : goal.first_unmarked-requires-2-clause-numbers
first_unmarked-requires-2-clause-numbers c = number_below c.args.axis c.args.shape.now c.args.lines.now c.requires

pub returns : goal.returns
returns c =
    line_ends_are c.args.axis c.args.shape.now c.args.lines.now c.requires c.in_ok-marks.marks c.in_ok-first.first.items c.in_ok-last.last.items _
    c.in_ok-marks.ensures refl refl refl
    (subst (λ (l : List Bool). AreFirstUnmarked c.args.lines.now l 0 c.args.shape.now.plan.vertices c.in_ok-first.first.items) c.as_slice.ensures.value c.in_ok-first.ensures)
    (subst (λ (l : List Bool). AreFirstUnmarked c.args.lines.now l 0 c.args.shape.now.plan.vertices c.in_ok-last.last.items) c.as_slice-2.ensures.value c.in_ok-last.ensures)
