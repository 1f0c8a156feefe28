use Rattle.compact_main.proofs.output.count.Goals as goal

pub returns-clause-output : goal.returns-clause-output
returns-clause-output g c = (c.in_ok-drawing.drawing, c.in_ok-drawing.ensures.input, c.in_ok-count_line.ensures)
