-- Drawings that were read, and what a search has found for one.
use Rattle.std.specs.Prelude.{◌≡◌, Result, IfOk}
use Rattle.compact_types.specs.declared.plan.Shape.{Shape}
use Rattle.compact_types.specs.declared.refusal.NoMemory.{NoMemory}
use Rattle.compact_types.specs.declared.search.Flows.{Flows}
use Rattle.compact_types.specs.Bests.{total_length, IsBest, worth_of}
use Rattle.drawing_check.specs.Shapes.{IsShapeOf}
use Rattle.drawing_read.specs.Readings.{IsReading}
use Rattle.shape_graphs.specs.Backings.{DoBack}
use Rattle.workers.specs.declared.alone.Best.{Best}
use Rattle.workers.specs.Searches.{HasEnded}
use Rattle.compact_main.specs.declared.drawing.Drawing.{Drawing}
use Rattle.compact_main.specs.Drawings.{shape_of}

-- the drawing is one that a text can hold: its tree has this reading, and the reading this shape
pub record IsRead (drawing : Drawing) : Type 0 where
  pub read : IsReading drawing.tree drawing.reading
  pub checked : IsShapeOf drawing.reading.plan drawing.reading.places (shape_of drawing)

-- a search answers with the best key of the shape, its worth, and a finished board that shows it,
-- or is refused memory
abbrev pub IsSearched : Shape → Result (Best Flows) NoMemory → Type 0
IsSearched shape answer =
    IfOk answer (λ best. IsBest total_length shape best.key.places)
    × IfOk answer (λ best. best.key.worth ≡ worth_of total_length shape best.key.places)
    × IfOk answer (λ best. HasEnded total_length DoBack shape best.key best.board)

-- a search has ended on the shape with these best places
pub record HasFoundBest (shape : Shape) (found : Best Flows) : Type 0 where
  pub best : IsBest total_length shape found.key.places
  pub ended : HasEnded total_length DoBack shape found.key found.board
