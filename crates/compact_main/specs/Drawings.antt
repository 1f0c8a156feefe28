-- The drawing that a text holds and why it holds none; and what is said of a drawing: its best
-- places, what shows that they are, where it is on the grid, and its numbers.
use Rattle.std.specs.Prelude.{◌≡◌, ℕ, ◌*ℤ◌, List, length, pos, ℤ}
use Rattle.compact_types.specs.declared.limits.TheConstants.{THOUSANDTHS}
use Rattle.compact_types.specs.declared.places.Axis.TheVariants.{X, Y}
use Rattle.compact_types.specs.declared.places.Places.{Places}
use Rattle.compact_types.specs.declared.plan.Shape.{Shape}
use Rattle.compact_types.specs.Bests.{total_length, IsBest, worth_of}
use Rattle.compact_types.specs.Lengths.{plain_length_of}
use Rattle.compact_types.specs.Scalings.{IsScaled, IsFirstOff}
use Rattle.gml_text.specs.declared.tree.Tree.{Tree}
use Rattle.gml_text.specs.Texts.{Spells}
use Rattle.gml_text.specs.Faults as no_tree
use Rattle.drawing_read.specs.declared.reading.Reading.{Reading}
use Rattle.drawing_read.specs.Readings.{IsReading}
use Rattle.drawing_read.specs.Faults.{FirstDrawFault}
use Rattle.drawing_check.specs.Shapes.{IsShapeOf}
use Rattle.drawing_check.specs.Faults.{FirstShapeFault}
use Rattle.bars.specs.Lines.{line_count}
use Rattle.bars.specs.Segments.{segment_count, IsPair}
use Rattle.gml_print.specs.Places.{placed}
use Rattle.gml_print.specs.Printing.{printed}
use Rattle.cert_text.specs.declared.tree.CertNode.{CertNode}
use Rattle.cert_text.specs.Accepting.{Accepts}
use Rattle.cert_check.specs.declared.fault.CheckFault.{CheckFault}
use Rattle.cert_check.specs.Faults.{FirstCheckFault}
use Rattle.compact_main.specs.declared.drawing.Drawing.{Drawing}
use Rattle.compact_main.specs.declared.status.Why.{Why}
use Rattle.compact_main.specs.declared.status.Why.TheVariants as why
use Rattle.compact_main.specs.declared.summary.Summary.{Summary}
use Rattle.compact_main.specs.Summaries.{IsPairCount, IsSeparatedPair}

-- the shape of a drawing: its bars are seen as that
abbrev pub shape_of : Drawing → Shape
shape_of drawing = drawing.bars

-- the text has this tree, the tree this reading, and the reading this shape: a connected drawing
-- without crossings
pub record HoldsDrawing (text : List ℕ) (drawing : Drawing) : Type 0 where
  pub spelled : Spells text drawing.tree
  pub read : IsReading drawing.tree drawing.reading
  pub checked : IsShapeOf drawing.reading.plan drawing.reading.places (shape_of drawing)

-- the first fault of a text that holds no drawing: of the text, of its tree, or of the shape that
-- is read from it
abbrev pub FirstTextFault : List ℕ → Why → Type 0
FirstTextFault text why.TooLong = ⊥
FirstTextFault text (why.Gml fault) = no_tree.FirstFault text fault
FirstTextFault text (why.Draw fault) = (tree : Tree) × Spells text tree × FirstDrawFault tree fault
FirstTextFault text (why.Shape fault) =
    (tree : Tree) × (reading : Reading) × Spells text tree × IsReading tree reading
    × FirstShapeFault reading.plan reading.places fault

-- how many vertices and pieces a drawing has
abbrev pub vertex_count : Drawing → ℕ
vertex_count drawing = drawing.reading.plan.vertices

abbrev pub piece_count : Drawing → ℕ
piece_count drawing = length drawing.reading.plan.pieces

-- the best places of a drawing, in grid steps: of all drawings of its shape the first one
abbrev pub AreBestPlaces : Drawing → Places → Type 0
AreBestPlaces drawing places = IsBest total_length (shape_of drawing) places

-- what is made least: how long the drawing is with these places
abbrev pub worth_with : Drawing → Places → ℤ
worth_with drawing places = worth_of total_length (shape_of drawing) places

-- the text of the drawing with its vertices at these places, neighbouring lines of the grid
-- `pitch` units apart; all else is as it was read
abbrev pub text_with : Drawing → ℕ → Places → List ℕ
text_with drawing pitch places = printed (placed drawing.tree drawing.reading.spots places pitch)

-- a certificate of these entries shows that the places are the best; or this is its first fault
abbrev pub IsAccepted : Drawing → Places → List CertNode → Type 0
IsAccepted drawing places nodes = Accepts (shape_of drawing) places nodes

abbrev pub IsFirstFlaw : Drawing → Places → List CertNode → CheckFault → Type 0
IsFirstFlaw drawing places nodes fault = FirstCheckFault (shape_of drawing) places nodes fault

-- how many thousandths a grid step has at a pitch
abbrev pub grid_step : ℕ → ℤ
grid_step pitch = THOUSANDTHS *ℤ pos pitch

-- the drawing as it was read is on the grid of the pitch, at these places in grid steps; or this
-- vertex is the first that is not on the grid
abbrev pub IsOnGridAt : Drawing → ℕ → Places → Type 0
IsOnGridAt drawing pitch places = IsScaled (grid_step pitch) drawing.reading.places places

abbrev pub IsFirstOffGrid : Drawing → ℕ → ℕ → Type 0
IsFirstOffGrid drawing pitch vertex = IsFirstOff (grid_step pitch) drawing.reading.places vertex

-- the numbers are those of the drawing, its length as it was read, in thousandths
pub record IsSummary (drawing : Drawing) (summary : Summary) : Type 0 where
  pub vertices : summary.vertices ≡ vertex_count drawing
  pub pieces : summary.pieces ≡ piece_count drawing
  pub rows : summary.rows ≡ line_count X (shape_of drawing)
  pub columns : summary.columns ≡ line_count Y (shape_of drawing)
  pub bars : summary.bars ≡ segment_count (shape_of drawing)
  pub pairs :
      IsPairCount (IsPair (shape_of drawing)) (segment_count (shape_of drawing)) summary.pairs
  pub separated : IsPairCount
      (IsSeparatedPair (shape_of drawing)) (segment_count (shape_of drawing)) summary.separated
  pub thousandths :
      summary.length ≡ plain_length_of drawing.reading.plan drawing.reading.places
