-- What is known of the shape of a drawing that was read.
use Rattle.std.proofs.Common.{◌<◌, ◌≤◌, sym, subst, arith}
use Rattle.compact_types.specs.declared.limits.TheConstants.{MOST_VERTICES}
use Rattle.compact_types.specs.declared.places.Places.{Places}
use Rattle.compact_types.specs.declared.plan.Plan.{Plan}
use Rattle.compact_types.specs.declared.plan.Shape.{Shape}
use Rattle.compact_types.specs.Connected.{IsConnected}
use Rattle.compact_types.specs.Drawings.{IsDrawing}
use Rattle.compact_types.proofs.Laws.{drawing_of_crossing_free}
use Rattle.gml_text.specs.declared.tree.Tree.{Tree}
use Rattle.drawing_read.specs.declared.reading.Reading.{Reading}
use Rattle.drawing_read.specs.Readings.{IsReading, IsWithinLimits}
use Rattle.drawing_read.proofs.Laws.{reading_within_limits}
use Rattle.drawing_check.specs.Shapes.{IsShapeOf}
use Rattle.bars.specs.Segments.{segment_count}
use Rattle.bars.specs.Solutions.{IsSound}
use Rattle.bars.proofs.Laws.{few_segments}
use Rattle.compact_main.specs.declared.drawing.Drawing.{Drawing}
use Rattle.compact_main.specs.Drawings.{shape_of}
use Rattle.compact_main.specs.inner.FoundDrawings.{IsRead}

-- a reading keeps the limits
pub within_limits : (tree : Tree) (reading : Reading) → IsReading tree reading → IsWithinLimits reading
within_limits tree reading read = reading_within_limits tree reading read

-- the places that were read are a drawing of their shape
pub is_drawing : (plan : Plan) (places : Places) (shape : Shape) → IsShapeOf plan places shape → IsDrawing shape places
is_drawing plan places shape is = drawing_of_crossing_free shape places is.crossing_free

-- its shape is connected, small, and has the drawing that was read
pub sound_shape : (tree : Tree) (reading : Reading) (shape : Shape) → IsReading tree reading → IsShapeOf reading.plan reading.places shape → IsSound shape
sound_shape tree reading shape read is =
    let limits = reading_within_limits tree reading read in
    record {
      connected = subst (λ (p : Plan). IsConnected p) (sym is.same_plan) is.connected;
      some_vertex = subst (λ (p : Plan). 0 < p.vertices) (sym is.same_plan) limits.some_vertex;
      few_vertices = subst (λ (p : Plan). p.vertices ≤ MOST_VERTICES) (sym is.same_plan) limits.few_vertices;
      drawable = (reading.places, is_drawing reading.plan reading.places shape is);
    }

-- so of a drawing that was read
module _ (drawing : Drawing) (is : IsRead drawing) where
  pub sound_read : IsSound (shape_of drawing)
  sound_read = sound_shape drawing.tree drawing.reading (shape_of drawing) is.read is.checked

  pub drawn_read : IsDrawing (shape_of drawing) drawing.reading.places
  drawn_read = is_drawing drawing.reading.plan drawing.reading.places (shape_of drawing) is.checked

pub few_segments_sound : (shape : Shape) → IsSound shape → segment_count shape ≤ MOST_VERTICES
few_segments_sound shape sound = let few = few_segments shape sound.drawable in let most = sound.few_vertices in omega arith
