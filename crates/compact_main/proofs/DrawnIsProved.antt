-- What is written of a drawing, with its places and the certificate that they are accepted by, is
-- proved: it holds a drawing of the same shape, and ends with that certificate.
use Rattle.std.proofs.Common.{◌≡◌, ℕ, zero, suc, ◌*◌, ◌<◌, pos, List, [], ◌∷◌, ◌++◌, length, map, refl, sym, ap, ◌∙◌, subst, arith}
use Rattle.std.specs.Prelude.{◌*ℤ◌, ◌≤ℤ◌, ℤ}
use Rattle.compact_types.specs.declared.places.Axis.{Axis}
use Rattle.compact_types.specs.declared.places.Axis.TheVariants.{X, Y}
use Rattle.compact_types.specs.declared.places.Point.{Point}
use Rattle.compact_types.specs.declared.places.Places.{Places}
use Rattle.compact_types.specs.declared.plan.Plan.{Plan}
use Rattle.compact_types.specs.declared.plan.Shape.{Shape}
use Rattle.compact_types.specs.Drawings.{IsCrossingFree}
use Rattle.compact_types.specs.Lookups.{place, along}
use Rattle.compact_types.specs.Scalings.{IsScaled}
use Rattle.compact_types.proofs.Laws.{crossing_free_of_scaled}
use Rattle.drawing_check.specs.Shapes.{IsShapeOf}
use Rattle.gml_text.specs.declared.tree.Tree.{Tree}
use Rattle.gml_text.proofs.Laws.{spelled_within}
use Rattle.drawing_read.specs.declared.reading.Reading.{Reading}
use Rattle.drawing_read.specs.Readings.{IsReading}
use Rattle.drawing_read.proofs.Laws.{reading_alike}
use Rattle.gml_print.specs.TextReadings.{ReadsBack}
use Rattle.gml_print.specs.Places.{CanPut, placed, in_thousandths, moved_reading}
use Rattle.gml_print.specs.Printing.{printed}
use Rattle.gml_print.proofs.Laws.{reads_back, placed_within, placed_reading}
use Rattle.cert_text.specs.declared.tree.CertNode.{CertNode}
use Rattle.cert_text.specs.Certificates.{IsBeforeLine, IsPitch, IsCertificate}
use Rattle.cert_text.specs.Loads.{IsCertTree}
use Rattle.cert_text.specs.Texts.{certificate_text}
use Rattle.cert_text.proofs.Laws.{printed_certificate, spelled_with_certificate}
use Rattle.compact_main.specs.declared.drawing.Drawing.{Drawing}
use Rattle.compact_main.specs.Drawings.{HoldsDrawing, shape_of, grid_step, AreBestPlaces, IsAccepted, IsOnGridAt, text_with}
use Rattle.compact_main.proofs.BestDrawings.{can_put}
use Rattle.compact_main.proofs.ProvedAnswers.{some_step}
use Rattle.compact_main.proofs.PrintedLines.{printed_before_line}

-- as many points, each in thousandths
as_many : (pitch : ℕ) (points : List Point) → length (map (in_thousandths pitch) points) ≡ length points
as_many pitch [] = refl
as_many pitch (point ∷ points) = omega (arith, as_many pitch points)

place_in_thousandths : (pitch : ℕ) (points : List Point) (v : ℕ) → v < length points → place (map (in_thousandths pitch) points) v ≡ in_thousandths pitch (place points v)
place_in_thousandths pitch [] v inside = absurd (omega (arith, inside))
place_in_thousandths pitch (point ∷ points) zero inside = refl
place_in_thousandths pitch (point ∷ points) (suc v) inside = place_in_thousandths pitch points v (omega (arith, inside))

along_in_thousandths : (pitch : ℕ) (axis : Axis) (point : Point) → along axis (in_thousandths pitch point) ≡ grid_step pitch *ℤ along axis point
along_in_thousandths pitch X point = refl
along_in_thousandths pitch Y point = refl

-- the places of the reading that is written are those in grid steps, scaled up
pub in_grid_steps : (reading : Reading) (places : Places) (pitch : ℕ) → IsScaled (grid_step pitch) (moved_reading reading places pitch).places places
in_grid_steps reading places pitch =
    let many = as_many pitch places.xy in
    record {
      points = many;
      each = λ axis v inside.
          ap (along axis) (place_in_thousandths pitch places.xy v (omega (arith, many, inside)))
          ∙ along_in_thousandths pitch axis (place places.xy v);
    }

-- the shape of a plan in some places is that in each drawing of it, scaled up
shape_of_scaled : (by : ℤ) (plan : Plan) (shape : Shape) (other places scaled : Places) → pos 1 ≤ℤ by → IsScaled by places scaled →
    IsShapeOf plan other shape → IsCrossingFree shape scaled → IsShapeOf plan places shape
shape_of_scaled by plan shape other places scaled some is of free = record {
  same_plan = of.same_plan;
  connected = of.connected;
  crossing_free = crossing_free_of_scaled by shape places scaled some is free;
}

-- the text is proved by these entries: it holds a drawing of the shape, which is on the grid of
-- the pitch at these places in grid steps; it ends with the certificate; and that shows that the
-- places are the best
pub record IsProvedBy (text : List ℕ) (shape : Shape) (places : Places) (pitch : ℕ) (nodes : List CertNode) : Type 0 where
  pub drawing : Drawing
  pub holds : HoldsDrawing text drawing
  pub same_shape : shape_of drawing ≡ shape
  pub certificate : IsCertificate text pitch nodes
  pub scaled : IsOnGridAt drawing pitch places
  pub accepted : IsAccepted drawing places nodes

-- what is written of a drawing with accepted places and their certificate is proved
pub drawn_is_proved : (text : List ℕ) (drawing : Drawing) (places : Places) (pitch : ℕ) (nodes : List CertNode) (written : List ℕ) →
    HoldsDrawing text drawing → CanPut drawing.tree drawing.reading places pitch → IsCertTree nodes → IsAccepted drawing places nodes →
    written ≡ text_with drawing pitch places ++ certificate_text pitch nodes →
    IsProvedBy written (shape_of drawing) places pitch nodes
drawn_is_proved text drawing places pitch nodes written holds can tree accepted is =
    let some = can.some_pitch in
    let most = can.most_pitch in
    let pitched : IsPitch pitch = record { some = some; most = most } in
    let moved : Reading = moved_reading drawing.reading places pitch in
    let new : Tree = placed drawing.tree drawing.reading.spots places pitch in
    let before : IsBeforeLine (printed new) = printed_before_line new in
    let back : ReadsBack new =
    reads_back new (placed_within drawing.tree drawing.reading.spots places pitch can.within most (spelled_within text drawing.tree holds.spelled)) in
    let read : IsReading back.read moved =
    reading_alike new back.read moved back.alike
    (placed_reading drawing.tree drawing.reading places pitch (shape_of drawing) can holds.checked.same_plan accepted.drawing.crossing_free) in
    let scaled = in_grid_steps drawing.reading places pitch in
    let proved : IsProvedBy (printed new ++ certificate_text pitch nodes) (shape_of drawing) places pitch nodes = record {
      drawing = record { tree = back.read; reading = moved; bars = shape_of drawing };
      holds = record {
        spelled = spelled_with_certificate (printed new) back.read pitch nodes before pitched tree back.spelled;
        read = read;
        checked = shape_of_scaled (grid_step pitch) drawing.reading.plan (shape_of drawing) drawing.reading.places moved.places places (some_step pitch some) scaled
            holds.checked accepted.drawing.crossing_free;
      };
      same_shape = refl;
      certificate = printed_certificate (printed new) pitch nodes before pitched tree;
      scaled = scaled;
      accepted = accepted;
    } in
    subst (λ (text : List ℕ). IsProvedBy text (shape_of drawing) places pitch nodes) (sym is) proved

-- and so is what is written with the best places of the drawing's shape
pub best_is_proved : (text : List ℕ) (drawing : Drawing) (places : Places) (pitch : ℕ) (nodes : List CertNode) (written : List ℕ) →
    HoldsDrawing text drawing → AreBestPlaces drawing places → IsPitch pitch → IsCertTree nodes → IsAccepted drawing places nodes →
    written ≡ text_with drawing pitch places ++ certificate_text pitch nodes →
    IsProvedBy written (shape_of drawing) places pitch nodes
best_is_proved text drawing places pitch nodes written holds best pitched tree accepted is =
    drawn_is_proved text drawing places pitch nodes written holds
    (can_put drawing.tree drawing.reading (shape_of drawing) places pitch holds.read holds.checked best pitched.some pitched.most) tree accepted is
