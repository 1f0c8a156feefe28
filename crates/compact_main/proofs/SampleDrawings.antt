-- The places of the sample are a connected drawing of its shape.
use Rattle.std.proofs.Common.{◌≡◌, ℕ, zero, suc, ◌<◌, ◌≤◌, length, refl, sym, ap, subst, ◌∙◌, arith}
use Rattle.std.proofs.lemmas.Int.{ints}
use Rattle.compact_types.specs.declared.places.Point.{Point}
use Rattle.compact_types.specs.declared.places.Places.{Places}
use Rattle.compact_types.specs.declared.plan.Piece.{Piece}
use Rattle.compact_types.specs.declared.plan.Plan.{Plan}
use Rattle.compact_types.specs.declared.plan.Shape.{Shape}
use Rattle.compact_types.specs.declared.plan.Way.{Way}
use Rattle.compact_types.specs.declared.plan.Way.TheVariants.{East}
use Rattle.compact_types.specs.Connected.{IsJoined, IsConnected}
use Rattle.compact_types.specs.Connected.AreJoined.{start, forward}
use Rattle.compact_types.specs.Drawings.{begin_of, end_of, OnPiece, IsCommonEnd, MeetOnlyAtEnds, HasWays}
use Rattle.compact_types.specs.Lookups.{place, piece_at, way_at, IsEnd}
use Rattle.compact_types.specs.Segments.{OnSegment}
use Rattle.compact_types.specs.Ways.{HasWay}
use Rattle.drawing_check.specs.Shapes.{IsShapeOf}
use Rattle.compact_main.specs.Samples.{sample_vertices, sample_place, sample_pieces, sample_piece, sample_way, IsTable, IsSample}
use Rattle.compact_main.proofs.SamplePieces.{IsKind, LeadsOn, kind_of, leads_on}
use Rattle.compact_main.proofs.SamplePieces.IsKind.{spine, arm, hook}
use Rattle.compact_main.proofs.SampleMeetings.{AtEnds, OnSample, at_same, goes, ShareEnd, share_end, apart}

-- each piece of the sample has its way
has_way : (number index : ℕ) → IsKind number index → AtEnds (HasWay (sample_way number index)) number index
has_way number index (spine i inside is laid) = goes laid (omega (arith, ints), refl)
has_way number index (arm i inside is laid) = goes laid (omega (arith, ints), refl)
has_way number index (hook j inside is laid) = goes laid (omega (arith, ints), refl)

-- a plan and places that are the sample of some number
record Sampled (number : ℕ) (plan : Plan) (places : Places) : Type 0 where
  some : 1 ≤ number
  is : IsSample number plan places

-- each piece of the plan leads on
leads : {number : ℕ} {plan : Plan} {places : Places} → Sampled number plan places → (i : ℕ) → i < sample_pieces number → LeadsOn i (piece_at plan.pieces i)
leads {number} {plan} {places} sample i inside =
    subst (λ (a : Piece). LeadsOn i a) (sym (sample.is.pieces.each i inside)) (leads_on number i (kind_of number i sample.some inside))

-- so each vertex is reached
joined_below : {number : ℕ} {plan : Plan} {places : Places} → Sampled number plan places → (n v : ℕ) → v < n → v < sample_vertices number → IsJoined plan v
joined_below sample zero v less inside = absurd (omega arith)
joined_below sample (suc n) zero less inside = start
joined_below {number} {plan} {places} sample (suc n) (suc p) less inside =
    let some = sample.some in
    let here : p < sample_pieces number = omega arith in
    let next = leads sample p here in
    let before = joined_below sample n (piece_at plan.pieces p).from (omega arith) (omega arith) in
    let to : (piece_at plan.pieces p).to ≡ suc p = omega arith in
    subst (λ (v : ℕ). IsJoined plan v) to (forward p (omega (arith, sample.is.pieces.long)) tt before)

connected : {number : ℕ} {plan : Plan} {places : Places} → Sampled number plan places → IsConnected plan
connected sample = λ v inside. joined_below sample (suc v) v (omega arith) (omega (arith, sample.is.vertices))

-- the ends of a piece of the plan stand where those of the sample's piece do
begins : {number : ℕ} {plan : Plan} {places : Places} → Sampled number plan places → (i : ℕ) → i < sample_pieces number →
    begin_of plan places i ≡ sample_place number (sample_piece number i).from
begins {number} {plan} {places} sample i inside =
    let from = (leads_on number i (kind_of number i sample.some inside)).from in
    ap (λ (p : Piece). place places.xy p.from) (sample.is.pieces.each i inside) ∙ sample.is.points.each (sample_piece number i).from (omega arith)

ends : {number : ℕ} {plan : Plan} {places : Places} → Sampled number plan places → (i : ℕ) → i < sample_pieces number →
    end_of plan places i ≡ sample_place number (sample_piece number i).to
ends {number} {plan} {places} sample i inside =
    let some = sample.some in
    let to = (leads_on number i (kind_of number i sample.some inside)).to in
    ap (λ (p : Piece). place places.xy p.to) (sample.is.pieces.each i inside) ∙ sample.is.points.each (sample_piece number i).to (omega arith)

-- so each has its way
has_ways : {number : ℕ} {plan : Plan} {places : Places} → Sampled number plan places → (shape : Shape) → shape.plan ≡ plan →
    IsTable East (sample_way number) (sample_pieces number) shape.ways → HasWays shape places
has_ways {number} {plan} {places} sample shape same ways = subst (λ (r : Plan). (i : ℕ) → i < length r.pieces → HasWay (way_at shape.ways i) (begin_of r places i) (end_of r places i)) (sym same) by
  where
    by : (i : ℕ) → i < length plan.pieces → HasWay (way_at shape.ways i) (begin_of plan places i) (end_of plan places i)
    by i inside =
        let here : i < sample_pieces number = omega (arith, sample.is.pieces.long) in
        let goes = at_same (HasWay (sample_way number i)) (sym (begins sample i here)) (sym (ends sample i here)) (has_way number i (kind_of number i sample.some here)) in
        subst (λ (w : Way). HasWay w (begin_of plan places i) (end_of plan places i)) (sym (ways.each i here)) goes

-- a point of a piece of the plan lies on that of the sample
lies : {number : ℕ} {plan : Plan} {places : Places} → Sampled number plan places → (i : ℕ) → i < sample_pieces number →
    (z : Point) → OnPiece plan places i z → OnSample z number i
lies sample i inside z on = at_same (λ (a b : Point). OnSegment a b z) (begins sample i inside) (ends sample i inside) on

-- a common end of pieces of the sample is one of those of the plan
common_end : {number : ℕ} {plan : Plan} {places : Places} → Sampled number plan places →
    (i j : ℕ) → i < sample_pieces number → j < sample_pieces number → (z : Point) → ShareEnd number i j z → IsCommonEnd plan places i j z
common_end sample i j here there z share = (
  share.vertex,
  subst (λ (p : Piece). IsEnd share.vertex p) (sym (sample.is.pieces.each i here)) share.first,
  subst (λ (p : Piece). IsEnd share.vertex p) (sym (sample.is.pieces.each j there)) share.second,
  sample.is.points.each share.vertex share.inside ∙ share.is,
)

-- so pieces meet only where they end
meet_only_at_ends : {number : ℕ} {plan : Plan} {places : Places} → Sampled number plan places → MeetOnlyAtEnds plan places
meet_only_at_ends {number} {plan} sample = λ i j inside inside_too differ z on on_too.
    let here : i < sample_pieces number = omega (arith, sample.is.pieces.long) in
    let there : j < sample_pieces number = omega (arith, sample.is.pieces.long) in
    let share = share_end number i j z differ (kind_of number i sample.some here) (kind_of number j sample.some there) (lies sample i here z on) (lies sample j there z on_too) in
    record {
      end = common_end sample i j here there z share;
      apart = apart i j (piece_at plan.pieces i) (piece_at plan.pieces j) differ (leads sample i here) (leads sample j there);
    }

-- the shape with the ways of the sample is that of its plan and places
pub shape_of_sample : (number : ℕ) (shape : Shape) (places : Places) → 1 ≤ number → IsSample number shape.plan places →
    IsTable East (sample_way number) (sample_pieces number) shape.ways → IsShapeOf shape.plan places shape
shape_of_sample number shape places some is ways =
    let sample : Sampled number shape.plan places = record { some = some; is = is } in
    record {
      same_plan = refl;
      connected = connected sample;
      crossing_free = record {
        places_fit = is.points.long ∙ sym is.vertices;
        ways = has_ways sample shape refl ways;
        meetings = meet_only_at_ends sample;
      };
    }
