-- What else holds of the sample: there is one for each number, it does not reach far out, and its
-- segments can be found.
use Rattle.std.proofs.Common.{◌≡◌, ℕ, ◌+◌, ◌-◌, ◌*◌, ◌<◌, ◌≤◌, List, map, ◌⊎◌, inl, inr, refl, sym, ap, subst, ◌∙◌, arith}
use Rattle.std.specs.List.{range_with_len}
use Rattle.std.proofs.lemmas.Bool.{cases_lt}
use Rattle.std.proofs.lemmas.Int.{ints}
use Rattle.std.proofs.lemmas.List.FromFn.{length-map-range_with_len, get_or-map-range_with_len, fill_by_all}
use Rattle.compact_types.specs.declared.limits.TheConstants.{GREATEST_THOUSANDTHS}
use Rattle.compact_types.specs.declared.places.Axis.{Axis}
use Rattle.compact_types.specs.declared.places.Axis.TheVariants.{X, Y}
use Rattle.compact_types.specs.declared.places.Places.{Places}
use Rattle.compact_types.specs.declared.places.Point.{Point}
use Rattle.compact_types.specs.declared.plan.Piece.{Piece}
use Rattle.compact_types.specs.declared.plan.Plan.{Plan}
use Rattle.compact_types.specs.declared.plan.Shape.{Shape}
use Rattle.compact_types.specs.declared.plan.Way.TheVariants.{East}
use Rattle.compact_types.specs.Lookups.{origin, no_piece, along, EndsAreVertices}
use Rattle.compact_types.specs.Magnitudes.{IsWithin, AreWithin}
use Rattle.compact_types.proofs.Laws.{plan_of, shape_of, same_plan, same_places, drawing_of_crossing_free}
use Rattle.drawing_check.specs.Shapes.{IsShapeOf}
use Rattle.drawing_check.proofs.Laws.{one_shape}
use Rattle.bars.specs.Solutions.{IsSound}
use Rattle.compact_main.specs.Samples.{sample_vertices, sample_place, sample_pieces, sample_piece, sample_way}
use Rattle.compact_main.specs.declared.sample.TheConstants.{MOST_SAMPLE}
use Rattle.compact_main.specs.Samples.{hooked, arm_node, hook_node, grid_point, spine_place, arm_place, hook_place, IsTable, IsSample}
use Rattle.compact_main.proofs.SamplePieces.{spine_stands, arm_stands, hook_stands, kind_of, leads_on}
use Rattle.compact_main.proofs.SampleDrawings.{shape_of_sample}

-- the table of a function is one list
table_of : {T : Type 0} → (ℕ → T) → ℕ → List T
table_of f n = map f (range_with_len 0 n)

is_table : {T : Type 0} (absent : T) (f : ℕ → T) (n : ℕ) → IsTable absent f n (table_of f n)
unfolding table_of
is_table absent f n = record {
  long = length-map-range_with_len f 0 n;
  each = λ i inside. get_or-map-range_with_len f 0 n i i absent inside (omega arith);
}

one_table : {T : Type 0} (absent : T) (f : ℕ → T) (n : ℕ) (a b : List T) → IsTable absent f n a → IsTable absent f n b → a ≡ b
one_table absent f n a b first second = fill_by_all f a n absent first.long first.each ∙ sym (fill_by_all f b n absent second.long second.each)

-- so a number has one sample, with one shape
pub one_sample : (number : ℕ) (p q : Plan) (a b : Places) → IsSample number p a → IsSample number q b → (p ≡ q) × (a ≡ b)
one_sample number p q a b first second = (
  same_plan p q (first.vertices ∙ sym second.vertices)
      (one_table no_piece (sample_piece number) (sample_pieces number) p.pieces q.pieces first.pieces second.pieces),
  same_places a b (one_table origin (sample_place number) (sample_vertices number) a.xy b.xy first.points second.points),
)

pub one_sample_shape : (number : ℕ) (p q : Shape) (a b : Places) → IsSample number p.plan a → IsSample number q.plan b →
    IsShapeOf p.plan a p → IsShapeOf q.plan b q → (p ≡ q) × (a ≡ b)
one_sample_shape number p q a b first second is is_too =
    let same = one_sample number p.plan q.plan a b first second in
    let planned = subst (λ (r : Plan). IsShapeOf r b q) (sym same.0) is_too in
    let placed = subst (λ (r : Places). IsShapeOf p.plan r q) (sym same.1) planned in (one_shape p.plan a p q is placed, same.1)

-- and there is one
ends_are_vertices : (number : ℕ) → 1 ≤ number → EndsAreVertices (sample_vertices number) (table_of (sample_piece number) (sample_pieces number))
ends_are_vertices number some i inside =
    let table = is_table no_piece (sample_piece number) (sample_pieces number) in
    let here : i < sample_pieces number = omega (arith, table.long) in
    let leads = leads_on number i (kind_of number i some here) in (
      omega (arith, leads.from, ap Piece.from (table.each i here)),
      omega (arith, leads.to, ap Piece.to (table.each i here)),
    )

pub some_sample : (number : ℕ) → 1 ≤ number → (shape : Shape) × (places : Places) × IsSample number shape.plan places × IsShapeOf shape.plan places shape
some_sample number some =
    let pieces = is_table no_piece (sample_piece number) (sample_pieces number) in
    let ways = is_table East (sample_way number) (sample_pieces number) in
    let plan : Plan = plan_of (sample_vertices number) (table_of (sample_piece number) (sample_pieces number)) (ends_are_vertices number some) in
    let shape : Shape = shape_of plan (table_of (sample_way number) (sample_pieces number)) (ways.long ∙ sym pieces.long) in
    let places : Places = record { xy = table_of (sample_place number) (sample_vertices number) } in
    let sample : IsSample number plan places = record { vertices = refl; pieces = pieces; points = is_table origin (sample_place number) (sample_vertices number) } in
    (shape, places, sample, shape_of_sample number shape places some sample ways)

-- what holds where the nodes of the spine, the arms and the hooks end holds of all places
at_places : (P : Point → Type 0) (number v : ℕ) → v < sample_vertices number → ((i : ℕ) → i < number → P (spine_place i)) →
    ((i : ℕ) → i < number → P (arm_place i)) → ((j : ℕ) → hooked j < number → P (hook_place j)) → P (sample_place number v)
at_places P number v inside spine arm hook = by (cases_lt v number) (cases_lt v (2 * number))
  where
    by : (v < number) ⊎ (number ≤ v) → (v < 2 * number) ⊎ (2 * number ≤ v) → P (sample_place number v)
    by (inl low) second = subst P (sym (spine_stands number v low)) (spine v low)
    by (inr low) (inl high) =
        let i = v - number in
        let within : i < number = omega arith in
        let is : arm_node number i ≡ v = omega arith in
        subst (λ (u : ℕ). P (sample_place number u)) is (subst P (sym (arm_stands number i within)) (arm i within))
    by (inr low) (inr high) =
        let j = v - 2 * number in
        let is : hook_node number j ≡ v = omega arith in
        subst (λ (u : ℕ). P (sample_place number u)) is (subst P (sym (hook_stands number j)) (hook j (omega arith)))

-- they are near
near_point : (x y : ℕ) → x ≤ 1000 → y ≤ 1000 → (axis : Axis) → IsWithin GREATEST_THOUSANDTHS (along axis (grid_point x y))
near_point x y east above X = record { low = omega (arith, ints); high = omega (arith, ints) }
near_point x y east above Y = record { low = omega (arith, ints); high = omega (arith, ints) }

pub near_sample : (number : ℕ) (plan : Plan) (places : Places) → number ≤ MOST_SAMPLE → IsSample number plan places → AreWithin GREATEST_THOUSANDTHS places
near_sample number plan places most sample axis v inside =
    let P : Point → Type 0 = λ p. IsWithin GREATEST_THOUSANDTHS (along axis p) in
    let here : v < sample_vertices number = omega (arith, sample.points.long) in
    subst P (sym (sample.points.each v here))
    (at_places P number v here
    (λ i less. near_point 0 (2 * i) (omega arith) (omega arith) axis)
    (λ i less. near_point 1 (2 * i) (omega arith) (omega arith) axis)
    (λ j less. near_point 1 (2 * hooked j + 1) (omega arith) (omega arith) axis))

-- its shape is connected, small, and has a drawing
pub sound_sample : (number : ℕ) (shape : Shape) (places : Places) → 1 ≤ number → number ≤ MOST_SAMPLE → IsSample number shape.plan places →
    IsShapeOf shape.plan places shape → IsSound shape
sound_sample number shape places some most sample is = record {
  connected = is.connected;
  some_vertex = omega (arith, sample.vertices);
  few_vertices = omega (arith, sample.vertices);
  drawable = (places, drawing_of_crossing_free shape places is.crossing_free);
}
