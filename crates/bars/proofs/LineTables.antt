-- The numbers of lines, as the code finds them.
use Rattle.std.proofs.Common.{◌≡◌, ◌≢◌, ℕ, suc, ◌+◌, ◌<◌, ◌≤◌, Bool, List, [], ◌∷◌, ◌++◌, length, slice_index, if◌then◌else◌, ◌⊎◌, inl, inr, subst, sym, ap, refl, ◌∙◌, arith}
use Rattle.std.proofs.lemmas.Bool.{cases_lt, cond-true, cond-false, eq-eqb, ne_eqb}
use Rattle.std.proofs.lemmas.List.{length_push, get_or_push, get_or_append_left}
use Rattle.compact_types.specs.declared.places.Axis.{Axis}
use Rattle.compact_types.specs.declared.plan.Piece.{Piece}
use Rattle.compact_types.specs.declared.plan.Shape.{Shape}
use Rattle.compact_types.specs.declared.plan.Way.{Way}
use Rattle.compact_types.specs.Groups.{GoDown, IsLabelling, merged}
use Rattle.compact_types.specs.Lookups.{piece_at, way_at, axis_of}
use Rattle.bars.specs.Lines.{is_axis, is_along, least_by, least_in_line, count_to, is_least, line_of}
use Rattle.bars.specs.inner.Leads.{AreLeads}
use Rattle.bars.specs.inner.Tables.{AreNumbered}
use Rattle.bars.proofs.LineVertices.{least_below}

-- at first each vertex is the least of its line
pub single_leads : (axis : Axis) (shape : Shape) (leads : List ℕ) → length leads ≡ shape.plan.vertices →
    ((v : ℕ) → v < shape.plan.vertices → slice_index leads v ≡ v) → AreLeads axis shape 0 leads
unfolding least_by
single_leads axis shape leads fits own = record {
  one_for_each = fits;
  down = λ v within. omega (arith, own v (omega (arith, within, fits)));
  labelling = record { on = λ v within. own v (omega (arith, within, fits)); ends = λ v within itself. refl };
}

-- one more piece joins the lines of its ends, where it goes along the axis
pub leads_one_more : (axis : Axis) (shape : Shape) (n : ℕ) (leads more : List ℕ) (along : Bool) (pieces : List Piece) (ways : List Way) →
    pieces ≡ shape.plan.pieces → ways ≡ shape.ways → along ≡ is_axis (axis_of (way_at ways n)) axis → AreLeads axis shape n leads →
    length more ≡ length leads → GoDown more →
    ((labels : ℕ → ℕ) → IsLabelling leads labels →
    IsLabelling more (λ v. (if along then merged labels (piece_at pieces n).from (piece_at pieces n).to v else labels v))) →
    AreLeads axis shape (n + 1) more
unfolding least_by
leads_one_more axis shape n leads more along pieces ways is_pieces is_ways is_along' are fits down step = record {
  one_for_each = fits ∙ are.one_for_each;
  down = down;
  labelling =
      let next : suc n ≡ n + 1 = omega arith in
      let here = step (least_by axis shape n) are.labelling in
      let with_pieces = subst (λ (l : List Piece). IsLabelling more (λ v. (if along then merged (least_by axis shape n) (piece_at l n).from (piece_at l n).to v else least_by axis shape n v))) is_pieces here in
      let tested : along ≡ is_along axis shape n = is_along' ∙ ap (λ (l : List Way). is_axis (axis_of (way_at l n)) axis) is_ways in
      let after : IsLabelling more (least_by axis shape (suc n)) = subst (λ (b : Bool). IsLabelling more (λ v. (if b then merged (least_by axis shape n) (piece_at shape.plan.pieces n).from (piece_at shape.plan.pieces n).to v else least_by axis shape n v))) tested with_pieces in
      subst (λ (m : ℕ). IsLabelling more (least_by axis shape m)) next after;
}

module _ (axis : Axis) (shape : Shape) (leads : List ℕ) (are : AreLeads axis shape (length shape.plan.pieces) leads) (v : ℕ) (within : v < shape.plan.vertices) where
  abbrev lead : ℕ
  lead = slice_index leads v

  inside : v < length leads
  inside = omega (arith, within, are.one_for_each)

  pub lead_below : lead ≤ v
  lead_below = are.down v inside

  -- a vertex that leads to itself is the least of its line
  begins : lead ≡ v → least_in_line axis shape v ≡ v
  begins itself = are.labelling.ends v inside itself

  -- another is not
  follows : lead ≢ v → least_in_line axis shape v ≡ v → ⊥
  follows other least =
      let on = are.labelling.on v inside in
      let below = least_below axis shape lead in
      let down = lead_below in
      omega (arith, on, below, down, least, other)

  abbrev Numbered : List ℕ → ℕ → Type 0
  Numbered numbers count = AreNumbered axis shape v numbers count

  -- one more number at the end
  with_number : (numbers more : List ℕ) (line : ℕ) → more ≡ numbers ++ line ∷ [] → line ≡ line_of axis shape v → length numbers ≡ v →
      ((u : ℕ) → u < v → slice_index numbers u ≡ line_of axis shape u) → (u : ℕ) → u < v + 1 → slice_index more u ≡ line_of axis shape u
  with_number numbers more line is here fits before u below = by_order (cases_lt u v)
    where
      by_order : (u < v) ⊎ (v ≤ u) → slice_index more u ≡ line_of axis shape u
      by_order (inl less) = ap (λ (l : List ℕ). slice_index l u) is ∙ get_or_append_left numbers (line ∷ []) 0 u (omega (arith, less, fits)) ∙ before u less
      by_order (inr more') =
          let same : v ≡ u = omega arith in
          ap (λ (l : List ℕ). slice_index l u) is ∙ get_or_push numbers line 0 u (fits ∙ same) ∙ here ∙ ap (line_of axis shape) same

  pub numbered_begins : (numbers more : List ℕ) (count : ℕ) → lead ≡ v → more ≡ numbers ++ count ∷ [] → Numbered numbers count →
      AreNumbered axis shape (v + 1) more (count + 1)
  numbered_begins numbers more count itself is numbered = record {
    one_for_each = ap length is ∙ length_push numbers count ∙ ap (λ (m : ℕ). m + 1) numbered.one_for_each;
    each = with_number numbers more count is (numbered.counted ∙ ap (count_to (is_least axis shape)) (sym (begins itself))) numbered.one_for_each numbered.each;
    counted =
        let next : suc v ≡ v + 1 = omega arith in
        let step : count_to (is_least axis shape) (suc v) ≡ suc (count_to (is_least axis shape) v) = cond-true _ _ _ (eq-eqb _ _ (begins itself)) in
        let moved = ap (count_to (is_least axis shape)) next in
        omega (arith, numbered.counted, step, moved);
  }

  pub numbered_follows : (numbers more : List ℕ) (count line : ℕ) → lead ≢ v → line ≡ slice_index numbers lead → more ≡ numbers ++ line ∷ [] → Numbered numbers count →
      AreNumbered axis shape (v + 1) more count
  numbered_follows numbers more count line other is_line is numbered = record {
    one_for_each = ap length is ∙ length_push numbers line ∙ ap (λ (m : ℕ). m + 1) numbered.one_for_each;
    each = with_number numbers more line is
        (is_line ∙ numbered.each lead (let down = lead_below in omega (arith, down, other)) ∙ ap (count_to (is_least axis shape)) (are.labelling.on v inside))
        numbered.one_for_each numbered.each;
    counted =
        let next : suc v ≡ v + 1 = omega arith in
        let step : count_to (is_least axis shape) (suc v) ≡ count_to (is_least axis shape) v = cond-false _ _ _ (ne_eqb _ _ (follows other)) in
        let moved = ap (count_to (is_least axis shape)) next in
        omega (arith, numbered.counted, step, moved);
  }
