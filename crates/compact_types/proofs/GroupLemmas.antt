-- Numbers in groups, and what a join does to their labels.
use Rattle.std.proofs.Common.{◌≡◌, ℕ, ◌<◌, ◌≤◌, ◌==◌, List, length, slice_index, set, min, max, if◌then◌else◌, ◌⊎◌, inl, inr, subst, sym, ap, ◌∙◌, arith, get_or-set_same, get_or-set_other}
use Rattle.std.proofs.Math.ListN.{length-set}
use Rattle.std.proofs.lemmas.Bool.{cases_eq, cases_lt, cond-true, cond-false, eq-eqb, ne_eqb}
use Rattle.compact_types.specs.Groups.{GoDown, IsLabelling, merged}

-- what is read after a write
read_after : (leads : List ℕ) (i x v : ℕ) → i < length leads →
    ((v ≡ i) × (slice_index (set leads i x) v ≡ x)) ⊎ ((v ≡ i → ⊥) × (slice_index (set leads i x) v ≡ slice_index leads v))
read_after leads i x v inside = by_place (cases_eq v i)
  where
    by_place : (v ≡ i) ⊎ (v ≡ i → ⊥) → ((v ≡ i) × (slice_index (set leads i x) v ≡ x)) ⊎ ((v ≡ i → ⊥) × (slice_index (set leads i x) v ≡ slice_index leads v))
    by_place (inl same) = inl (same, rw same (get_or-set_same leads i x 0 inside))
    by_place (inr other) = inr (other, get_or-set_other leads i v x 0 other)

-- a shorter way down
pub down_after : (leads : List ℕ) (i x : ℕ) → i < length leads → GoDown leads → x ≤ i → GoDown (set leads i x)
down_after leads i x inside down less v within = by_place (read_after leads i x v inside)
  where
    by_place : ((v ≡ i) × (slice_index (set leads i x) v ≡ x)) ⊎ ((v ≡ i → ⊥) × (slice_index (set leads i x) v ≡ slice_index leads v)) → slice_index (set leads i x) v ≤ v
    by_place (inl here) = omega (arith, here.0, here.1, less)
    by_place (inr there) = let below : slice_index leads v ≤ v = down v (omega (arith, length-set leads i x)) in omega (arith, there.1, below)

-- what a write at i leaves at v
abbrev Written : List ℕ → ℕ → ℕ → ℕ → Type 0
Written leads i x v = ((v ≡ i) × (slice_index (set leads i x) v ≡ x)) ⊎ ((v ≡ i → ⊥) × (slice_index (set leads i x) v ≡ slice_index leads v))

-- labels stay where a vertex leads to another of its group
pub labelling_moved : (leads : List ℕ) (labels : ℕ → ℕ) (i x : ℕ) → i < length leads → labels x ≡ labels i → (x ≡ i → labels i ≡ i) →
    IsLabelling leads labels → IsLabelling (set leads i x) labels
labelling_moved leads labels i x inside same own labelling = record {
  on = λ v within. on_at v (omega (arith, length-set leads i x)) (read_after leads i x v inside);
  ends = λ v within. ends_at v (omega (arith, length-set leads i x)) (read_after leads i x v inside);
}
  where
    on_at : (v : ℕ) → v < length leads → Written leads i x v → labels (slice_index (set leads i x) v) ≡ labels v
    on_at v within (inl here) = ap labels here.1 ∙ same ∙ ap labels (sym here.0)
    on_at v within (inr there) = ap labels there.1 ∙ labelling.on v within

    ends_at : (v : ℕ) → v < length leads → Written leads i x v → slice_index (set leads i x) v ≡ v → labels v ≡ v
    ends_at v within (inl here) itself = ap labels here.0 ∙ own (sym here.1 ∙ itself ∙ here.0) ∙ sym here.0
    ends_at v within (inr there) itself = labelling.ends v within (sym there.1 ∙ itself)

-- a vertex that leads on further keeps all labels
pub labelling_halved : (leads : List ℕ) (labels : ℕ → ℕ) (v : ℕ) → v < length leads → GoDown leads → IsLabelling leads labels →
    IsLabelling (set leads v (slice_index leads (slice_index leads v))) labels
labelling_halved leads labels v inside down labelling =
    let next = slice_index leads v in
    let below : next ≤ v = down v inside in
    let next_inside : next < length leads = omega (arith, below, inside) in
    let further_below : slice_index leads next ≤ next = down next next_inside in
    labelling_moved leads labels v (slice_index leads next) inside (labelling.on next next_inside ∙ labelling.on v inside)
    (λ same. labelling.ends v inside (omega (arith, same, below, further_below))) labelling

-- the labels once all of the group high have the label low
abbrev pub relabelled : (ℕ → ℕ) → ℕ → ℕ → ℕ → ℕ
relabelled labels high low v = if labels v == high then low else labels v

-- what the new label is
pub relabelled_is : (labels : ℕ → ℕ) (high low v : ℕ) →
    ((labels v ≡ high) × (relabelled labels high low v ≡ low)) ⊎ ((labels v ≡ high → ⊥) × (relabelled labels high low v ≡ labels v))
relabelled_is labels high low v = by_label (cases_eq (labels v) high)
  where
    by_label : (labels v ≡ high) ⊎ (labels v ≡ high → ⊥) →
        ((labels v ≡ high) × (relabelled labels high low v ≡ low)) ⊎ ((labels v ≡ high → ⊥) × (relabelled labels high low v ≡ labels v))
    by_label (inl same) = inl (same, cond-true (labels v == high) low (labels v) (eq-eqb (labels v) high same))
    by_label (inr other) = inr (other, cond-false (labels v == high) low (labels v) (ne_eqb (labels v) high other))

-- equal labels stay equal
pub relabelled_same : (labels : ℕ → ℕ) (high low v w : ℕ) → labels v ≡ labels w → relabelled labels high low v ≡ relabelled labels high low w
relabelled_same labels high low v w same = ap (λ (label : ℕ). if label == high then low else label) same

-- of two numbers one is the greater and the other the less
pub max_and_min : (a b : ℕ) → ((max a b ≡ a) × (min a b ≡ b)) ⊎ ((max a b ≡ b) × (min a b ≡ a))
max_and_min a b = by_order (cases_lt a b)
  where
    by_order : (a < b) ⊎ (b ≤ a) → ((max a b ≡ a) × (min a b ≡ b)) ⊎ ((max a b ≡ b) × (min a b ≡ a))
    by_order (inl less) = inr (omega arith, omega arith)
    by_order (inr more) = inl (omega arith, omega arith)

-- a group that is led to a lesser one takes its label
pub labelling_led : (leads : List ℕ) (labels : ℕ → ℕ) (high low : ℕ) → high < length leads → labels high ≡ high → labels low ≡ low →
    IsLabelling leads labels → IsLabelling (set leads high low) (relabelled labels high low)
labelling_led leads labels high low inside high_is low_is labelling = record {
  on = λ v within. on_at v (omega (arith, length-set leads high low)) (read_after leads high low v inside);
  ends = λ v within. ends_at v (omega (arith, length-set leads high low)) (read_after leads high low v inside);
}
  where
    at_low : relabelled labels high low low ≡ low
    at_low = low_case (relabelled_is labels high low low)
      where
        low_case : ((labels low ≡ high) × (relabelled labels high low low ≡ low)) ⊎ ((labels low ≡ high → ⊥) × (relabelled labels high low low ≡ labels low)) → relabelled labels high low low ≡ low
        low_case (inl is) = is.1
        low_case (inr is) = is.1 ∙ low_is

    at_high : relabelled labels high low high ≡ low
    at_high = high_case (relabelled_is labels high low high)
      where
        high_case : ((labels high ≡ high) × (relabelled labels high low high ≡ low)) ⊎ ((labels high ≡ high → ⊥) × (relabelled labels high low high ≡ labels high)) → relabelled labels high low high ≡ low
        high_case (inl is) = is.1
        high_case (inr is) = absurd (is.0 high_is)

    on_at : (v : ℕ) → v < length leads → Written leads high low v → relabelled labels high low (slice_index (set leads high low) v) ≡ relabelled labels high low v
    on_at v within (inl here) = ap (relabelled labels high low) here.1 ∙ at_low ∙ sym at_high ∙ ap (relabelled labels high low) (sym here.0)
    on_at v within (inr there) = ap (relabelled labels high low) there.1 ∙ relabelled_same labels high low (slice_index leads v) v (labelling.on v within)

    ends_at : (v : ℕ) → v < length leads → Written leads high low v → slice_index (set leads high low) v ≡ v → relabelled labels high low v ≡ v
    ends_at v within (inl here) itself = ap (relabelled labels high low) here.0 ∙ at_high ∙ sym here.1 ∙ itself
    ends_at v within (inr there) itself = ends_case v there.0 (labelling.ends v within (sym there.1 ∙ itself)) (relabelled_is labels high low v)
      where
        ends_case : (v : ℕ) → (v ≡ high → ⊥) → labels v ≡ v → ((labels v ≡ high) × (relabelled labels high low v ≡ low)) ⊎ ((labels v ≡ high → ⊥) × (relabelled labels high low v ≡ labels v)) → relabelled labels high low v ≡ v
        ends_case v other own (inl is) = absurd (other (sym own ∙ is.0))
        ends_case v other own (inr is) = is.1 ∙ own

-- the greater of two groups takes the label of the less
pub labelling_merged : (leads : List ℕ) (labels : ℕ → ℕ) (high low p q : ℕ) → high < length leads → labels high ≡ high → labels low ≡ low →
    max (labels p) (labels q) ≡ high → min (labels p) (labels q) ≡ low →
    IsLabelling leads labels → IsLabelling (set leads high low) (merged labels p q)
labelling_merged leads labels high low p q inside high_is low_is greater less labelling =
    let led = labelling_led leads labels high low inside high_is low_is labelling in
    let at_greater = subst (λ (x : ℕ). IsLabelling (set leads high low) (relabelled labels x low)) (sym greater) led in
    subst (λ (x : ℕ). IsLabelling (set leads high low) (relabelled labels (max (labels p) (labels q)) x)) (sym less) at_greater
