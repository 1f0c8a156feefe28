-- Groups of vertices, and which vertices are joined.
use Rattle.std.proofs.Common.{Option, Some, None, MatchOption, ◌≡◌, ◌≢◌, ℕ, zero, suc, ◌+◌, ◌<◌, ◌≤◌, List, length, slice_index, min, max, ◌⊎◌, inl, inr, subst, sym, refl, ◌∙◌, arith}
use Rattle.std.proofs.lemmas.Bool.{cases_eq, cases_lt}
use Rattle.compact_types.specs.declared.plan.Plan.{Plan}
use Rattle.compact_types.specs.Lookups.{piece_at}
use Rattle.compact_types.specs.Connected.{IsJoined, IsConnected}
use Rattle.compact_types.specs.Connected.AreJoined.{start, forward, backward}
use Rattle.compact_types.proofs.Laws.{relabelled_is, relabelled_same, max_and_min}
use Rattle.drawing_check.specs.Faults.{IsFirstApart}
use Rattle.compact_types.specs.Groups.{GoDown, IsLabelling, merged}
use Rattle.drawing_check.specs.inner.Groups.{BothJoined, AreLabels, AreGroups, IsSecondLeast}

both_turned : (plan : Plan) (v w : ℕ) → BothJoined plan v w → BothJoined plan w v
both_turned plan v w both = (both.1, both.0)

both_through : (plan : Plan) (u v w : ℕ) → BothJoined plan u v → BothJoined plan v w → BothJoined plan u w
both_through plan u v w first second = (λ joined. second.0 (first.0 joined), λ joined. first.1 (second.1 joined))

both_at : (plan : Plan) (u v w : ℕ) → v ≡ w → BothJoined plan u v → BothJoined plan u w
both_at plan u v w same both = subst (λ (x : ℕ). BothJoined plan u x) same both

module _ (plan : Plan) (i : ℕ) (inside : i < length plan.pieces) (labels : ℕ → ℕ) (groups : AreLabels plan i labels) where
  -- the labels of the ends of piece i
  abbrev label_from : ℕ
  label_from = labels (piece_at plan.pieces i).from

  abbrev label_to : ℕ
  label_to = labels (piece_at plan.pieces i).to

  abbrev after_piece : ℕ → ℕ
  after_piece = merged labels (piece_at plan.pieces i).from (piece_at plan.pieces i).to

  labels_joined : BothJoined plan label_from label_to
  labels_joined =
      let ends = plan.ends i inside in
      let from = groups.joined (piece_at plan.pieces i).from ends.0 in
      let to = groups.joined (piece_at plan.pieces i).to ends.1 in
      let along : BothJoined plan (piece_at plan.pieces i).from (piece_at plan.pieces i).to = (forward i inside tt, backward i inside tt) in
      both_through plan _ _ _ (both_turned plan _ _ from) (both_through plan _ _ _ along to)

  greater_and_less_joined : BothJoined plan (max label_from label_to) (min label_from label_to)
  greater_and_less_joined = by_order (max_and_min label_from label_to)
    where
      by_order : ((max label_from label_to ≡ label_from) × (min label_from label_to ≡ label_to)) ⊎ ((max label_from label_to ≡ label_to) × (min label_from label_to ≡ label_from)) →
          BothJoined plan (max label_from label_to) (min label_from label_to)
      by_order (inl is) = subst (λ (x : ℕ). BothJoined plan x (min label_from label_to)) (sym is.0) (both_at plan _ _ _ (sym is.1) labels_joined)
      by_order (inr is) = subst (λ (x : ℕ). BothJoined plan x (min label_from label_to)) (sym is.0) (both_at plan _ _ _ (sym is.1) (both_turned plan _ _ labels_joined))

  joined_after : (v : ℕ) → v < plan.vertices → BothJoined plan v (after_piece v)
  joined_after v within = by_label (relabelled_is labels (max label_from label_to) (min label_from label_to) v)
    where
      by_label : ((labels v ≡ max label_from label_to) × (after_piece v ≡ min label_from label_to)) ⊎ ((labels v ≡ max label_from label_to → ⊥) × (after_piece v ≡ labels v)) →
          BothJoined plan v (after_piece v)
      by_label (inl is) = both_at plan _ _ _ (sym is.1) (both_through plan _ _ _ (both_at plan _ _ _ is.0 (groups.joined v within)) greater_and_less_joined)
      by_label (inr is) = both_at plan _ _ _ (sym is.1) (groups.joined v within)

  -- an end of piece i has the lesser label
  end_after : (v : ℕ) → (labels v ≡ label_from) ⊎ (labels v ≡ label_to) → after_piece v ≡ min label_from label_to
  end_after v end = by_label (relabelled_is labels (max label_from label_to) (min label_from label_to) v) end
    where
      by_label : ((labels v ≡ max label_from label_to) × (after_piece v ≡ min label_from label_to)) ⊎ ((labels v ≡ max label_from label_to → ⊥) × (after_piece v ≡ labels v)) →
          (labels v ≡ label_from) ⊎ (labels v ≡ label_to) → after_piece v ≡ min label_from label_to
      by_label (inl is) end = is.1
      by_label (inr is) (inl from) = is.1 ∙ omega (arith, is.0, from)
      by_label (inr is) (inr to) = is.1 ∙ omega (arith, is.0, to)

  same_after : (k : ℕ) → k < i + 1 → after_piece (piece_at plan.pieces k).from ≡ after_piece (piece_at plan.pieces k).to
  same_after k within = by_order (cases_lt k i)
    where
      by_order : (k < i) ⊎ (i ≤ k) → after_piece (piece_at plan.pieces k).from ≡ after_piece (piece_at plan.pieces k).to
      by_order (inl less) = relabelled_same labels (max label_from label_to) (min label_from label_to) _ _ (groups.same k less)
      by_order (inr more) =
          let here : i ≡ k = omega arith in
          subst (λ (j : ℕ). after_piece (piece_at plan.pieces j).from ≡ after_piece (piece_at plan.pieces j).to) here
          (end_after (piece_at plan.pieces i).from (inl refl) ∙ sym (end_after (piece_at plan.pieces i).to (inr refl)))

  -- one more piece joins the groups of its ends
  pub labels_one_more : AreLabels plan (i + 1) (merged labels (piece_at plan.pieces i).from (piece_at plan.pieces i).to)
  labels_one_more = record { joined = joined_after; same = same_after }

-- one more piece in the list that leads down
pub groups_one_more : (plan : Plan) (i : ℕ) (leads : List ℕ) → i < length plan.pieces → AreGroups plan i leads →
    (more : List ℕ) → length more ≡ length leads → GoDown more →
    ((labels : ℕ → ℕ) → IsLabelling leads labels → IsLabelling more (merged labels (piece_at plan.pieces i).from (piece_at plan.pieces i).to)) →
    AreGroups plan (i + 1) more
groups_one_more plan i leads inside groups more fits down step = record {
  one_for_each = fits ∙ groups.one_for_each;
  down = down;
  labels = merged groups.labels (piece_at plan.pieces i).from (piece_at plan.pieces i).to;
  labelling = step groups.labels groups.labelling;
  of_groups = labels_one_more plan i inside groups.labels groups.of_groups;
}

-- a vertex that leads to a joined one is joined
joined_next : (plan : Plan) (n : ℕ) (leads : List ℕ) → AreGroups plan n leads → (v : ℕ) → v < plan.vertices → (0 < v → slice_index leads v ≢ v) →
    ((u : ℕ) → u < v → IsJoined plan u) → IsJoined plan v
joined_next plan n leads groups v within none lesser = by_start (cases_eq v 0)
  where
    by_start : (v ≡ 0) ⊎ (v ≡ 0 → ⊥) → IsJoined plan v
    by_start (inl first) = subst (λ (x : ℕ). IsJoined plan x) (sym first) start
    by_start (inr other) =
        let here : v < length leads = omega (arith, groups.one_for_each, within) in
        let next = slice_index leads v in
        let apart : next ≢ v = none (omega (arith, other)) in
        let before : next < v = omega (arith, groups.down v here, apart) in
        let next_label = (groups.of_groups.joined next (omega (arith, before, within))).0 (lesser next before) in
        (groups.of_groups.joined v within).1 (subst (λ (x : ℕ). IsJoined plan x) (groups.labelling.on v here) next_label)

-- where none but 0 leads to itself, all are joined
pub all_joined : (plan : Plan) (n : ℕ) (leads : List ℕ) → AreGroups plan n leads → (bound : ℕ) → bound ≤ plan.vertices → ((v : ℕ) → 0 < v → v < bound → slice_index leads v ≢ v) →
    (v : ℕ) → v < bound → IsJoined plan v
all_joined plan n leads groups zero fits none v within = absurd (omega arith)
all_joined plan n leads groups (suc bound) fits none v within =
    joined_next plan n leads groups v (omega arith) (λ after. none v after within)
    (λ u before. all_joined plan n leads groups bound (omega arith) (λ w after below. none w after (omega arith)) u (omega arith))

-- joined vertices have one label, once all pieces are in
pub joined_label : (plan : Plan) (labels : ℕ → ℕ) → AreLabels plan (length plan.pieces) labels → (v : ℕ) → IsJoined plan v → labels v ≡ labels 0
joined_label plan labels groups v start = refl
joined_label plan labels groups v (forward i inside may before) = sym (groups.same i inside) ∙ joined_label plan labels groups _ before
joined_label plan labels groups v (backward i inside may before) = groups.same i inside ∙ joined_label plan labels groups _ before

-- the second that leads to itself is the first that is not joined
pub apart_from_second : (plan : Plan) (leads : List ℕ) → AreGroups plan (length plan.pieces) leads → (v : ℕ) → IsSecondLeast leads v → IsFirstApart plan v
apart_from_second plan leads groups v second = (
  omega (arith, second.inside, groups.one_for_each),
  λ joined.
      let nothing_before : slice_index leads 0 ≡ 0 = omega (arith, groups.down 0 (omega (arith, second.inside))) in
      let label : groups.labels v ≡ groups.labels 0 = joined_label plan groups.labels groups.of_groups v joined in
      let own : groups.labels v ≡ v = groups.labelling.ends v second.inside second.leads_to_itself in
      let zero_own : groups.labels 0 ≡ 0 = groups.labelling.ends 0 (omega (arith, second.inside)) nothing_before in
      omega (arith, second.after, label, own, zero_own),
  all_joined plan (length plan.pieces) leads groups v (omega (arith, second.inside, groups.one_for_each)) second.first,
)

-- at first each vertex has its own label
pub single_labels : (plan : Plan) → AreLabels plan 0 (λ v. v)
single_labels plan = record {
  joined = λ v within. (λ joined. joined, λ joined. joined);
  same = λ i none. absurd (omega arith);
}

pub single : (plan : Plan) (leads : List ℕ) → length leads ≡ plan.vertices → ((v : ℕ) → v < plan.vertices → slice_index leads v ≡ v) → AreGroups plan 0 leads
single plan leads fits own = record {
  one_for_each = fits;
  down = λ v within. omega (arith, own v (omega (arith, within, fits)));
  labels = λ v. v;
  labelling = record { on = λ v within. own v (omega (arith, within, fits)); ends = λ v within itself. refl };
  of_groups = single_labels plan;
}

-- the answer of the search for a second that leads to itself
pub connected_or_apart : (plan : Plan) (leads : List ℕ) → AreGroups plan (length plan.pieces) leads → (found : Option ℕ) →
    MatchOption found ((v : ℕ) → 0 < v → v < plan.vertices → slice_index leads v ≢ v) (IsSecondLeast leads) →
    MatchOption found (IsConnected plan) (IsFirstApart plan)
connected_or_apart plan leads groups None none = all_joined plan (length plan.pieces) leads groups plan.vertices (omega arith) none
connected_or_apart plan leads groups (Some v) second = apart_from_second plan leads groups v second

-- the labels that the first n pieces make
abbrev pub labels_by : Plan → ℕ → ℕ → ℕ
labels_by plan zero v = v
labels_by plan (suc n) v = merged (labels_by plan n) (piece_at plan.pieces n).from (piece_at plan.pieces n).to v

pub are_labels : (plan : Plan) (n : ℕ) → n ≤ length plan.pieces → AreLabels plan n (labels_by plan n)
are_labels plan zero fits = single_labels plan
are_labels plan (suc n) fits =
    let next : n + 1 ≡ suc n = omega arith in
    subst (λ (m : ℕ). AreLabels plan m (labels_by plan (suc n))) next
    (labels_one_more plan n (omega arith) (labels_by plan n) (are_labels plan n (omega arith)))

-- a vertex is joined with vertex 0, or it is not
pub joined_or_apart : (plan : Plan) → 0 < plan.vertices → (v : ℕ) → v < plan.vertices → IsJoined plan v ⊎ (IsJoined plan v → ⊥)
joined_or_apart plan some v inside = by_label (cases_eq (labels v) (labels 0))
  where
    labels : ℕ → ℕ
    labels = labels_by plan (length plan.pieces)

    groups : AreLabels plan (length plan.pieces) labels
    groups = are_labels plan (length plan.pieces) (omega arith)

    by_label : (labels v ≡ labels 0) ⊎ (labels v ≡ labels 0 → ⊥) → IsJoined plan v ⊎ (IsJoined plan v → ⊥)
    by_label (inl same) = inl ((groups.joined v inside).1 (subst (λ (x : ℕ). IsJoined plan x) (sym same) ((groups.joined 0 some).0 start)))
    by_label (inr other) = inr (λ joined. other (joined_label plan labels groups v joined))
