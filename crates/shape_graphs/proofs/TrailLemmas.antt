-- The steps of a walk against the arcs.
use Rattle.std.proofs.Common.{◌≡◌, ℕ, suc, ◌+◌, ◌<◌, ◌≤◌, ◌-◌, List, [], ◌∷◌, ◌++◌, length, slice_index, set, take, ◌⊎◌, inl, inr, refl, sym, ap, ◌∙◌, subst, arith}
use Rattle.std.specs.List.{sum_by}
use Rattle.std.proofs.Math.ListN.{length-set}
use Rattle.std.proofs.lemmas.Bool.{cases_lt}
use Rattle.std.proofs.lemmas.List.{length_push, get_or-take, length-take-le}
use Rattle.std.proofs.lemmas.List.Sums.{sum_by-set}
use Rattle.shape_graphs.specs.declared.graph.Arc.{Arc}
use Rattle.shape_graphs.specs.declared.trail.Mark.{Mark}
use Rattle.shape_graphs.specs.declared.trail.Mark.TheVariants.{Fresh, Walked, Left}
use Rattle.shape_graphs.specs.declared.trail.Trail.{Trail}
use Rattle.shape_graphs.specs.Arcs.{arc_at, EndsAreNodes}
use Rattle.shape_graphs.specs.inner.Trails.{mark_at, IsWalk, IsTrail, weight_of, IsTrailStep}
use Rattle.shape_graphs.proofs.ListCases.{Written, written, Pushed, pushed}

-- two nodes with different marks are two
pub two_nodes : (marks : List Mark) (v w : ℕ) (a b : Mark) → mark_at marks v ≡ a → mark_at marks w ≡ b → (a ≡ b → ⊥) → v ≡ w → ⊥
two_nodes marks v w a b is_a is_b differ same = differ (sym is_a ∙ ap (mark_at marks) same ∙ is_b)

pub walked_or_left : Walked ≡ Left → ⊥
walked_or_left e = cc

walked_or_fresh : Walked ≡ Fresh → ⊥
walked_or_fresh e = cc

left_or_fresh : Left ≡ Fresh → ⊥
left_or_fresh e = cc

-- what the arc at hand of the last node has to be, for the walk to go on to the node
abbrev pub LeadsTo : List Arc → List ℕ → List ℕ → ℕ → Type 0
LeadsTo arcs next walk node =
    (k : ℕ) → suc k ≡ length walk →
    (0 < slice_index next (slice_index walk k)) × ((arc_at arcs (slice_index next (slice_index walk k) - 1)).from ≡ node)

-- the walk goes on to a fresh node
module _ (nodes : ℕ) (arcs : List Arc) (next : List ℕ) (marks : List Mark) (walk : List ℕ) (node : ℕ)
    (old : IsWalk nodes arcs next marks walk) (inside : node < length marks) (is_node : node < nodes)
    (fresh : mark_at marks node ≡ Fresh) (last : LeadsTo arcs next walk node) where
  enter_in_graph : (k : ℕ) → Pushed 0 walk node k → slice_index (walk ++ node ∷ []) k < nodes
  enter_in_graph k (inl before) = rw before.1 (old.in_graph k before.0)
  enter_in_graph k (inr here) = rw here.1 is_node

  enter_are_walked : (k : ℕ) → Pushed 0 walk node k → mark_at (set marks node Walked) (slice_index (walk ++ node ∷ []) k) ≡ Walked
  enter_are_walked k (inl before) =
      rw before.1 (by_mark (written Fresh marks node Walked (slice_index walk k) inside))
    where
      by_mark : Written Fresh marks node Walked (slice_index walk k) → mark_at (set marks node Walked) (slice_index walk k) ≡ Walked
      by_mark (inl same) = same.1
      by_mark (inr other) = other.1 ∙ old.are_walked k before.0
  enter_are_walked k (inr here) =
      rw here.1 (by_mark (written Fresh marks node Walked node inside))
    where
      by_mark : Written Fresh marks node Walked node → mark_at (set marks node Walked) node ≡ Walked
      by_mark (inl same) = same.1
      by_mark (inr other) = absurd (other.0 refl)

  enter_has_walked : (v : ℕ) → v < nodes → mark_at (set marks node Walked) v ≡ Walked →
      (k : ℕ) × (k < length (walk ++ node ∷ [])) × (slice_index (walk ++ node ∷ []) k ≡ v)
  enter_has_walked v within walked = by_mark (written Fresh marks node Walked v inside)
    where
      at_last : Pushed 0 walk node (length walk) → slice_index (walk ++ node ∷ []) (length walk) ≡ node
      at_last (inl before) = absurd (omega (arith, before.0))
      at_last (inr here) = here.1

      at_before : (k : ℕ) → k < length walk → Pushed 0 walk node k → slice_index (walk ++ node ∷ []) k ≡ slice_index walk k
      at_before k less (inl before) = before.1
      at_before k less (inr here) = absurd (omega (arith, here.0))

      by_mark : Written Fresh marks node Walked v → (k : ℕ) × (k < length (walk ++ node ∷ [])) × (slice_index (walk ++ node ∷ []) k ≡ v)
      by_mark (inl same) =
          let last_in : length walk < length (walk ++ node ∷ []) = omega (arith, length_push walk node) in
          (length walk, last_in, at_last (pushed 0 walk node (length walk) last_in) ∙ sym same.0)
      by_mark (inr other) =
          let found = old.has_walked v within (sym other.1 ∙ walked) in
          let found_in : found.0 < length (walk ++ node ∷ []) = omega (arith, length_push walk node, found.1) in
          (found.0, found_in, at_before found.0 found.1 (pushed 0 walk node found.0 found_in) ∙ found.2)

  enter_no_node_twice : (k l : ℕ) → Pushed 0 walk node k → Pushed 0 walk node l →
      slice_index (walk ++ node ∷ []) k ≡ slice_index (walk ++ node ∷ []) l → k ≡ l
  enter_no_node_twice k l (inl a) (inl b) same = old.no_node_twice k l a.0 b.0 (sym a.1 ∙ same ∙ b.1)
  enter_no_node_twice k l (inl a) (inr b) same =
      absurd (two_nodes marks (slice_index walk k) node Walked Fresh (old.are_walked k a.0) fresh walked_or_fresh (sym a.1 ∙ same ∙ b.1))
  enter_no_node_twice k l (inr a) (inl b) same =
      absurd (two_nodes marks (slice_index walk l) node Walked Fresh (old.are_walked l b.0) fresh walked_or_fresh (sym b.1 ∙ sym same ∙ a.1))
  enter_no_node_twice k l (inr a) (inr b) same = a.0 ∙ sym b.0

  enter_link : (k : ℕ) → Pushed 0 walk node k → Pushed 0 walk node (suc k) →
      (0 < slice_index next (slice_index (walk ++ node ∷ []) k))
      × ((arc_at arcs (slice_index next (slice_index (walk ++ node ∷ []) k) - 1)).from ≡ slice_index (walk ++ node ∷ []) (suc k))
  enter_link k (inl a) (inl b) = rw (a.1, b.1) (old.some_arc k b.0, old.against k b.0)
  enter_link k (inl a) (inr b) = rw (a.1, b.1) (last k b.0)
  enter_link k (inr a) (inl b) = absurd (omega (arith, a.0, b.0))
  enter_link k (inr a) (inr b) = absurd (omega (arith, a.0, b.0))

  pub walk_entered : IsWalk nodes arcs next (set marks node Walked) (walk ++ node ∷ [])
  walk_entered = record {
    in_graph = λ k h. enter_in_graph k (pushed 0 walk node k h);
    are_walked = λ k h. enter_are_walked k (pushed 0 walk node k h);
    has_walked = enter_has_walked;
    no_node_twice = λ k l hk hl same. enter_no_node_twice k l (pushed 0 walk node k hk) (pushed 0 walk node l hl) same;
    some_arc = λ k h. (enter_link k (pushed 0 walk node k (omega arith)) (pushed 0 walk node (suc k) h)).0;
    against = λ k h. (enter_link k (pushed 0 walk node k (omega arith)) (pushed 0 walk node (suc k) h)).1;
  }

-- the mark of a node of the walk stays where a fresh node is marked
pub entered : (nodes : ℕ) (arcs : List Arc) (t : Trail) (node : ℕ) → IsTrail nodes arcs t → node < nodes → mark_at t.marks node ≡ Fresh →
    LeadsTo arcs t.next t.walk node →
    IsTrailStep nodes arcs t (record t { marks = set t.marks node Walked; walk = t.walk ++ node ∷ [] })
entered nodes arcs t node old is_node fresh last = record {
  trail = record {
    next_for_each = old.next_for_each;
    mark_for_each = length-set t.marks node Walked ∙ old.mark_for_each;
    next_within = old.next_within;
    next_ends = old.next_ends;
    left_passed = λ v within left. left_before v within left (written Fresh t.marks node Walked v inside);
    passed_left = λ i within passed. stays (arc_at arcs i).from (old.passed_left i within passed) (written Fresh t.marks node Walked (arc_at arcs i).from inside);
    passed = old.passed;
    walk = walk_entered nodes arcs t.next t.marks t.walk node old.walk inside is_node fresh last;
  };
  stay = λ v within left. stays v left (written Fresh t.marks node Walked v inside);
  met_stay = λ v within is_fresh. was_fresh v is_fresh (written Fresh t.marks node Walked v inside);
  less = omega (arith, changed, ap weight_of fresh);
}
  where
    inside : node < length t.marks
    inside = omega (arith, old.mark_for_each)

    left_before : (v : ℕ) → v < nodes → mark_at (set t.marks node Walked) v ≡ Left → Written Fresh t.marks node Walked v → slice_index t.next v ≡ 0
    left_before v within left (inl same) = absurd (walked_or_left (sym same.1 ∙ left))
    left_before v within left (inr other) = old.left_passed v within (sym other.1 ∙ left)

    stays : (v : ℕ) → mark_at t.marks v ≡ Left → Written Fresh t.marks node Walked v → mark_at (set t.marks node Walked) v ≡ Left
    stays v left (inl same) = absurd (left_or_fresh (sym left ∙ ap (mark_at t.marks) same.0 ∙ fresh))
    stays v left (inr other) = other.1 ∙ left

    was_fresh : (v : ℕ) → mark_at (set t.marks node Walked) v ≡ Fresh → Written Fresh t.marks node Walked v → mark_at t.marks v ≡ Fresh
    was_fresh v is_fresh (inl same) = absurd (walked_or_fresh (sym same.1 ∙ is_fresh))
    was_fresh v is_fresh (inr other) = sym other.1 ∙ is_fresh

    changed : sum_by weight_of (set t.marks node Walked) + weight_of (mark_at t.marks node) ≡ sum_by weight_of t.marks + 1
    changed = sum_by-set weight_of t.marks node Walked Fresh inside

-- the last node is taken off the walk
module _ (nodes : ℕ) (arcs : List Arc) (next : List ℕ) (marks : List Mark) (walk : List ℕ) (node : ℕ)
    (old : IsWalk nodes arcs next marks walk) (inside : node < length marks)
    (some : 0 < length walk) (last : slice_index walk (length walk - 1) ≡ node) where
  shorter_length : length (take (length walk - 1) walk) ≡ length walk - 1
  shorter_length = length-take-le (length walk - 1) walk (omega arith)

  shorter_at : (k : ℕ) → k < length walk - 1 → slice_index (take (length walk - 1) walk) k ≡ slice_index walk k
  shorter_at k less = get_or-take (length walk - 1) walk k 0 less

  pub not_last : (k : ℕ) → suc k < length walk → slice_index walk k ≡ node → ⊥
  not_last k less same =
      let twice : k ≡ length walk - 1 = old.no_node_twice k (length walk - 1) (omega arith) (omega arith) (same ∙ sym last) in
      omega (arith, twice)

  leave_are_walked : (k : ℕ) → k < length walk - 1 → Written Fresh marks node Left (slice_index walk k) →
      mark_at (set marks node Left) (slice_index walk k) ≡ Walked
  leave_are_walked k less (inl same) = absurd (not_last k (omega arith) same.0)
  leave_are_walked k less (inr other) = other.1 ∙ old.are_walked k (omega arith)

  leave_has_walked : (v : ℕ) → v < nodes → mark_at (set marks node Left) v ≡ Walked → Written Fresh marks node Left v →
      (k : ℕ) × (k < length (take (length walk - 1) walk)) × (slice_index (take (length walk - 1) walk) k ≡ v)
  leave_has_walked v within walked (inl same) = absurd (walked_or_left (sym walked ∙ same.1))
  leave_has_walked v within walked (inr other) = by_place (cases_lt found.0 (length walk - 1))
    where
      found : (k : ℕ) × (k < length walk) × (slice_index walk k ≡ v)
      found = old.has_walked v within (sym other.1 ∙ walked)

      by_place : (found.0 < length walk - 1) ⊎ (length walk - 1 ≤ found.0) →
          (k : ℕ) × (k < length (take (length walk - 1) walk)) × (slice_index (take (length walk - 1) walk) k ≡ v)
      by_place (inl before) = (found.0, omega (arith, shorter_length, before), shorter_at found.0 before ∙ found.2)
      by_place (inr behind) =
          let here : found.0 ≡ length walk - 1 = omega (arith, behind, found.1) in
          absurd (other.0 (sym found.2 ∙ ap (slice_index walk) here ∙ last))

  pub walk_left : IsWalk nodes arcs next (set marks node Left) (take (length walk - 1) walk)
  walk_left = record {
    in_graph = λ k h. rw (shorter_at k (omega (arith, shorter_length))) (old.in_graph k (omega (arith, shorter_length)));
    are_walked = λ k h. rw (shorter_at k (omega (arith, shorter_length)))
        (leave_are_walked k (omega (arith, shorter_length)) (written Fresh marks node Left (slice_index walk k) inside));
    has_walked = λ v within walked. leave_has_walked v within walked (written Fresh marks node Left v inside);
    no_node_twice = λ k l hk hl same. old.no_node_twice k l (omega (arith, shorter_length)) (omega (arith, shorter_length))
        (sym (shorter_at k (omega (arith, shorter_length))) ∙ same ∙ shorter_at l (omega (arith, shorter_length)));
    some_arc = λ k h. rw (shorter_at k (omega (arith, shorter_length))) (old.some_arc k (omega (arith, shorter_length)));
    against = λ k h. rw (shorter_at k (omega (arith, shorter_length)), shorter_at (suc k) (omega (arith, shorter_length)))
        (old.against k (omega (arith, shorter_length)));
  }

-- a node without an arc at hand is left
pub left : (nodes : ℕ) (arcs : List Arc) (t : Trail) (node : ℕ) → IsTrail nodes arcs t → 0 < length t.walk →
    slice_index t.walk (length t.walk - 1) ≡ node → slice_index t.next node ≡ 0 →
    IsTrailStep nodes arcs t (record t { marks = set t.marks node Left; walk = take (length t.walk - 1) t.walk })
left nodes arcs t node old some last none = record {
  trail = record {
    next_for_each = old.next_for_each;
    mark_for_each = length-set t.marks node Left ∙ old.mark_for_each;
    next_within = old.next_within;
    next_ends = old.next_ends;
    left_passed = λ v within is_left. all_passed v within is_left (written Fresh t.marks node Left v inside);
    passed_left = λ i within passed. stays (arc_at arcs i).from (old.passed_left i within passed) (written Fresh t.marks node Left (arc_at arcs i).from inside);
    passed = old.passed;
    walk = walk_left nodes arcs t.next t.marks t.walk node old.walk inside some last;
  };
  stay = λ v within is_left. stays v is_left (written Fresh t.marks node Left v inside);
  met_stay = λ v within is_fresh. was_fresh v is_fresh (written Fresh t.marks node Left v inside);
  less = omega (arith, changed, ap weight_of walked);
}
  where
    is_node : node < nodes
    is_node = rw (← last) (old.walk.in_graph (length t.walk - 1) (omega arith))

    inside : node < length t.marks
    inside = omega (arith, old.mark_for_each, is_node)

    walked : mark_at t.marks node ≡ Walked
    walked = rw (← last) (old.walk.are_walked (length t.walk - 1) (omega arith))

    all_passed : (v : ℕ) → v < nodes → mark_at (set t.marks node Left) v ≡ Left → Written Fresh t.marks node Left v → slice_index t.next v ≡ 0
    all_passed v within is_left (inl same) = rw same.0 none
    all_passed v within is_left (inr other) = old.left_passed v within (sym other.1 ∙ is_left)

    stays : (v : ℕ) → mark_at t.marks v ≡ Left → Written Fresh t.marks node Left v → mark_at (set t.marks node Left) v ≡ Left
    stays v is_left (inl same) = same.1
    stays v is_left (inr other) = other.1 ∙ is_left

    was_fresh : (v : ℕ) → mark_at (set t.marks node Left) v ≡ Fresh → Written Fresh t.marks node Left v → mark_at t.marks v ≡ Fresh
    was_fresh v is_fresh (inl same) = absurd (left_or_fresh (sym same.1 ∙ is_fresh))
    was_fresh v is_fresh (inr other) = sym other.1 ∙ is_fresh

    changed : sum_by weight_of (set t.marks node Left) + weight_of (mark_at t.marks node) ≡ sum_by weight_of t.marks + 0
    changed = sum_by-set weight_of t.marks node Left Fresh inside

-- the same for what the code reads
pub left_at : (nodes : ℕ) (arcs : List Arc) (t new : Trail) (node : ℕ) (walk next : List ℕ) → IsTrail nodes arcs t → 0 < length t.walk →
    walk ≡ t.walk → next ≡ t.next → node ≡ slice_index walk (length walk - 1) → slice_index next node ≡ 0 →
    new ≡ record t { marks = set t.marks node Left; walk = take (length t.walk - 1) t.walk } → IsTrailStep nodes arcs t new
left_at nodes arcs t new node walk next old some is_walk is_next is_node none is_new =
    subst (IsTrailStep nodes arcs t) (sym is_new)
    (left nodes arcs t node old some (sym (is_node ∙ ap (λ (l : List ℕ). slice_index l (length l - 1)) is_walk))
    (ap (λ (l : List ℕ). slice_index l node) (sym is_next) ∙ none))

pub entered_at : (nodes : ℕ) (arcs : List Arc) (t new : Trail) (node arc from : ℕ) → IsTrail nodes arcs t → EndsAreNodes nodes arcs → 0 < length t.walk →
    node ≡ slice_index t.walk (length t.walk - 1) → slice_index t.next node ≡ suc arc → from ≡ (arc_at arcs arc).from → mark_at t.marks from ≡ Fresh →
    new ≡ record t { marks = set t.marks from Walked; walk = t.walk ++ from ∷ [] } → IsTrailStep nodes arcs t new
entered_at nodes arcs t new node arc from old ends some is_node is_entry is_from fresh is_new =
    subst (IsTrailStep nodes arcs t) (sym is_new)
    (entered nodes arcs t from old (rw is_from (ends arc arc_within).0) fresh leads)
  where
    node_within : node < nodes
    node_within = rw is_node (old.walk.in_graph (length t.walk - 1) (omega arith))

    arc_within : arc < length arcs
    arc_within = let at_most : slice_index t.next node ≤ length arcs = old.next_within node node_within in omega (arith, is_entry, at_most)

    leads : LeadsTo arcs t.next t.walk from
    leads k last =
        let here : k ≡ length t.walk - 1 = omega (arith, last) in
        let entry : slice_index t.next (slice_index t.walk k) ≡ suc arc =
        ap (λ (j : ℕ). slice_index t.next (slice_index t.walk j)) here ∙ ap (slice_index t.next) (sym is_node) ∙ is_entry in
        let number : slice_index t.next (slice_index t.walk k) - 1 ≡ arc = omega (arith, entry) in
        (omega (arith, entry), ap (λ (i : ℕ). (arc_at arcs i).from) number ∙ sym is_from)
