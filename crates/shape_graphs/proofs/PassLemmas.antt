-- An arc from a node that was left is passed.
use Rattle.std.proofs.Common.{◌≡◌, ℕ, suc, ◌+◌, ◌<◌, ◌≤◌, ◌-◌, List, [], ◌∷◌, ◌++◌, length, slice_index, set, ◌⊎◌, inl, inr, sym, ap, ◌∙◌, subst, arith}
use Rattle.std.specs.Prelude.{sum}
use Rattle.std.proofs.Math.ListN.{length-set}
use Rattle.std.proofs.lemmas.Bool.{cases_eq, cases_lt}
use Rattle.std.proofs.lemmas.List.{length_push}
use Rattle.std.proofs.lemmas.List.Sums.{sum_by-set}
use Rattle.shape_graphs.specs.declared.graph.Arc.{Arc}
use Rattle.shape_graphs.specs.declared.trail.Mark.{Mark}
use Rattle.shape_graphs.specs.declared.trail.Mark.TheVariants.{Fresh, Walked, Left}
use Rattle.shape_graphs.specs.declared.trail.Trail.{Trail}
use Rattle.shape_graphs.specs.Arcs.{arc_at, EndsAreNodes}
use Rattle.shape_graphs.specs.Paths.{step_arc}
use Rattle.shape_graphs.specs.inner.Trails.{IsLastInto, AreLinked, mark_at, IsPassed, ArePassed, IsWalk, IsTrail, IsTrailStep}
use Rattle.shape_graphs.proofs.ListCases.{Written, written, Pushed, pushed}
use Rattle.shape_graphs.proofs.TrailLemmas.{two_nodes, walked_or_left, entered_at}

module _ (nodes : ℕ) (arcs : List Arc) (t : Trail) (node arc value : ℕ) (old : IsTrail nodes arcs t)
    (some : 0 < length t.walk) (last : slice_index t.walk (length t.walk - 1) ≡ node)
    (is_arc : slice_index t.next node ≡ suc arc) (link : IsLastInto arcs arc (arc_at arcs arc).to value)
    (from_left : mark_at t.marks (arc_at arcs arc).from ≡ Left) where
  is_node : node < nodes
  is_node = rw (← last) (old.walk.in_graph (length t.walk - 1) (omega arith))

  inside : node < length t.next
  inside = omega (arith, old.next_for_each, is_node)

  walked : mark_at t.marks node ≡ Walked
  walked = rw (← last) (old.walk.are_walked (length t.walk - 1) (omega arith))

  arc_within : arc < length arcs
  arc_within = let at_most : slice_index t.next node ≤ length arcs = old.next_within node is_node in omega (arith, is_arc, at_most)

  arc_ends : (arc_at arcs arc).to ≡ node
  arc_ends =
      let same : slice_index t.next node - 1 ≡ arc = omega (arith, is_arc) in
      let ends : (arc_at arcs (slice_index t.next node - 1)).to ≡ node = old.next_ends node is_node (omega (arith, is_arc)) in
      sym (ap (λ (i : ℕ). (arc_at arcs i).to) same) ∙ ends

  abbrev After : ℕ → Type 0
  After v = Written 0 t.next node value v

  after : (v : ℕ) → After v
  after v = written 0 t.next node value v inside

  -- what is passed now was passed before, or is the arc
  newly : (i : ℕ) → After (arc_at arcs i).to → IsPassed arcs (set t.next node value) i → (IsPassed arcs t.next i) ⊎ (i ≡ arc)
  newly i (inr other) passed = inl (rw (← other.1) passed)
  newly i (inl same) passed = by_place (cases_lt i (suc arc))
    where
      from_value : value ≤ i
      from_value = rw same.1 at passed

      by_arc : i ≤ arc → (i ≡ arc) ⊎ (i ≡ arc → ⊥) → (IsPassed arcs t.next i) ⊎ (i ≡ arc)
      by_arc at_most (inl here) = inr here
      by_arc at_most (inr other) = absurd (link.none_between i from_value (omega arith) (same.0 ∙ sym arc_ends))

      by_place : (i < suc arc) ⊎ (suc arc ≤ i) → (IsPassed arcs t.next i) ⊎ (i ≡ arc)
      by_place (inl before) = by_arc (omega arith) (cases_eq i arc)
      by_place (inr behind) = inl (rw (same.0, is_arc) behind)

  -- what was passed stays so
  still : (i : ℕ) → After (arc_at arcs i).to → IsPassed arcs t.next i → IsPassed arcs (set t.next node value) i
  still i (inr other) passed = rw other.1 passed
  still i (inl same) passed =
      let old_entry : slice_index t.next (arc_at arcs i).to ≡ suc arc = ap (slice_index t.next) same.0 ∙ is_arc in
      rw same.1 (omega (arith, passed, old_entry, link.within))

  -- the arc is passed now
  is_passed : After (arc_at arcs arc).to → IsPassed arcs (set t.next node value) arc
  is_passed (inl same) = rw same.1 link.within
  is_passed (inr other) = absurd (other.0 arc_ends)

  -- it was not before
  not_before : IsPassed arcs t.next arc → ⊥
  not_before passed =
      let entry : slice_index t.next (arc_at arcs arc).to ≡ suc arc = ap (slice_index t.next) arc_ends ∙ is_arc in
      omega (arith, entry, passed)

  abbrev From : ℕ → Type 0
  From k = Pushed 0 t.passed arc k

  from_place : (k : ℕ) → k < length (t.passed ++ arc ∷ []) → From k
  from_place k h = pushed 0 t.passed arc k h

  pass_in_graph : (k : ℕ) → From k → slice_index (t.passed ++ arc ∷ []) k < length arcs
  pass_in_graph k (inl before) = rw before.1 (old.passed.in_graph k before.0)
  pass_in_graph k (inr here) = rw here.1 arc_within

  pass_are_passed : (k : ℕ) → From k → IsPassed arcs (set t.next node value) (slice_index (t.passed ++ arc ∷ []) k)
  pass_are_passed k (inl before) =
      let P : ℕ → Type 0 = λ i. IsPassed arcs (set t.next node value) i in
      subst P (sym before.1) (still (slice_index t.passed k) (after (arc_at arcs (slice_index t.passed k)).to) (old.passed.are_passed k before.0))
  pass_are_passed k (inr here) =
      let P : ℕ → Type 0 = λ i. IsPassed arcs (set t.next node value) i in
      subst P (sym here.1) (is_passed (after (arc_at arcs arc).to))

  pass_has_each : (i : ℕ) → i < length arcs → (IsPassed arcs t.next i) ⊎ (i ≡ arc) →
      (k : ℕ) × (k < length (t.passed ++ arc ∷ [])) × (slice_index (t.passed ++ arc ∷ []) k ≡ i)
  pass_has_each i within (inl passed) =
      let found = old.passed.has_each i within passed in
      let found_in : found.0 < length (t.passed ++ arc ∷ []) = omega (arith, length_push t.passed arc, found.1) in
      (found.0, found_in, at_before found.0 found.1 (from_place found.0 found_in) ∙ found.2)
    where
      at_before : (k : ℕ) → k < length t.passed → From k → slice_index (t.passed ++ arc ∷ []) k ≡ slice_index t.passed k
      at_before k less (inl before) = before.1
      at_before k less (inr here) = absurd (omega (arith, here.0))
  pass_has_each i within (inr same) =
      let last_in : length t.passed < length (t.passed ++ arc ∷ []) = omega (arith, length_push t.passed arc) in
      (length t.passed, last_in, at_last (from_place (length t.passed) last_in) ∙ sym same)
    where
      at_last : From (length t.passed) → slice_index (t.passed ++ arc ∷ []) (length t.passed) ≡ arc
      at_last (inl before) = absurd (omega (arith, before.0))
      at_last (inr here) = here.1

  not_in : (k : ℕ) → k < length t.passed → slice_index t.passed k ≡ arc → ⊥
  not_in k less same =
      let P : ℕ → Type 0 = λ i. IsPassed arcs t.next i in
      not_before (subst P same (old.passed.are_passed k less))

  pass_no_arc_twice : (k l : ℕ) → From k → From l →
      slice_index (t.passed ++ arc ∷ []) k ≡ slice_index (t.passed ++ arc ∷ []) l → k ≡ l
  pass_no_arc_twice k l (inl a) (inl b) same = old.passed.no_arc_twice k l a.0 b.0 (sym a.1 ∙ same ∙ b.1)
  pass_no_arc_twice k l (inl a) (inr b) same = absurd (not_in k a.0 (sym a.1 ∙ same ∙ b.1))
  pass_no_arc_twice k l (inr a) (inl b) same = absurd (not_in l b.0 (sym b.1 ∙ sym same ∙ a.1))
  pass_no_arc_twice k l (inr a) (inr b) same = a.0 ∙ sym b.0

  -- the arc ends at a node of the walk, so at none where an arc that was passed begins
  ends_apart : (v : ℕ) → mark_at t.marks v ≡ Left → (arc_at arcs arc).to ≡ v → ⊥
  ends_apart v is_left ends = two_nodes t.marks node v Walked Left walked is_left walked_or_left (sym arc_ends ∙ ends)

  pass_ends_before : (k l : ℕ) → From k → From l →
      (step_arc arcs (t.passed ++ arc ∷ []) l).to ≡ (step_arc arcs (t.passed ++ arc ∷ []) k).from → l < k
  pass_ends_before k l (inl a) (inl b) joined =
      old.passed.ends_before k l a.0 b.0
      (sym (ap (λ (i : ℕ). (arc_at arcs i).to) b.1) ∙ joined ∙ ap (λ (i : ℕ). (arc_at arcs i).from) a.1)
  pass_ends_before k l (inr a) (inl b) joined = omega (arith, a.0, b.0)
  pass_ends_before k l (inl a) (inr b) joined =
      absurd (ends_apart (arc_at arcs (slice_index t.passed k)).from
      (old.passed_left (slice_index t.passed k) (old.passed.in_graph k a.0) (old.passed.are_passed k a.0))
      (sym (ap (λ (i : ℕ). (arc_at arcs i).to) b.1) ∙ joined ∙ ap (λ (i : ℕ). (arc_at arcs i).from) a.1))
  pass_ends_before k l (inr a) (inr b) joined =
      absurd (ends_apart (arc_at arcs arc).from from_left
      (sym (ap (λ (i : ℕ). (arc_at arcs i).to) b.1) ∙ joined ∙ ap (λ (i : ℕ). (arc_at arcs i).from) a.1))

  arcs_passed : ArePassed arcs (set t.next node value) (t.passed ++ arc ∷ [])
  arcs_passed = record {
    in_graph = λ k h. pass_in_graph k (from_place k h);
    are_passed = λ k h. pass_are_passed k (from_place k h);
    has_each = λ i within passed. pass_has_each i within (newly i (after (arc_at arcs i).to) passed);
    no_arc_twice = λ k l hk hl same. pass_no_arc_twice k l (from_place k hk) (from_place l hl) same;
    ends_before = λ k l hk hl joined. pass_ends_before k l (from_place k hk) (from_place l hl) joined;
  }

  walk_next : (k : ℕ) → suc k < length t.walk → After (slice_index t.walk k) →
      slice_index (set t.next node value) (slice_index t.walk k) ≡ slice_index t.next (slice_index t.walk k)
  walk_next k less (inl same) = absurd (twice same.0)
    where
      twice : slice_index t.walk k ≡ node → ⊥
      twice here =
          let one : k ≡ length t.walk - 1 = old.walk.no_node_twice k (length t.walk - 1) (omega arith) (omega arith) (here ∙ sym last) in
          omega (arith, one)
  walk_next k less (inr other) = other.1

  walk_stays : IsWalk nodes arcs (set t.next node value) t.marks t.walk
  walk_stays = record {
    in_graph = old.walk.in_graph;
    are_walked = old.walk.are_walked;
    has_walked = old.walk.has_walked;
    no_node_twice = old.walk.no_node_twice;
    some_arc = λ k h. rw (walk_next k h (after (slice_index t.walk k))) (old.walk.some_arc k h);
    against = λ k h. rw (walk_next k h (after (slice_index t.walk k))) (old.walk.against k h);
  }

  pass_within : (v : ℕ) → v < nodes → After v → slice_index (set t.next node value) v ≤ length arcs
  pass_within v within (inl same) = rw same.1 (omega (arith, link.within, arc_within))
  pass_within v within (inr other) = rw other.1 (old.next_within v within)

  pass_ends : (v : ℕ) → v < nodes → After v → 0 < slice_index (set t.next node value) v →
      (arc_at arcs (slice_index (set t.next node value) v - 1)).to ≡ v
  pass_ends v within (inl same) more = rw same.1 (link.ends (rw same.1 at more) ∙ arc_ends ∙ sym same.0)
  pass_ends v within (inr other) more = rw other.1 (old.next_ends v within (rw other.1 at more))

  pass_all_passed : (v : ℕ) → v < nodes → mark_at t.marks v ≡ Left → After v → slice_index (set t.next node value) v ≡ 0
  pass_all_passed v within is_left (inl same) =
      absurd (two_nodes t.marks node v Walked Left walked is_left walked_or_left (sym same.0))
  pass_all_passed v within is_left (inr other) = other.1 ∙ old.left_passed v within is_left

  pass_left : (i : ℕ) → i < length arcs → (IsPassed arcs t.next i) ⊎ (i ≡ arc) → mark_at t.marks (arc_at arcs i).from ≡ Left
  pass_left i within (inl passed) = old.passed_left i within passed
  pass_left i within (inr same) = ap (λ (j : ℕ). mark_at t.marks (arc_at arcs j).from) same ∙ from_left

  pass_sum : sum (set t.next node value) + slice_index t.next node ≡ sum t.next + value
  pass_sum = sum_by-set (λ x. x) t.next node value 0 inside

  pub arc_passed : IsTrailStep nodes arcs t (record t { next = set t.next node value; passed = t.passed ++ arc ∷ [] })
  arc_passed = record {
    trail = record {
      next_for_each = length-set t.next node value ∙ old.next_for_each;
      mark_for_each = old.mark_for_each;
      next_within = λ v within. pass_within v within (after v);
      next_ends = λ v within more. pass_ends v within (after v) more;
      left_passed = λ v within is_left. pass_all_passed v within is_left (after v);
      passed_left = λ i within passed. pass_left i within (newly i (after (arc_at arcs i).to) passed);
      passed = arcs_passed;
      walk = walk_stays;
    };
    stay = λ v within is_left. is_left;
    met_stay = λ v within is_fresh. is_fresh;
    less = omega (arith, pass_sum, is_arc, link.within);
  }

-- the same for what the code reads
pub passed_at : (nodes : ℕ) (arcs : List Arc) (t new : Trail) (node arc : ℕ) (walk next before : List ℕ) (read : List Arc) (marks : List Mark) →
    IsTrail nodes arcs t → AreLinked arcs (length arcs) before → 0 < length t.walk →
    walk ≡ t.walk → next ≡ t.next → read ≡ arcs → marks ≡ t.marks →
    node ≡ slice_index walk (length walk - 1) → arc ≡ slice_index next node - 1 → (slice_index next node ≡ 0 → ⊥) →
    mark_at marks (arc_at read arc).from ≡ Left →
    new ≡ record t { next = set t.next node (slice_index before arc); passed = t.passed ++ arc ∷ [] } → IsTrailStep nodes arcs t new
passed_at nodes arcs t new node arc walk next before read marks old linked some is_walk is_next is_read is_marks is_node is_arc entry from_left is_new =
    subst (IsTrailStep nodes arcs t) (sym is_new)
    (arc_passed nodes arcs t node arc (slice_index before arc) old some (sym at_last) at_entry
    (linked.each arc arc_inside) (sym (ap (λ (l : List Arc). mark_at marks (arc_at l arc).from) is_read ∙ ap (λ (l : List Mark). mark_at l (arc_at arcs arc).from) is_marks) ∙ from_left))
  where
    at_last : node ≡ slice_index t.walk (length t.walk - 1)
    at_last = is_node ∙ ap (λ (l : List ℕ). slice_index l (length l - 1)) is_walk

    same_entry : slice_index next node ≡ slice_index t.next node
    same_entry = ap (λ (l : List ℕ). slice_index l node) is_next

    at_entry : slice_index t.next node ≡ suc arc
    at_entry = omega (arith, same_entry, is_arc, entry)

    node_inside : node < nodes
    node_inside = rw at_last (old.walk.in_graph (length t.walk - 1) (omega arith))

    arc_inside : arc < length arcs
    arc_inside = let at_most : slice_index t.next node ≤ length arcs = old.next_within node node_inside in omega (arith, at_entry, at_most)

pub followed_at : (nodes : ℕ) (arcs : List Arc) (t new : Trail) (node arc from : ℕ) (walk next : List ℕ) (read : List Arc) (marks : List Mark) →
    IsTrail nodes arcs t → EndsAreNodes nodes arcs → 0 < length t.walk →
    walk ≡ t.walk → next ≡ t.next → read ≡ arcs → marks ≡ t.marks →
    node ≡ slice_index walk (length walk - 1) → arc ≡ slice_index next node - 1 → (slice_index next node ≡ 0 → ⊥) →
    from ≡ (arc_at read arc).from → mark_at marks from ≡ Fresh →
    new ≡ record t { marks = set t.marks from Walked; walk = t.walk ++ from ∷ [] } → IsTrailStep nodes arcs t new
followed_at nodes arcs t new node arc from walk next read marks old ends some is_walk is_next is_read is_marks is_node is_arc entry is_from fresh is_new =
    entered_at nodes arcs t new node arc from old ends some
    (is_node ∙ ap (λ (l : List ℕ). slice_index l (length l - 1)) is_walk)
    (let same_entry : slice_index next node ≡ slice_index t.next node = ap (λ (l : List ℕ). slice_index l node) is_next in omega (arith, same_entry, is_arc, entry))
    (is_from ∙ ap (λ (l : List Arc). (arc_at l arc).from) is_read)
    (sym (ap (λ (l : List Mark). mark_at l from) is_marks) ∙ fresh) is_new
