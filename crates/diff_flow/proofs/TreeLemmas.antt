-- Reached nodes, one more of them, and the steps that were passed.
use Rattle.std.proofs.Common.{◌≡◌, ℕ, ltb, ◌+◌, ◌-◌, ◌<◌, ◌≤◌, inl, inr, List, [], ◌∷◌, ◌++◌, length, get_or, set, refl, sym, ap, subst, ◌∙◌, arith, min, Bool, true, false, ◌⊎◌}
use Rattle.std.proofs.Math.Nat.{min-eq_left, min-le_left}
use Rattle.std.specs.Prelude.{slice_index, sum_by, MatchBool}
use Rattle.std.proofs.lemmas.Bool.{cases_eq, cases_lt, lt-ltb, le-ltb, false≢true}
use Rattle.std.proofs.lemmas.List.{length-set, get_or_append_left, get_or_push, length_push, get_or_read, get_or_default, get_or_past}
use Rattle.std.proofs.lemmas.List.Sums.{sum_by-set, sum_by-le}
use Rattle.shape_graphs.specs.Flows.{amount_at}
use Rattle.diff_flow.specs.declared.steps.ResidualArc.{ResidualArc}
use Rattle.diff_flow.specs.declared.tree.Reached.{Reached}
use Rattle.diff_flow.specs.inner.Steps.{step_at, AreStepsWithin, AreRows}
use Rattle.diff_flow.specs.inner.Numbers.{height}
use Rattle.diff_flow.specs.inner.Search.{no_entry, entry_at, step_of_entry, IsPassable, IsRoom, IsReached, IsTree, ArePlaced, IsBlank, Raises, Grows, IsEntered, NoneLacks, ReachesDeficit, Searches, IsFollowed, AreFollowedFrom, AreFollowed}
use Rattle.diff_flow.proofs.SetLemmas.{by_write}

-- an entry of a longer list, by cases
by_entry : (P : Reached → Type 0) (tree : List Reached) (entry : Reached) (j : ℕ) → j < length tree + 1 → (j ≡ length tree → P entry) →
    (j < length tree → P (entry_at tree j)) → P (entry_at (tree ++ entry ∷ []) j)
by_entry P tree entry j inside last front =
    elim (cases_lt j (length tree)) [
      | inl before ↦ subst P (sym (get_or_append_left tree (entry ∷ []) no_entry j before)) (front before)
      | inr back ↦ let here : j ≡ length tree = omega arith in
          subst P (sym (get_or_push tree entry no_entry j (sym here))) (last here)
    ]

-- an entry was reached in every tree that has it and its parent's
reached_kept : (steps : List ResidualArc) (amounts numbers : List ℕ) (tree' : List Reached) (j : ℕ) (entry above : Reached) →
    entry_at tree' j ≡ entry → entry_at tree' entry.parent ≡ above → entry.parent < j → entry.step < length steps →
    (step_at steps entry.step).from ≡ above.node → (step_at steps entry.step).to ≡ entry.node →
    IsPassable amounts numbers (step_at steps entry.step) →
    IsRoom (step_at steps entry.step) (amount_at amounts (step_at steps entry.step).arc) above.room entry.room →
    IsReached steps amounts numbers tree' j
reached_kept steps amounts numbers tree' j entry above here up earlier inside from to passable room =
    let over : entry_at tree' (entry_at tree' j).parent ≡ above = ap (λ (e : Reached). entry_at tree' e.parent) here ∙ up in
    record {
      earlier = subst (λ (e : Reached). e.parent < j) (sym here) earlier;
      inside = subst (λ (e : Reached). e.step < length steps) (sym here) inside;
      from = ap (λ (e : Reached). (step_at steps e.step).from) here ∙ from ∙ sym (ap (λ (e : Reached). e.node) over);
      to = ap (λ (e : Reached). (step_at steps e.step).to) here ∙ to ∙ sym (ap (λ (e : Reached). e.node) here);
      passable = subst (λ (e : Reached). IsPassable amounts numbers (step_at steps e.step)) (sym here) passable;
      room = subst (λ (a : Reached). IsRoom (step_of_entry steps tree' j) (amount_at amounts (step_of_entry steps tree' j).arc) a.room (entry_at tree' j).room) (sym over)
          (subst (λ (e : Reached). IsRoom (step_at steps e.step) (amount_at amounts (step_at steps e.step).arc) above.room e.room) (sym here) room);
    }

min_some : (n : ℕ) → min 1 (n + 1) ≡ 1
min_some n = min-eq_left (omega arith)

min_none : (x : ℕ) → x ≡ 0 → min 1 x ≡ 0
min_none x none = ap (λ y. min 1 y) none

-- one entry more
module _ (nodes arcs reach : ℕ) (steps : List ResidualArc) (amounts numbers : List ℕ) (k : ℕ) (tree : List Reached) (places : List ℕ) (entry : Reached)
    (all : AreStepsWithin nodes arcs reach steps) (inside : k < length steps) (passable : IsPassable amounts numbers (step_at steps k))
    (from : 0 < slice_index places (step_at steps k).from) (fresh : slice_index places (step_at steps k).to ≡ 0)
    (is : IsTree nodes steps amounts numbers tree places) (node : entry.node ≡ (step_at steps k).to)
    (parent : entry.parent + 1 ≡ slice_index places (step_at steps k).from) (step : entry.step ≡ k)
    (room : IsRoom (step_at steps k) (amount_at amounts (step_at steps k).arc)
    (entry_at tree (slice_index places (step_at steps k).from - 1)).room entry.room) where
  to_in : (step_at steps k).to < length places
  to_in = omega (arith, (all k inside).to, is.one_for_each)

  above_in : slice_index places (step_at steps k).from - 1 < length tree
  above_in = omega (arith, is.within (step_at steps k).from (all k inside).from, from)

  parent_is : slice_index places (step_at steps k).from - 1 ≡ entry.parent
  parent_is = omega (arith, parent)

  old_at : (j : ℕ) → j < length tree → entry_at (tree ++ entry ∷ []) j ≡ entry_at tree j
  old_at j front = get_or_append_left tree (entry ∷ []) no_entry j front

  last_at : entry_at (tree ++ entry ∷ []) (length tree) ≡ entry
  last_at = get_or_push tree entry no_entry (length tree) refl

  bound : (j : ℕ) → j < length (tree ++ entry ∷ []) → j < length tree + 1
  bound j j_in = omega (arith, j_in, length_push tree entry)

  elsewhere : (j : ℕ) → j < length tree → (entry_at tree j).node ≡ (step_at steps k).to → ⊥
  elsewhere j front same =
      let place = is.at_place j front in
      let e : slice_index places (entry_at tree j).node ≡ slice_index places (step_at steps k).to = ap (slice_index places) same in
      omega (arith, place, e, fresh)

  from_is : (step_at steps k).from ≡ (entry_at tree (slice_index places (step_at steps k).from - 1)).node
  from_is = sym (is.placed (step_at steps k).from (all k inside).from from)

  last_reached : IsReached steps amounts numbers (tree ++ entry ∷ []) (length tree)
  last_reached =
      let up : entry_at (tree ++ entry ∷ []) entry.parent ≡ entry_at tree (slice_index places (step_at steps k).from - 1) =
      ap (entry_at (tree ++ entry ∷ [])) (sym parent_is) ∙ old_at _ above_in in
      reached_kept steps amounts numbers (tree ++ entry ∷ []) (length tree) entry
      (entry_at tree (slice_index places (step_at steps k).from - 1)) last_at up (omega (arith, above_in, parent_is))
      (omega (arith, step, inside)) (ap (λ i. (step_at steps i).from) step ∙ from_is) (ap (λ i. (step_at steps i).to) step ∙ sym node)
      (subst (λ i. IsPassable amounts numbers (step_at steps i)) (sym step) passable)
      (subst (λ i. IsRoom (step_at steps i) (amount_at amounts (step_at steps i).arc)
      (entry_at tree (slice_index places (step_at steps k).from - 1)).room entry.room) (sym step) room)

  first_reached : (j : ℕ) → 0 < j → j < length tree → IsReached steps amounts numbers (tree ++ entry ∷ []) j
  first_reached j some front =
      let r = is.each j some front in
      reached_kept steps amounts numbers (tree ++ entry ∷ []) j (entry_at tree j) (entry_at tree (entry_at tree j).parent)
      (old_at j front) (old_at _ (omega (arith, r.earlier, front))) r.earlier r.inside r.from r.to r.passable r.room

  pushed_tree : IsTree nodes steps amounts numbers (tree ++ entry ∷ []) (set places (step_at steps k).to (length tree + 1))
  pushed_tree = record {
    some = omega (arith, length_push tree entry);
    inside = λ j j_in. by_entry (λ e. e.node < nodes) tree entry j (bound j j_in) (λ _. omega (arith, node, (all k inside).to))
        (λ front. is.inside j front);
    rooms = λ j j_in. by_entry (λ e. 0 < e.room) tree entry j (bound j j_in)
        (λ _. room.some (is.rooms _ above_in) (λ level. passable.against level)) (λ front. is.rooms j front);
    most = λ j j_in.
        let first : (entry_at (tree ++ entry ∷ []) 0).room ≡ (entry_at tree 0).room = ap (λ (e : Reached). e.room) (old_at 0 is.some) in
        by_entry (λ e. e.room ≤ (entry_at (tree ++ entry ∷ []) 0).room) tree entry j (bound j j_in)
        (λ _. omega (arith, first, room.parent, is.most _ above_in)) (λ front. omega (arith, first, is.most j front));
    each = λ j some j_in. elim (cases_lt j (length tree)) [
      | inl front ↦ first_reached j some front
      | inr back ↦ let here : length tree ≡ j = omega (arith, bound j j_in) in
          subst (IsReached steps amounts numbers (tree ++ entry ∷ [])) here last_reached
    ];
    one_for_each = length-set places (step_at steps k).to (length tree + 1) ∙ is.one_for_each;
    at_place = λ j j_in. by_entry (λ e. slice_index (set places (step_at steps k).to (length tree + 1)) e.node ≡ j + 1) tree entry j (bound j j_in)
        (λ here. by_write (λ x. x ≡ j + 1) places (step_at steps k).to entry.node (length tree + 1) to_in (λ _. omega arith)
        (λ apart. absurd (apart node)))
        (λ front. by_write (λ x. x ≡ j + 1) places (step_at steps k).to (entry_at tree j).node (length tree + 1) to_in
        (λ same. absurd (elsewhere j front same)) (λ _. is.at_place j front));
    within = λ v v_in. by_write (λ x. x ≤ length (tree ++ entry ∷ [])) places (step_at steps k).to v (length tree + 1) to_in
        (λ _. omega (arith, length_push tree entry)) (λ _. omega (arith, is.within v v_in, length_push tree entry));
    placed = λ v v_in. by_write (λ x. 0 < x → (entry_at (tree ++ entry ∷ []) (x - 1)).node ≡ v) places (step_at steps k).to v (length tree + 1) to_in
        (λ same some. let back : length tree + 1 - 1 ≡ length tree = omega arith in
        ap (λ i. (entry_at (tree ++ entry ∷ []) i).node) back ∙ ap (λ (e : Reached). e.node) last_at ∙ node ∙ sym same)
        (λ apart some. ap (λ (e : Reached). e.node) (old_at (slice_index places v - 1) (omega (arith, some, is.within v v_in))) ∙ is.placed v v_in some);
    count = let one_more = sum_by-set (λ x. min 1 x) places (step_at steps k).to (length tree + 1) 0 to_in in
        omega (arith, one_more, min_some (length tree), min_none _ fresh, is.count, length_push tree entry);
  }

pub tree_more : (nodes arcs reach : ℕ) (steps : List ResidualArc) (amounts numbers : List ℕ) (k : ℕ) (tree tree' : List Reached) (places places' : List ℕ)
    (entry : Reached) → AreStepsWithin nodes arcs reach steps → k < length steps → IsPassable amounts numbers (step_at steps k) →
    0 < slice_index places (step_at steps k).from → slice_index places (step_at steps k).to ≡ 0 →
    IsTree nodes steps amounts numbers tree places → IsEntered steps amounts k tree places tree' places' entry →
    IsTree nodes steps amounts numbers tree' places'
tree_more nodes arcs reach steps amounts numbers k tree tree' places places' entry all inside passable from fresh is enters =
    subst (λ t. IsTree nodes steps amounts numbers t places') (sym enters.grown)
    (subst (λ p. IsTree nodes steps amounts numbers (tree ++ entry ∷ []) p) (sym enters.written)
    (pushed_tree nodes arcs reach steps amounts numbers k tree places entry all inside passable from fresh is enters.node enters.parent
    enters.step enters.room))

-- one entry more
pub entered_longer : (steps : List ResidualArc) (amounts : List ℕ) (k : ℕ) (tree tree' : List Reached) (places places' : List ℕ) (entry : Reached) →
    IsEntered steps amounts k tree places tree' places' entry → length tree' ≡ length tree + 1
entered_longer steps amounts k tree tree' places places' entry enters = ap length enters.grown ∙ length_push tree entry

-- the last entry
pub entered_last : (steps : List ResidualArc) (amounts : List ℕ) (k : ℕ) (tree tree' : List Reached) (places places' : List ℕ) (entry : Reached) →
    IsEntered steps amounts k tree places tree' places' entry → entry_at tree' (length tree' - 1) ≡ entry
entered_last steps amounts k tree tree' places places' entry enters =
    let longer = entered_longer steps amounts k tree tree' places places' entry enters in
    let back : length tree' - 1 ≡ length tree = omega (arith, longer) in
    ap (entry_at tree') back ∙ ap (λ t. entry_at t (length tree)) enters.grown ∙ get_or_push tree entry no_entry (length tree) refl

-- the new node lacks
pub entered_found : (steps : List ResidualArc) (amounts want : List ℕ) (k : ℕ) (tree tree' : List Reached) (places places' : List ℕ) (entry : Reached) →
    IsEntered steps amounts k tree places tree' places' entry → 0 < slice_index want (step_at steps k).to → ReachesDeficit want tree tree'
entered_found steps amounts want k tree tree' places places' entry enters lacks =
    let node_is : (entry_at tree' (length tree' - 1)).node ≡ (step_at steps k).to =
    ap (λ (e : Reached). e.node) (entered_last steps amounts k tree tree' places places' entry enters) ∙ enters.node in
    record {
      more = omega (arith, entered_longer steps amounts k tree tree' places places' entry enters);
      lacks = subst (λ v. 0 < slice_index want v) (sym node_is) lacks;
    }

-- the new node does not lack
pub entered_none : (steps : List ResidualArc) (amounts want : List ℕ) (k : ℕ) (tree tree' : List Reached) (places places' : List ℕ) (entry : Reached) →
    (step_at steps k).to < length places → IsEntered steps amounts k tree places tree' places' entry → NoneLacks want places →
    slice_index want (step_at steps k).to ≡ 0 → NoneLacks want places'
entered_none steps amounts want k tree tree' places places' entry to_in enters none level =
    subst (NoneLacks want) (sym enters.written)
    (λ v. by_write (λ x. 0 < x → slice_index want v ≡ 0) places (step_at steps k).to v (length tree + 1) to_in
    (λ same _. subst (λ w. slice_index want w ≡ 0) (sym same) level) (λ _ some. none v some))

-- the entries are at most the nodes
pub tree_most : (nodes : ℕ) (steps : List ResidualArc) (amounts numbers : List ℕ) (tree : List Reached) (places : List ℕ) →
    IsTree nodes steps amounts numbers tree places → length tree ≤ nodes
tree_most nodes steps amounts numbers tree places is =
    omega (arith, sum_by-le (λ x. min 1 x) 1 places (λ j d inside. min-le_left 1 (get_or places j d)), is.count, is.one_for_each)

-- fewer than the nodes where one is not reached
pub tree_few : (nodes : ℕ) (steps : List ResidualArc) (amounts numbers : List ℕ) (tree : List Reached) (places : List ℕ) (v : ℕ) →
    IsTree nodes steps amounts numbers tree places → v < nodes → slice_index places v ≡ 0 → length tree < nodes
tree_few nodes steps amounts numbers tree places v is v_in fresh =
    let most = sum_by-le (λ x. min 1 x) 1 (set places v 1) (λ j d inside. min-le_left 1 (get_or (set places v 1) j d)) in
    let one_more = sum_by-set (λ x. min 1 x) places v 1 0 (omega (arith, v_in, is.one_for_each)) in
    omega (arith, most, one_more, min_some 0, min_none _ fresh, is.count, is.one_for_each, length-set places v 1)

-- what was reached stays so
pub grows_trans : (tree tree' tree'' : List Reached) (places places' places'' : List ℕ) → Grows tree places tree' places' →
    Grows tree' places' tree'' places'' → Grows tree places tree'' places''
grows_trans tree tree' tree'' places places' places'' first then = record {
  longer = omega (arith, first.longer, then.longer);
  kept = λ j front. then.kept j (omega (arith, front, first.longer)) ∙ first.kept j front;
  placed = λ v some. then.placed v (first.placed v some);
}

-- passed steps stay passed
pub passed_from_grows : (steps : List ResidualArc) (amounts numbers : List ℕ) (tree tree' : List Reached) (places places' : List ℕ) (node entry : ℕ) →
    Grows tree places tree' places' → AreFollowedFrom steps amounts numbers places node entry → AreFollowedFrom steps amounts numbers places' node entry
passed_from_grows steps amounts numbers tree tree' places places' node entry grows passed k inside behind from passable =
    grows.placed _ (passed k inside behind from passable)

pub passed_grows : (steps : List ResidualArc) (amounts numbers : List ℕ) (tree tree' : List Reached) (places places' : List ℕ) (count : ℕ) →
    Grows tree places tree' places' → count ≤ length tree → AreFollowed steps amounts numbers tree places count →
    AreFollowed steps amounts numbers tree' places' count
passed_grows steps amounts numbers tree tree' places places' count grows most passed j inside =
    subst (λ (e : Reached). AreFollowedFrom steps amounts numbers places' e.node 0) (sym (grows.kept j (omega (arith, inside, most))))
    (passed_from_grows steps amounts numbers tree tree' places places' (entry_at tree j).node 0 grows (passed j inside))

-- the steps of one entry more are passed
pub passed_more : (steps : List ResidualArc) (amounts numbers : List ℕ) (tree tree' : List Reached) (places places' : List ℕ) (at : ℕ) →
    Grows tree places tree' places' → at < length tree → AreFollowed steps amounts numbers tree places at →
    AreFollowedFrom steps amounts numbers places' (entry_at tree at).node 0 → AreFollowed steps amounts numbers tree' places' (at + 1)
passed_more steps amounts numbers tree tree' places places' at grows inside passed here j j_in =
    elim (cases_lt j at) [
      | inl before ↦ passed_grows steps amounts numbers tree tree' places places' at grows (omega arith) passed j before
      | inr behind ↦
          let same : at ≡ j = omega arith in
          subst (λ i. AreFollowedFrom steps amounts numbers places' (entry_at tree' i).node 0) same
          (subst (λ (e : Reached). AreFollowedFrom steps amounts numbers places' e.node 0) (sym (grows.kept at inside)) here)
    ]

-- the next step of the node
pub passed_next : (nodes : ℕ) (steps : List ResidualArc) (amounts numbers places last before : List ℕ) (node k : ℕ) →
    AreRows nodes (length steps) steps last before → k < length steps → (step_at steps k).from ≡ node →
    IsFollowed steps amounts numbers places k → AreFollowedFrom steps amounts numbers places node (k + 1) →
    AreFollowedFrom steps amounts numbers places node (slice_index before k)
passed_next nodes steps amounts numbers places last before node k rows inside is_from here passed j j_in behind from =
    elim (cases_lt k j) [
      | inl above ↦ passed j j_in (omega (arith, above)) from
      | inr below ↦ elim (cases_eq k j) [
        | inl same ↦ subst (IsFollowed steps amounts numbers places) same here
        | inr apart ↦ absurd (let less : j < k = omega (arith, apart, below) in
            omega (arith, rows.before_all j k less inside (from ∙ sym is_from), behind))
      ]
    ]

-- the fact of the answer that did not come
pub by_false : (b : Bool) (P Q : Type 0) → b ≡ false → MatchBool b P Q → Q
by_false true P Q is fact = absurd (false≢true (sym is))
by_false false P Q is fact = fact

-- whether the new node lacks tells what the search found
pub searches_entered : (steps : List ResidualArc) (amounts want : List ℕ) (k : ℕ) (step : ResidualArc) (tree tree' : List Reached) (places places' : List ℕ)
    (entry : Reached) → step ≡ step_at steps k → step.to < length places → IsEntered steps amounts k tree places tree' places' entry →
    NoneLacks want places → Searches want tree tree' places' (ltb 0 (slice_index want step.to))
searches_entered steps amounts want k step tree tree' places places' entry is to_in enters none =
    subst (λ (s : ResidualArc). Searches want tree tree' places' (ltb 0 (slice_index want s.to))) (sym is)
    (elim (cases_lt 0 (slice_index want (step_at steps k).to)) [
      | inl lacks ↦ rw (lt-ltb 0 (slice_index want (step_at steps k).to) lacks)
          (entered_found steps amounts want k tree tree' places places' entry enters lacks)
      | inr level ↦ rw (le-ltb 0 (slice_index want (step_at steps k).to) level)
          (entered_none steps amounts want k tree tree' places places' entry
          (subst (λ (s : ResidualArc). s.to < length places) is to_in) enters none (omega (arith, level)))
    ])

-- the end of the step is not reached
pub fresh_end : (steps : List ResidualArc) (k : ℕ) (step : ResidualArc) (places : List ℕ) (read : ℕ) → step ≡ step_at steps k → step.to < length places →
    read ≡ get_or places step.to read → read ≤ 0 → slice_index places (step_at steps k).to ≡ 0
fresh_end steps k step places read is to_in reads none =
    let at : read ≡ slice_index places step.to = get_or_read places step.to read to_in reads 0 in
    subst (λ (s : ResidualArc). slice_index places s.to ≡ 0) is (omega (arith, at, none))

-- the tree of one node
module _ (nodes : ℕ) (steps : List ResidualArc) (amounts numbers : List ℕ) (start most : ℕ) (entry : Reached) (tree : List Reached) (places : List ℕ)
    (inside : start < nodes) (some : 0 < most) (node : entry.node ≡ start) (room : entry.room ≡ most) (blank : IsBlank nodes tree places) where
  start_in : start < length places
  start_in = omega (arith, inside, blank.one_for_each)

  only : (j : ℕ) → j < length (entry ∷ []) → 0 ≡ j
  only j j_in = omega (arith, j_in)

  no_count : sum_by (λ x. min 1 x) places ≡ 0
  no_count =
      let most_sum = sum_by-le (λ x. min 1 x) 0 places (λ j d j_in.
      subst (λ x. min 1 x ≤ 0) (get_or_default places j 0 d j_in) (omega (arith, min_none _ (blank.zeros j)))) in
      omega (arith, most_sum)

  planted_one : IsTree nodes steps amounts numbers (entry ∷ []) (set places start 1)
  planted_one = record {
    some = omega arith;
    inside = λ j j_in. subst (λ i. (entry_at (entry ∷ []) i).node < nodes) (only j j_in) (omega (arith, node, inside));
    rooms = λ j j_in. subst (λ i. 0 < (entry_at (entry ∷ []) i).room) (only j j_in) (omega (arith, room, some));
    most = λ j j_in. subst (λ i. (entry_at (entry ∷ []) i).room ≤ (entry_at (entry ∷ []) 0).room) (only j j_in) (omega arith);
    each = λ j behind j_in. absurd (omega (arith, behind, only j j_in));
    one_for_each = length-set places start 1 ∙ blank.one_for_each;
    at_place = λ j j_in. subst (λ i. slice_index (set places start 1) (entry_at (entry ∷ []) i).node ≡ i + 1) (only j j_in)
        (by_write (λ x. x ≡ 0 + 1) places start entry.node 1 start_in (λ _. refl) (λ apart. absurd (apart node)));
    within = λ v v_in. by_write (λ x. x ≤ length (entry ∷ [])) places start v 1 start_in (λ _. omega arith)
        (λ _. omega (arith, blank.zeros v));
    placed = λ v v_in. by_write (λ x. 0 < x → (entry_at (entry ∷ []) (x - 1)).node ≡ v) places start v 1 start_in
        (λ same _. node ∙ sym same) (λ _ more. absurd (omega (arith, more, blank.zeros v)));
    count = let one = sum_by-set (λ x. min 1 x) places start 1 0 start_in in
        omega (arith, one, no_count, min_some 0, min_none _ (blank.zeros start));
  }

  pub planted : IsTree nodes steps amounts numbers (tree ++ entry ∷ []) (set places start 1)
  planted = subst (λ (front : List Reached). IsTree nodes steps amounts numbers (front ++ entry ∷ []) (set places start 1)) (sym blank.none) planted_one

  pub planted_places : (v : ℕ) → 0 < slice_index (set places start 1) v → v ≡ start
  planted_places v = by_write (λ x. 0 < x → v ≡ start) places start v 1 start_in (λ same _. same)
      (λ _ more. absurd (omega (arith, more, blank.zeros v)))

-- the places of a tree
pub tree_placed : (nodes : ℕ) (steps : List ResidualArc) (amounts numbers : List ℕ) (tree : List Reached) (places : List ℕ) →
    IsTree nodes steps amounts numbers tree places → ArePlaced nodes tree places
tree_placed nodes steps amounts numbers tree places is = record {
  one_for_each = is.one_for_each;
  inside = is.inside;
  at_place = is.at_place;
  within = is.within;
  placed = is.placed;
}

-- the first so many entries are taken out of the places
pub record AreCleared (nodes : ℕ) (tree : List Reached) (places places' : List ℕ) (at : ℕ) : Type 0 where
  pub one_for_each : length places' ≡ nodes
  pub gone : (j : ℕ) → j < at → slice_index places' (entry_at tree j).node ≡ 0
  pub rest : (v : ℕ) → (slice_index places' v ≡ 0) ⊎ (slice_index places' v ≡ slice_index places v)

pub cleared_first : (nodes : ℕ) (tree : List Reached) (places : List ℕ) → ArePlaced nodes tree places → AreCleared nodes tree places places 0
cleared_first nodes tree places placed = record {
  one_for_each = placed.one_for_each;
  gone = λ j before. absurd (omega arith);
  rest = λ v. inr refl;
}

pub cleared_more : (nodes : ℕ) (tree : List Reached) (places places' : List ℕ) (at node : ℕ) → ArePlaced nodes tree places → at < length tree →
    node ≡ (entry_at tree at).node → AreCleared nodes tree places places' at → AreCleared nodes tree places (set places' node 0) (at + 1)
cleared_more nodes tree places places' at node placed inside is cleared =
    let node_in : node < length places' = omega (arith, is, placed.inside at inside, cleared.one_for_each) in
    record {
      one_for_each = length-set places' node 0 ∙ cleared.one_for_each;
      gone = λ j before. by_write (λ x. x ≡ 0) places' node (entry_at tree j).node 0 node_in (λ _. refl)
          (λ apart. elim (cases_lt j at) [
            | inl front ↦ cleared.gone j front
            | inr back ↦ let here : j ≡ at = omega arith in absurd (apart (ap (λ i. (entry_at tree i).node) here ∙ sym is))
          ]);
      rest = λ v. by_write (λ x. (x ≡ 0) ⊎ (x ≡ slice_index places v)) places' node v 0 node_in (λ _. inl refl) (λ _. cleared.rest v);
    }

pub cleared_all : (nodes : ℕ) (tree : List Reached) (places places' : List ℕ) (at : ℕ) → ArePlaced nodes tree places → at ≡ length tree →
    AreCleared nodes tree places places' at → (v : ℕ) → slice_index places' v ≡ 0
cleared_all nodes tree places places' at placed all cleared v =
    elim (cases_lt v nodes) [
      | inl inside ↦ elim (cleared.rest v) [
        | inl none ↦ none
        | inr same ↦ elim (cases_lt 0 (slice_index places v)) [
          | inl some ↦
              let is = placed.placed v inside some in
              subst (λ w. slice_index places' w ≡ 0) is
              (cleared.gone (slice_index places v - 1) (omega (arith, some, all, placed.within v inside)))
          | inr none ↦ omega (arith, same, none)
        ]
      ]
      | inr beyond ↦ get_or_past places' v 0 (omega (arith, beyond, cleared.one_for_each))
    ]

-- the nodes of the first so many entries are raised
pub record AreRaised (places numbers numbers' : List ℕ) (by at : ℕ) : Type 0 where
  pub one_for_each : length numbers' ≡ length numbers
  pub raised : (v : ℕ) → v < length numbers → 0 < slice_index places v → slice_index places v ≤ at → height numbers' v ≡ height numbers v + by
  pub kept : (v : ℕ) → v < length numbers → slice_index places v ≡ 0 → height numbers' v ≡ height numbers v
  pub later : (v : ℕ) → v < length numbers → at < slice_index places v → height numbers' v ≡ height numbers v

pub raised_first : (places numbers : List ℕ) (by : ℕ) → AreRaised places numbers numbers by 0
raised_first places numbers by = record {
  one_for_each = refl;
  raised = λ v inside some most. absurd (omega arith);
  kept = λ v inside none. refl;
  later = λ v inside more. refl;
}

pub raised_more : (tree : List Reached) (places numbers numbers' : List ℕ) (by at node : ℕ) → ArePlaced (length numbers) tree places →
    at < length tree → node ≡ (entry_at tree at).node → AreRaised places numbers numbers' by at →
    AreRaised places numbers (set numbers' node (get_or numbers' node 0 + by)) by (at + 1)
raised_more tree places numbers numbers' by at node placed inside is raised =
    let node_in : node < length numbers' = omega (arith, is, placed.inside at inside, raised.one_for_each) in
    let place : slice_index places node ≡ at + 1 = ap (slice_index places) is ∙ placed.at_place at inside in
    let up = get_or numbers' node 0 + by in
    record {
      one_for_each = length-set numbers' node up ∙ raised.one_for_each;
      raised = λ v v_in some most. by_write (λ x. x ≡ height numbers v + by) numbers' node v up node_in
          (λ same. let old = raised.later node (omega (arith, node_in, raised.one_for_each)) (omega (arith, place)) in
          let there : height numbers v ≡ height numbers node = ap (height numbers) same in
          omega (arith, old, there))
          (λ apart. raised.raised v v_in some (elim (cases_lt at (slice_index places v)) [
            | inl last ↦
                let back : slice_index places v - 1 ≡ at = omega (arith, last, most) in
                absurd (apart (sym (placed.placed v v_in some) ∙ ap (λ j. (entry_at tree j).node) back ∙ sym is))
            | inr before ↦ before
          ]));
      kept = λ v v_in none. by_write (λ x. x ≡ height numbers v) numbers' node v up node_in
          (λ same. let there : slice_index places v ≡ slice_index places node = ap (slice_index places) same in absurd (omega (arith, none, there, place)))
          (λ _. raised.kept v v_in none);
      later = λ v v_in more. by_write (λ x. x ≡ height numbers v) numbers' node v up node_in
          (λ same. let there : slice_index places v ≡ slice_index places node = ap (slice_index places) same in absurd (omega (arith, more, there, place)))
          (λ _. raised.later v v_in (omega (arith, more)));
    }

pub raised_all : (tree : List Reached) (places numbers numbers' : List ℕ) (by at : ℕ) → ArePlaced (length numbers) tree places →
    at ≡ length tree → AreRaised places numbers numbers' by at → Raises places numbers numbers' by
raised_all tree places numbers numbers' by at placed all raised = record {
  one_for_each = raised.one_for_each;
  raised = λ v v_in some. raised.raised v v_in some (omega (arith, all, placed.within v v_in));
  kept = raised.kept;
}
