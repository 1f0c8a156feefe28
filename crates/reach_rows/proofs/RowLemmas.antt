-- What rows say of paths, as rows take others.
use Rattle.std.proofs.Common.{◌≡◌, ℕ, zero, suc, ◌+◌, ◌-◌, ◌*◌, ◌<◌, ◌≤◌, List, [], ◌∷◌, ◌++◌, length, slice_index, drop, map, ◌⊎◌, inl, inr, refl, sym, ap, ◌∙◌, subst, arith, length-append}
use Rattle.std.proofs.lemmas.Bool.{cases_eq, cases_lt}
use Rattle.std.proofs.lemmas.List.{get_or_append_left, get_or_push, get_or-map, length-map, drop_more, length-drop, get_or-drop}
use Rattle.shape_graphs.specs.declared.graph.Arc.{Arc}
use Rattle.shape_graphs.specs.Arcs.{arc_at, EndsAreNodes}
use Rattle.shape_graphs.specs.Orders.{IsArcOrder}
use Rattle.shape_graphs.specs.Paths.{HasPath, IsAtOrReached, HaveArcsIn, step_arc}
use Rattle.shape_graphs.specs.Paths.HasPath.{along_arc, arc_and_path}
use Rattle.shape_graphs.proofs.Laws.{joined_paths, same_paths, path_by_first, path_through_first}
use Rattle.reach_rows.specs.Bits.{bit_in, IsSet, IsTaken, IsAdded, AreBitsOf}

-- the row is taken: by what it was before
pub taken_is_added : (words a b x : ℕ) (old new : List ℕ) → IsTaken words x b old new → (x ≡ a) ⊎ IsSet words old x a →
    (c : ℕ) → c < 64 * words → IsAdded words old a b x c (IsSet words new x c)
taken_is_added words a b x old new taken joined c within = (forth, back)
  where
    from_taken : IsSet words old x c ⊎ (IsSet words old b c ⊎ (c ≡ b)) →
        IsSet words old x c ⊎ (((x ≡ a) ⊎ IsSet words old x a) × ((c ≡ b) ⊎ IsSet words old b c))
    from_taken (inl before) = inl before
    from_taken (inr (inl other)) = inr (joined, inr other)
    from_taken (inr (inr here)) = inr (joined, inl here)

    to_taken : IsSet words old x c ⊎ (((x ≡ a) ⊎ IsSet words old x a) × ((c ≡ b) ⊎ IsSet words old b c)) →
        IsSet words old x c ⊎ (IsSet words old b c ⊎ (c ≡ b))
    to_taken (inl before) = inl before
    to_taken (inr through) = by_end through.1
      where
        by_end : (c ≡ b) ⊎ IsSet words old b c → IsSet words old x c ⊎ (IsSet words old b c ⊎ (c ≡ b))
        by_end (inl here) = inr (inr here)
        by_end (inr other) = inr (inl other)

    forth : IsSet words new x c → IsSet words old x c ⊎ (((x ≡ a) ⊎ IsSet words old x a) × ((c ≡ b) ⊎ IsSet words old b c))
    forth set = from_taken ((taken.take c within).0 set)

    back : IsSet words old x c ⊎ (((x ≡ a) ⊎ IsSet words old x a) × ((c ≡ b) ⊎ IsSet words old b c)) → IsSet words new x c
    back added = (taken.take c within).1 (to_taken added)

-- a row that is neither that of a nor reaches it stays
pub apart_is_added : (words a b x : ℕ) (old : List ℕ) → ((x ≡ a) ⊎ IsSet words old x a → ⊥) → (c : ℕ) → IsAdded words old a b x c (IsSet words old x c)
apart_is_added words a b x old apart c = (λ set. inl set, back)
  where
    back : IsSet words old x c ⊎ (((x ≡ a) ⊎ IsSet words old x a) × ((c ≡ b) ⊎ IsSet words old b c)) → IsSet words old x c
    back (inl set) = set
    back (inr through) = absurd (apart through.0)

-- Rows up to one are done, and the others are as before.
pub record AreDone (words nodes a b done : ℕ) (old now : List ℕ) : Type 0 where
  pub added : (x c : ℕ) → x < done → c < nodes → IsAdded words old a b x c (IsSet words now x c)
  pub stay : (x c : ℕ) → done ≤ x → c < 64 * words → bit_in words now x c ≡ bit_in words old x c

-- the next row is done too
module _ (words nodes a b x : ℕ) (old now new : List ℕ) (wide : nodes ≤ 64 * words) (begins : a < nodes) (ends : b < nodes)
    (done : AreDone words nodes a b x old now)
    (stay : (y c : ℕ) → (y ≡ x → ⊥) → c < 64 * words → bit_in words new y c ≡ bit_in words now y c)
    (taken : (c : ℕ) → c < 64 * words → IsAdded words now a b x c (IsSet words new x c)) where
  abbrev Right : ℕ → List ℕ → Type 0
  Right c bits = (c ≡ b) ⊎ IsSet words bits b c

  -- b and what is reached from it: the same before and now
  right_forth : (c : ℕ) → c < nodes → Right c now → Right c old
  right_forth c within (inl here) = inl here
  right_forth c within (inr set) = by_place (cases_lt b x)
    where
      by_added : IsSet words old b c ⊎ (((b ≡ a) ⊎ IsSet words old b a) × ((c ≡ b) ⊎ IsSet words old b c)) → Right c old
      by_added (inl before) = inr before
      by_added (inr through) = through.1

      by_place : (b < x) ⊎ (x ≤ b) → Right c old
      by_place (inl before) = by_added ((done.added b c before within).0 set)
      by_place (inr behind) = inr (sym (done.stay b c behind (omega arith)) ∙ set)

  right_back : (c : ℕ) → c < nodes → Right c old → Right c now
  right_back c within (inl here) = inl here
  right_back c within (inr set) = by_place (cases_lt b x)
    where
      by_place : (b < x) ⊎ (x ≤ b) → Right c now
      by_place (inl before) = inr ((done.added b c before within).1 (inl set))
      by_place (inr behind) = inr (done.stay b c behind (omega arith) ∙ set)

  -- row x is as before
  same_x : (c : ℕ) → c < nodes → bit_in words now x c ≡ bit_in words old x c
  same_x c within = done.stay x c (omega arith) (omega arith)

  left_forth : (x ≡ a) ⊎ IsSet words now x a → (x ≡ a) ⊎ IsSet words old x a
  left_forth (inl here) = inl here
  left_forth (inr set) = inr (sym (same_x a begins) ∙ set)

  left_back : (x ≡ a) ⊎ IsSet words old x a → (x ≡ a) ⊎ IsSet words now x a
  left_back (inl here) = inl here
  left_back (inr set) = inr (same_x a begins ∙ set)

  here_forth : (c : ℕ) → c < nodes → IsSet words now x c ⊎ (((x ≡ a) ⊎ IsSet words now x a) × Right c now) →
      IsSet words old x c ⊎ (((x ≡ a) ⊎ IsSet words old x a) × Right c old)
  here_forth c within (inl set) = inl (sym (same_x c within) ∙ set)
  here_forth c within (inr through) = inr (left_forth through.0, right_forth c within through.1)

  here_back : (c : ℕ) → c < nodes → IsSet words old x c ⊎ (((x ≡ a) ⊎ IsSet words old x a) × Right c old) →
      IsSet words now x c ⊎ (((x ≡ a) ⊎ IsSet words now x a) × Right c now)
  here_back c within (inl set) = inl (same_x c within ∙ set)
  here_back c within (inr through) = inr (left_back through.0, right_back c within through.1)

  here_added : (c : ℕ) → c < nodes → IsAdded words old a b x c (IsSet words new x c)
  here_added c within =
      let both = taken c (omega arith) in
      (λ set. here_forth c within (both.0 set), λ added. both.1 (here_back c within added))

  earlier_added : (y c : ℕ) → y < x → c < nodes → IsAdded words old a b y c (IsSet words new y c)
  earlier_added y c before within =
      let same : bit_in words new y c ≡ bit_in words now y c = stay y c (λ e. omega (arith, e, before)) (omega arith) in
      let both = done.added y c before within in
      (λ set. both.0 (sym same ∙ set), λ added. same ∙ both.1 added)

  pub one_more_done : (next : ℕ) → next ≡ suc x → AreDone words nodes a b next old new
  one_more_done next is_next = rw is_next (record {
    added = λ y c before within. by_place y c before within (cases_eq y x);
    stay = λ y c behind within. stay y c (λ e. omega (arith, e, behind)) within ∙ done.stay y c (omega arith) within;
  })
    where
      by_place : (y c : ℕ) → y < suc x → c < nodes → (y ≡ x) ⊎ (y ≡ x → ⊥) → IsAdded words old a b y c (IsSet words new y c)
      by_place y c before within (inl same) =
          let P : ℕ → Type 0 = λ z. IsAdded words old a b z c (IsSet words new z c) in
          subst P (sym same) (here_added c within)
      by_place y c before within (inr other) = earlier_added y c (omega (arith, other)) within

pub none_done : (words nodes a b : ℕ) (old : List ℕ) → AreDone words nodes a b 0 old old
none_done words nodes a b old = record {
  added = λ x c none within. absurd (omega arith);
  stay = λ x c behind within. refl;
}

-- with the arc the same paths lead as the rows then say
module _ (words nodes a b : ℕ) (old new : List ℕ) (arcs : List Arc) (arc : Arc) (is_from : arc.from ≡ a) (is_to : arc.to ≡ b)
    (begins : a < nodes) (ends : b < nodes) (bits : AreBitsOf words old nodes arcs)
    (added : (x c : ℕ) → x < nodes → c < nodes → IsAdded words old a b x c (IsSet words new x c)) where
  to_left : (x : ℕ) → x < nodes → (x ≡ a) ⊎ IsSet words old x a → IsAtOrReached arcs x arc.from
  to_left x within (inl here) = inl (here ∙ sym is_from)
  to_left x within (inr set) = inr (let P : ℕ → Type 0 = λ y. HasPath arcs x y in subst P (sym is_from) ((bits x a within begins).0 set))

  from_left : (x : ℕ) → x < nodes → IsAtOrReached arcs x arc.from → (x ≡ a) ⊎ IsSet words old x a
  from_left x within (inl here) = inl (here ∙ is_from)
  from_left x within (inr path) = inr ((bits x a within begins).1 (let P : ℕ → Type 0 = λ y. HasPath arcs x y in subst P is_from path))

  to_right : (c : ℕ) → c < nodes → (c ≡ b) ⊎ IsSet words old b c → IsAtOrReached arcs arc.to c
  to_right c within (inl here) = inl (is_to ∙ sym here)
  to_right c within (inr set) = inr (let P : ℕ → Type 0 = λ y. HasPath arcs y c in subst P (sym is_to) ((bits b c ends within).0 set))

  from_right : (c : ℕ) → c < nodes → IsAtOrReached arcs arc.to c → (c ≡ b) ⊎ IsSet words old b c
  from_right c within (inl here) = inl (sym here ∙ is_to)
  from_right c within (inr path) = inr ((bits b c ends within).1 (let P : ℕ → Type 0 = λ y. HasPath arcs y c in subst P is_to path))

  to_path : (x c : ℕ) → x < nodes → c < nodes → IsSet words old x c ⊎ (((x ≡ a) ⊎ IsSet words old x a) × ((c ≡ b) ⊎ IsSet words old b c)) →
      HasPath arcs x c ⊎ (IsAtOrReached arcs x arc.from × IsAtOrReached arcs arc.to c)
  to_path x c hx hc (inl set) = inl ((bits x c hx hc).0 set)
  to_path x c hx hc (inr through) = inr (to_left x hx through.0, to_right c hc through.1)

  from_path : (x c : ℕ) → x < nodes → c < nodes → HasPath arcs x c ⊎ (IsAtOrReached arcs x arc.from × IsAtOrReached arcs arc.to c) →
      IsSet words old x c ⊎ (((x ≡ a) ⊎ IsSet words old x a) × ((c ≡ b) ⊎ IsSet words old b c))
  from_path x c hx hc (inl path) = inl ((bits x c hx hc).1 path)
  from_path x c hx hc (inr through) = inr (from_left x hx through.0, from_right c hc through.1)

  pub bits_with_first : AreBitsOf words new nodes (arc ∷ arcs)
  bits_with_first x c hx hc = (
    λ set. path_through_first arc arcs x c (to_path x c hx hc ((added x c hx hc).0 set)),
    λ path. (added x c hx hc).1 (from_path x c hx hc (path_by_first arc arcs x c path)),
  )

-- where the end is reached already, an arc adds no path
pub no_more_paths : (words nodes a b : ℕ) (old : List ℕ) (arcs : List Arc) (arc : Arc) → arc.from ≡ a → arc.to ≡ b → a < nodes → b < nodes →
    AreBitsOf words old nodes arcs → IsSet words old a b → AreBitsOf words old nodes (arc ∷ arcs)
no_more_paths words nodes a b old arcs arc is_from is_to begins ends bits set x c hx hc =
    (λ is. path_through_first arc arcs x c (inl ((bits x c hx hc).0 is)), λ path. (bits x c hx hc).1 (by_first (path_by_first arc arcs x c path)))
  where
    over : HasPath arcs arc.from arc.to
    over =
        let P : ℕ → Type 0 = λ y. HasPath arcs y arc.to in
        let Q : ℕ → Type 0 = λ y. HasPath arcs a y in
        subst P (sym is_from) (subst Q (sym is_to) ((bits a b begins ends).0 set))

    to_end : IsAtOrReached arcs x arc.from → HasPath arcs x arc.to
    to_end (inl here) = let P : ℕ → Type 0 = λ y. HasPath arcs y arc.to in subst P (sym here) over
    to_end (inr path) = joined_paths arcs x arc.from arc.to path over

    on : IsAtOrReached arcs arc.to c → HasPath arcs x arc.to → HasPath arcs x c
    on (inl here) path = let P : ℕ → Type 0 = λ y. HasPath arcs x y in subst P here path
    on (inr rest) path = joined_paths arcs x arc.to c path rest

    by_first : HasPath arcs x c ⊎ (IsAtOrReached arcs x arc.from × IsAtOrReached arcs arc.to c) → HasPath arcs x c
    by_first (inl path) = path
    by_first (inr through) = on through.1 (to_end through.0)

-- rows of graphs whose arcs have the same ends
pub bits_of_same : (words nodes : ℕ) (bits : List ℕ) (arcs others : List Arc) → HaveArcsIn arcs others → HaveArcsIn others arcs →
    AreBitsOf words bits nodes arcs → AreBitsOf words bits nodes others
bits_of_same words nodes bits arcs others forth back are a b ha hb =
    (λ set. same_paths arcs others forth a b ((are a b ha hb).0 set), λ path. (are a b ha hb).1 (same_paths others arcs back a b path))

-- an arc before the others or after them
last_to_first : (arc : Arc) (arcs : List Arc) → HaveArcsIn (arcs ++ arc ∷ []) (arc ∷ arcs)
last_to_first arc arcs i within = by_place (cases_lt i (length arcs))
  where
    by_place : (i < length arcs) ⊎ (length arcs ≤ i) →
        (j : ℕ) × (j < length (arc ∷ arcs)) × ((arc_at (arc ∷ arcs) j).from ≡ (arc_at (arcs ++ arc ∷ []) i).from) × ((arc_at (arc ∷ arcs) j).to ≡ (arc_at (arcs ++ arc ∷ []) i).to)
    by_place (inl before) =
        let same : arc_at (arcs ++ arc ∷ []) i ≡ arc_at arcs i = get_or_append_left arcs (arc ∷ []) _ i before in
        (suc i, omega arith, sym (ap (λ (x : Arc). x.from) same), sym (ap (λ (x : Arc). x.to) same))
    by_place (inr behind) =
        let last : length arcs ≡ i = omega (arith, length-append arcs (arc ∷ [])) in
        let same : arc_at (arcs ++ arc ∷ []) i ≡ arc = get_or_push arcs arc _ i last in
        (0, omega arith, sym (ap (λ (x : Arc). x.from) same), sym (ap (λ (x : Arc). x.to) same))

first_to_last : (arc : Arc) (arcs : List Arc) → HaveArcsIn (arc ∷ arcs) (arcs ++ arc ∷ [])
first_to_last arc arcs zero within =
    let same : arc_at (arcs ++ arc ∷ []) (length arcs) ≡ arc = get_or_push arcs arc _ (length arcs) refl in
    (length arcs, omega (arith, length-append arcs (arc ∷ [])), ap (λ (x : Arc). x.from) same, ap (λ (x : Arc). x.to) same)
first_to_last arc arcs (suc i) within =
    let same : arc_at (arcs ++ arc ∷ []) i ≡ arc_at arcs i = get_or_append_left arcs (arc ∷ []) _ i (omega (arith, within)) in
    (i, omega (arith, within, length-append arcs (arc ∷ [])), ap (λ (x : Arc). x.from) same, ap (λ (x : Arc). x.to) same)

pub bits_with_last : (words nodes : ℕ) (bits : List ℕ) (arc : Arc) (arcs : List Arc) → AreBitsOf words bits nodes (arc ∷ arcs) → AreBitsOf words bits nodes (arcs ++ arc ∷ [])
bits_with_last words nodes bits arc arcs are = bits_of_same words nodes bits (arc ∷ arcs) (arcs ++ arc ∷ []) (first_to_last arc arcs) (last_to_first arc arcs) are

-- a path ends with an arc
path_ends : (arcs : List Arc) (a b : ℕ) → HasPath arcs a b → (i : ℕ) × (i < length arcs) × ((arc_at arcs i).to ≡ b)
path_ends arcs a b (along_arc i within) = (i, within, refl)
path_ends arcs a b (arc_and_path i end within rest) = path_ends arcs (arc_at arcs i).to end rest

-- where no arc ends at a node, no row but its own changes with an arc from there
pub only_own_row : (words nodes a b : ℕ) (old new : List ℕ) (arcs : List Arc) → nodes ≤ 64 * words → a < nodes → b < nodes → AreBitsOf words old nodes arcs →
    ((i : ℕ) → i < length arcs → (arc_at arcs i).to ≡ a → ⊥) → IsTaken words a b old new →
    (x c : ℕ) → x < nodes → c < nodes → IsAdded words old a b x c (IsSet words new x c)
only_own_row words nodes a b old new arcs wide begins ends bits none taken x c hx hc = by_row (cases_eq x a)
  where
    not_reached : (x ≡ a → ⊥) → (x ≡ a) ⊎ IsSet words old x a → ⊥
    not_reached other (inl same) = other same
    not_reached other (inr set) =
        let last = path_ends arcs x a ((bits x a hx begins).0 set) in
        none last.0 last.1 last.2

    by_row : (x ≡ a) ⊎ (x ≡ a → ⊥) → IsAdded words old a b x c (IsSet words new x c)
    by_row (inl same) =
        let P : ℕ → Type 0 = λ y. IsAdded words old a b y c (IsSet words new y c) in
        subst P (sym same) (taken_is_added words a b a old new taken (inl refl) c (omega arith))
    by_row (inr other) =
        let stays : bit_in words new x c ≡ bit_in words old x c = taken.stay x c other (omega arith) in
        let both = apart_is_added words a b x old (not_reached other) c in
        (λ set. both.0 (sym stays ∙ set), λ added. stays ∙ both.1 added)

-- the arcs of a list of numbers
abbrev pub arcs_at : List Arc → List ℕ → List Arc
arcs_at arcs order = map (arc_at arcs) order

arcs_at_place : (arcs : List Arc) (order : List ℕ) (i : ℕ) → i < length order → arc_at (arcs_at arcs order) i ≡ arc_at arcs (slice_index order i)
arcs_at_place arcs order i within = get_or-map (arc_at arcs) order i 0 _ within

-- the arc before those that were taken
pub in_order_more : (words nodes k : ℕ) (old new : List ℕ) (arcs : List Arc) (order : List ℕ) → nodes ≤ 64 * words → EndsAreNodes nodes arcs →
    IsArcOrder arcs order → 0 < k → k ≤ length order → AreBitsOf words old nodes (arcs_at arcs (drop k order)) →
    IsTaken words (arc_at arcs (slice_index order (k - 1))).from (arc_at arcs (slice_index order (k - 1))).to old new →
    AreBitsOf words new nodes (arcs_at arcs (drop (k - 1) order))
in_order_more words nodes k old new arcs order wide ends is some within bits taken =
    subst (λ (l : List ℕ). AreBitsOf words new nodes (arcs_at arcs l)) (sym more)
    (bits_with_first words nodes arc.from arc.to old new (arcs_at arcs (drop k order)) arc refl refl both.0 both.1 bits
    (only_own_row words nodes arc.from arc.to old new (arcs_at arcs (drop k order)) wide both.0 both.1 bits none taken))
  where
    arc : Arc
    arc = arc_at arcs (slice_index order (k - 1))

    more : drop (k - 1) order ≡ slice_index order (k - 1) ∷ drop k order
    more =
        let next : (k - 1) + 1 ≡ k = omega arith in
        drop_more order (k - 1) 0 (omega arith) ∙ ap (λ (n : ℕ). slice_index order (k - 1) ∷ drop n order) next

    both : (arc.from < nodes) × (arc.to < nodes)
    both = ends (slice_index order (k - 1)) (is.in_graph (k - 1) (omega arith))

    none : (i : ℕ) → i < length (arcs_at arcs (drop k order)) → (arc_at (arcs_at arcs (drop k order)) i).to ≡ arc.from → ⊥
    none i inside same =
        let in_rest : i < length (drop k order) = omega (arith, inside, length-map (drop k order) (arc_at arcs)) in
        let place : k + i < length order = omega (arith, in_rest, length-drop k order) in
        let here : arc_at (arcs_at arcs (drop k order)) i ≡ step_arc arcs order (k + i) =
        arcs_at_place arcs (drop k order) i in_rest ∙ ap (arc_at arcs) (get_or-drop k order i 0) in
        let before : k + i < k - 1 = is.ends_before (k - 1) (k + i) (omega arith) place (sym (ap (λ (x : Arc). x.to) here) ∙ same) in
        omega (arith, before)

-- all arcs in order are all arcs
order_to_arcs : (arcs : List Arc) (order : List ℕ) → IsArcOrder arcs order → HaveArcsIn (arcs_at arcs order) arcs
order_to_arcs arcs order is i within =
    let inside : i < length order = omega (arith, within, length-map order (arc_at arcs)) in
    let here = arcs_at_place arcs order i inside in
    (slice_index order i, is.in_graph i inside, sym (ap (λ (x : Arc). x.from) here), sym (ap (λ (x : Arc). x.to) here))

arcs_to_order : (arcs : List Arc) (order : List ℕ) → IsArcOrder arcs order → HaveArcsIn arcs (arcs_at arcs order)
arcs_to_order arcs order is i within =
    let found = is.has_each i within in
    let here : arc_at (arcs_at arcs order) found.0 ≡ arc_at arcs i = arcs_at_place arcs order found.0 found.1 ∙ ap (arc_at arcs) found.2 in
    (found.0, omega (arith, found.1, length-map order (arc_at arcs)), ap (λ (x : Arc). x.from) here, ap (λ (x : Arc). x.to) here)

pub bits_of_order : (words nodes k : ℕ) (bits : List ℕ) (arcs : List Arc) (order : List ℕ) → IsArcOrder arcs order → k ≡ 0 →
    AreBitsOf words bits nodes (arcs_at arcs (drop k order)) → AreBitsOf words bits nodes arcs
bits_of_order words nodes k bits arcs order is none are =
    bits_of_same words nodes bits (arcs_at arcs order) arcs (order_to_arcs arcs order is) (arcs_to_order arcs order is)
    (subst (λ (n : ℕ). AreBitsOf words bits nodes (arcs_at arcs (drop n order))) none are)
