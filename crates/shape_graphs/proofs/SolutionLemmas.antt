-- Solutions of a graph, and its cycles.
use Rattle.std.proofs.Common.{◌≡◌, ℕ, zero, suc, ◌<◌, ◌==◌, Bool, true, false, ◌&&◌, ◌||◌, if◌then◌else◌, List, [], ◌∷◌, length, ◌⊎◌, inl, inr, refl, sym, ◌∙◌, subst, arith, ℤ, pos}
use Rattle.std.specs.Prelude.{◌+ℤ◌, ◌-ℤ◌, ◌≤ℤ◌}
use Rattle.std.specs.Int.{int_max}
use Rattle.std.proofs.lemmas.Int.{ints, int_max_is}
use Rattle.std.proofs.lemmas.Bool.{cases_eq, cases_Bool, eqb-true, eq-eqb, or_cases, or_left, or_right, and_parts, and_from, true≢false, cond-true, cond-false}
use Rattle.shape_graphs.specs.declared.graph.Arc.{Arc}
use Rattle.shape_graphs.specs.Arcs.{arc_at, AreArcsWithin}
use Rattle.shape_graphs.specs.Paths.{HasPath, HasCycle, IsAtOrReached, HaveArcsIn}
use Rattle.shape_graphs.specs.Paths.HasPath.{along_arc, arc_and_path}
use Rattle.shape_graphs.specs.Flows.{IsSolution}
use Rattle.shape_graphs.proofs.PathLemmas.{one_arc, arc_then, joined_paths}

-- a path makes a difference of at least 1
pub path_rises_by_one : (arcs : List Arc) (numbers : ℕ → ℤ) (a b : ℕ) → ((i : ℕ) → i < length arcs → pos 1 ≤ℤ (arc_at arcs i).least) →
    IsSolution arcs numbers → HasPath arcs a b → (numbers a +ℤ pos 1) ≤ℤ numbers b
path_rises_by_one arcs numbers a b least solves (along_arc i within) = omega (arith, ints, least i within, solves i within)
path_rises_by_one arcs numbers a b least solves (arc_and_path i end within rest) =
    let rise : (numbers (arc_at arcs i).to +ℤ pos 1) ≤ℤ numbers end = path_rises_by_one arcs numbers (arc_at arcs i).to end least solves rest in
    omega (arith, ints, least i within, solves i within, rise)

-- whether a path leads from one node to another
abbrev pub reached : List Arc → ℕ → ℕ → Bool
reached [] a b = false
reached (arc ∷ arcs) a b =
    reached arcs a b || (((a == arc.from) || reached arcs a arc.from) && ((b == arc.to) || reached arcs arc.to b))

-- with arcs before them the same paths lead
pub path_with_more : (arc : Arc) (arcs : List Arc) (a b : ℕ) → HasPath arcs a b → HasPath (arc ∷ arcs) a b
path_with_more arc arcs a b (along_arc i within) = along_arc (suc i) (omega (arith, within))
path_with_more arc arcs a b (arc_and_path i end within rest) =
    arc_and_path (suc i) end (omega (arith, within)) (path_with_more arc arcs (arc_at arcs i).to end rest)

-- a path with one arc more: one without it, or one through it
pub path_by_first : (arc : Arc) (arcs : List Arc) (a b : ℕ) → HasPath (arc ∷ arcs) a b →
    HasPath arcs a b ⊎ (IsAtOrReached arcs a arc.from × IsAtOrReached arcs arc.to b)
path_by_first arc arcs a b (along_arc zero within) = inr (inl refl, inl refl)
path_by_first arc arcs a b (along_arc (suc i) within) = inl (along_arc i (omega (arith, within)))
path_by_first arc arcs a b (arc_and_path zero end within rest) = by_rest (path_by_first arc arcs arc.to end rest)
  where
    by_rest : HasPath arcs arc.to end ⊎ (IsAtOrReached arcs arc.to arc.from × IsAtOrReached arcs arc.to end) → HasPath arcs arc.from end ⊎ (IsAtOrReached arcs arc.from arc.from × IsAtOrReached arcs arc.to end)
    by_rest (inl path) = inr (inl refl, inr path)
    by_rest (inr through) = inr (inl refl, through.1)
path_by_first arc arcs a b (arc_and_path (suc i) end within rest) = by_rest (path_by_first arc arcs (arc_at arcs i).to end rest)
  where
    inside : i < length arcs
    inside = omega (arith, within)

    first : IsAtOrReached arcs (arc_at arcs i).to arc.from → HasPath arcs (arc_at arcs i).from arc.from
    first (inl same) = one_arc arcs (arc_at arcs i).from arc.from i inside refl same
    first (inr path) = arc_and_path i arc.from inside path

    by_rest : HasPath arcs (arc_at arcs i).to end ⊎ (IsAtOrReached arcs (arc_at arcs i).to arc.from × IsAtOrReached arcs arc.to end) →
        HasPath arcs (arc_at arcs i).from end ⊎ (IsAtOrReached arcs (arc_at arcs i).from arc.from × IsAtOrReached arcs arc.to end)
    by_rest (inl path) = inl (arc_and_path i end inside path)
    by_rest (inr through) = inr (inr (first through.0), through.1)

-- and back
pub path_through_first : (arc : Arc) (arcs : List Arc) (a b : ℕ) →
    HasPath arcs a b ⊎ (IsAtOrReached arcs a arc.from × IsAtOrReached arcs arc.to b) → HasPath (arc ∷ arcs) a b
path_through_first arc arcs a b (inl path) = path_with_more arc arcs a b path
path_through_first arc arcs a b (inr through) = by_begin through.0
  where
    from_arc : IsAtOrReached arcs arc.to b → HasPath (arc ∷ arcs) arc.from b
    from_arc (inl same) = one_arc (arc ∷ arcs) arc.from b 0 (omega arith) refl same
    from_arc (inr path) = arc_and_path 0 b (omega arith) (path_with_more arc arcs arc.to b path)

    by_begin : IsAtOrReached arcs a arc.from → HasPath (arc ∷ arcs) a b
    by_begin (inl same) = let P : ℕ → Type 0 = λ x. HasPath (arc ∷ arcs) x b in subst P (sym same) (from_arc through.1)
    by_begin (inr path) = joined_paths (arc ∷ arcs) a arc.from b (path_with_more arc arcs a arc.from path) (from_arc through.1)

-- no path without arcs
pub no_path : (a b : ℕ) → HasPath [] a b → ⊥
no_path a b (along_arc i within) = omega arith
no_path a b (arc_and_path i end within rest) = omega arith

-- the test says whether there is a path
module _ (arc : Arc) (arcs : List Arc) (a b : ℕ) where
  abbrev begin_test : Bool
  begin_test = (a == arc.from) || reached arcs a arc.from

  abbrev end_test : Bool
  end_test = (b == arc.to) || reached arcs arc.to b

  path_reached_more : ((x y : ℕ) → reached arcs x y ≡ true → HasPath arcs x y) → reached (arc ∷ arcs) a b ≡ true → HasPath (arc ∷ arcs) a b
  path_reached_more old is = path_through_first arc arcs a b (by_test (or_cases (reached arcs a b) (begin_test && end_test) is))
    where
      begins : ((a == arc.from) ≡ true) ⊎ (reached arcs a arc.from ≡ true) → IsAtOrReached arcs a arc.from
      begins (inl same) = inl (eqb-true a arc.from same)
      begins (inr path) = inr (old a arc.from path)

      ends : ((b == arc.to) ≡ true) ⊎ (reached arcs arc.to b ≡ true) → IsAtOrReached arcs arc.to b
      ends (inl same) = inl (sym (eqb-true b arc.to same))
      ends (inr path) = inr (old arc.to b path)

      by_test : (reached arcs a b ≡ true) ⊎ ((begin_test && end_test) ≡ true) →
          HasPath arcs a b ⊎ (IsAtOrReached arcs a arc.from × IsAtOrReached arcs arc.to b)
      by_test (inl path) = inl (old a b path)
      by_test (inr both) =
          let parts = and_parts begin_test end_test both in
          inr (begins (or_cases (a == arc.from) (reached arcs a arc.from) parts.0), ends (or_cases (b == arc.to) (reached arcs arc.to b) parts.1))

  reached_path_more : ((x y : ℕ) → HasPath arcs x y → reached arcs x y ≡ true) → HasPath (arc ∷ arcs) a b → reached (arc ∷ arcs) a b ≡ true
  reached_path_more old path = by_path (path_by_first arc arcs a b path)
    where
      begins : IsAtOrReached arcs a arc.from → begin_test ≡ true
      begins (inl same) = or_left (a == arc.from) (reached arcs a arc.from) (eq-eqb a arc.from same)
      begins (inr rest) = or_right (a == arc.from) (reached arcs a arc.from) (old a arc.from rest)

      ends : IsAtOrReached arcs arc.to b → end_test ≡ true
      ends (inl same) = or_left (b == arc.to) (reached arcs arc.to b) (eq-eqb b arc.to (sym same))
      ends (inr rest) = or_right (b == arc.to) (reached arcs arc.to b) (old arc.to b rest)

      by_path : HasPath arcs a b ⊎ (IsAtOrReached arcs a arc.from × IsAtOrReached arcs arc.to b) → reached (arc ∷ arcs) a b ≡ true
      by_path (inl rest) = or_left (reached arcs a b) (begin_test && end_test) (old a b rest)
      by_path (inr through) = or_right (reached arcs a b) (begin_test && end_test) (and_from begin_test end_test (begins through.0) (ends through.1))

pub path_reached : (arcs : List Arc) (a b : ℕ) → reached arcs a b ≡ true → HasPath arcs a b
path_reached [] a b is = absurd (true≢false (sym is))
path_reached (arc ∷ arcs) a b is = path_reached_more arc arcs a b (path_reached arcs) is

pub reached_path : (arcs : List Arc) (a b : ℕ) → HasPath arcs a b → reached arcs a b ≡ true
reached_path [] a b path = absurd (no_path a b path)
reached_path (arc ∷ arcs) a b path = reached_path_more arc arcs a b (reached_path arcs) path

pub path_decided : (arcs : List Arc) (a b : ℕ) → HasPath arcs a b ⊎ (HasPath arcs a b → ⊥)
path_decided arcs a b = by_test (cases_Bool (reached arcs a b))
  where
    by_test : (reached arcs a b ≡ true) ⊎ (reached arcs a b ≡ false) → HasPath arcs a b ⊎ (HasPath arcs a b → ⊥)
    by_test (inl is_so) = inl (path_reached arcs a b is_so)
    by_test (inr is_not) = inr (λ path. true≢false (sym (reached_path arcs a b path) ∙ is_not))

-- graphs whose arcs have the same ends have the same paths
pub same_paths : (arcs others : List Arc) → HaveArcsIn arcs others → (a b : ℕ) → HasPath arcs a b → HasPath others a b
same_paths arcs others same a b (along_arc i within) =
    let found = same i within in
    one_arc others (arc_at arcs i).from (arc_at arcs i).to found.0 found.1 found.2 found.3
same_paths arcs others same a b (arc_and_path i end within rest) =
    let found = same i within in
    arc_then others (arc_at arcs i).from (arc_at arcs i).to end found.0 found.1 found.2 found.3 (same_paths arcs others same (arc_at arcs i).to end rest)

-- a cycle with one arc more
cycle_with_more : (arc : Arc) (arcs : List Arc) → HasCycle arcs → HasCycle (arc ∷ arcs)
cycle_with_more arc arcs cycle = (cycle.0, path_with_more arc arcs cycle.0 cycle.0 cycle.1)

cycle_through_first : (arc : Arc) (arcs : List Arc) → IsAtOrReached arcs arc.to arc.from → HasCycle (arc ∷ arcs)
cycle_through_first arc arcs back = (arc.from, path_through_first arc arcs arc.from arc.from (inr (inl refl, back)))

pub cycle_by_first : (arc : Arc) (arcs : List Arc) → HasCycle (arc ∷ arcs) → HasCycle arcs ⊎ IsAtOrReached arcs arc.to arc.from
cycle_by_first arc arcs cycle = by_path (path_by_first arc arcs cycle.0 cycle.0 cycle.1)
  where
    joined : IsAtOrReached arcs cycle.0 arc.from → IsAtOrReached arcs arc.to cycle.0 → IsAtOrReached arcs arc.to arc.from
    joined (inl same) (inl also) = inl (also ∙ same)
    joined (inl same) (inr path) = inr (let P : ℕ → Type 0 = λ x. HasPath arcs arc.to x in subst P same path)
    joined (inr path) (inl also) = inr (let P : ℕ → Type 0 = λ x. HasPath arcs x arc.from in subst P (sym also) path)
    joined (inr path) (inr first) = inr (joined_paths arcs arc.to cycle.0 arc.from first path)

    by_path : HasPath arcs cycle.0 cycle.0 ⊎ (IsAtOrReached arcs cycle.0 arc.from × IsAtOrReached arcs arc.to cycle.0) → HasCycle arcs ⊎ IsAtOrReached arcs arc.to arc.from
    by_path (inl path) = inl (cycle.0, path)
    by_path (inr through) = inr (joined through.0 through.1)

at_or_decided : (arcs : List Arc) (a b : ℕ) → IsAtOrReached arcs a b ⊎ (IsAtOrReached arcs a b → ⊥)
at_or_decided arcs a b = by_both (cases_eq a b) (path_decided arcs a b)
  where
    by_both : (a ≡ b) ⊎ (a ≡ b → ⊥) → HasPath arcs a b ⊎ (HasPath arcs a b → ⊥) → IsAtOrReached arcs a b ⊎ (IsAtOrReached arcs a b → ⊥)
    by_both (inl same) decided = inl (inl same)
    by_both (inr other) (inl path) = inl (inr path)
    by_both (inr other) (inr none) = inr (neither)
      where
        neither : IsAtOrReached arcs a b → ⊥
        neither (inl same) = other same
        neither (inr path) = none path

pub cycle_decided : (arcs : List Arc) → HasCycle arcs ⊎ (HasCycle arcs → ⊥)
cycle_decided [] = inr (λ cycle. no_path cycle.0 cycle.0 cycle.1)
cycle_decided (arc ∷ arcs) = by_rest (cycle_decided arcs) (at_or_decided arcs arc.to arc.from)
  where
    by_rest : HasCycle arcs ⊎ (HasCycle arcs → ⊥) → IsAtOrReached arcs arc.to arc.from ⊎ (IsAtOrReached arcs arc.to arc.from → ⊥) →
        HasCycle (arc ∷ arcs) ⊎ (HasCycle (arc ∷ arcs) → ⊥)
    by_rest (inl cycle) back = inl (cycle_with_more arc arcs cycle)
    by_rest (inr none) (inl back) = inl (cycle_through_first arc arcs back)
    by_rest (inr none) (inr no_way) = inr neither
      where
        by_first : HasCycle arcs ⊎ IsAtOrReached arcs arc.to arc.from → ⊥
        by_first (inl cycle) = none cycle
        by_first (inr back) = no_way back

        neither : HasCycle (arc ∷ arcs) → ⊥
        neither cycle = by_first (cycle_by_first arc arcs cycle)

-- numbers that solve a graph without a cycle: with each arc more its end, and all that is reached from
-- there, is lifted as far as the arc asks
lift_by : (ℕ → ℤ) → Arc → ℤ
lift_by numbers arc = int_max (pos 0) ((numbers arc.from +ℤ arc.least) -ℤ numbers arc.to)

lifted : (arcs : List Arc) → (ℕ → ℤ) → Arc → ℕ → ℤ
lifted arcs numbers arc v = if (v == arc.to) || reached arcs arc.to v then numbers v +ℤ lift_by numbers arc else numbers v

pub numbers_of : List Arc → ℕ → ℤ
numbers_of [] v = pos 0
numbers_of (arc ∷ arcs) v = lifted arcs (numbers_of arcs) arc v

module _ (arc : Arc) (arcs : List Arc) (numbers : ℕ → ℤ) where
  lift_enough : ((numbers arc.from +ℤ arc.least) -ℤ numbers arc.to) ≤ℤ lift_by numbers arc
  unfolding lift_by
  lift_enough = omega (arith, ints, int_max_is (pos 0) ((numbers arc.from +ℤ arc.least) -ℤ numbers arc.to))

  lift_upward : pos 0 ≤ℤ lift_by numbers arc
  unfolding lift_by
  lift_upward = omega (arith, ints, int_max_is (pos 0) ((numbers arc.from +ℤ arc.least) -ℤ numbers arc.to))

  Behind : ℕ → Type 0
  Behind v = IsAtOrReached arcs arc.to v

  lifted_behind : (v : ℕ) → Behind v → lifted arcs numbers arc v ≡ numbers v +ℤ lift_by numbers arc
  unfolding lifted Behind
  lifted_behind v (inl same) = cond-true ((v == arc.to) || reached arcs arc.to v) (numbers v +ℤ lift_by numbers arc) (numbers v)
      (or_left (v == arc.to) (reached arcs arc.to v) (eq-eqb v arc.to (sym same)))
  lifted_behind v (inr path) = cond-true ((v == arc.to) || reached arcs arc.to v) (numbers v +ℤ lift_by numbers arc) (numbers v)
      (or_right (v == arc.to) (reached arcs arc.to v) (reached_path arcs arc.to v path))

  lifted_else : (v : ℕ) → (Behind v → ⊥) → lifted arcs numbers arc v ≡ numbers v
  unfolding lifted Behind
  lifted_else v none = by_test (cases_Bool ((v == arc.to) || reached arcs arc.to v))
    where
      by_or : ((v == arc.to) ≡ true) ⊎ (reached arcs arc.to v ≡ true) → ⊥
      by_or (inl same) = none (inl (sym (eqb-true v arc.to same)))
      by_or (inr path) = none (inr (path_reached arcs arc.to v path))

      by_test : (((v == arc.to) || reached arcs arc.to v) ≡ true) ⊎ (((v == arc.to) || reached arcs arc.to v) ≡ false) →
          (if (v == arc.to) || reached arcs arc.to v then numbers v +ℤ lift_by numbers arc else numbers v) ≡ numbers v
      by_test (inl is_so) = absurd (by_or (or_cases (v == arc.to) (reached arcs arc.to v) is_so))
      by_test (inr is_not) = cond-false ((v == arc.to) || reached arcs arc.to v) (numbers v +ℤ lift_by numbers arc) (numbers v) is_not

  lifted_solves : (Behind arc.from → ⊥) → IsSolution arcs numbers → IsSolution (arc ∷ arcs) (lifted arcs numbers arc)
  unfolding Behind
  lifted_solves no_way solves zero within =
      omega (arith, ints, lifted_behind arc.to (inl refl), lifted_else arc.from no_way, lift_enough)
  lifted_solves no_way solves (suc i) within = by_ends (at_or_decided arcs arc.to u) (at_or_decided arcs arc.to w)
    where
      u : ℕ
      u = (arc_at arcs i).from

      w : ℕ
      w = (arc_at arcs i).to

      inside : i < length arcs
      inside = omega (arith, within)

      old : (arc_at arcs i).least ≤ℤ (numbers w -ℤ numbers u)
      old = solves i inside

      on : Behind u → Behind w
      on (inl same) = inr (one_arc arcs arc.to w i inside (sym same) refl)
      on (inr path) = inr (joined_paths arcs arc.to u w path (along_arc i inside))

      by_ends : Behind u ⊎ (Behind u → ⊥) → Behind w ⊎ (Behind w → ⊥) →
          (arc_at arcs i).least ≤ℤ (lifted arcs numbers arc w -ℤ lifted arcs numbers arc u)
      by_ends (inl first) (inl second) = omega (arith, ints, old, lifted_behind u first, lifted_behind w second)
      by_ends (inl first) (inr second) = absurd (second (on first))
      by_ends (inr first) (inl second) = omega (arith, ints, old, lifted_else u first, lifted_behind w second, lift_upward)
      by_ends (inr first) (inr second) = omega (arith, ints, old, lifted_else u first, lifted_else w second)

  lifted_upward : (v : ℕ) → pos 0 ≤ℤ numbers v → pos 0 ≤ℤ lifted arcs numbers arc v
  unfolding Behind
  lifted_upward v old = by_place (at_or_decided arcs arc.to v)
    where
      by_place : Behind v ⊎ (Behind v → ⊥) → pos 0 ≤ℤ lifted arcs numbers arc v
      by_place (inl behind) = omega (arith, ints, old, lifted_behind v behind, lift_upward)
      by_place (inr other) = omega (arith, ints, old, lifted_else v other)

pub numbers_solve : (arcs : List Arc) → (HasCycle arcs → ⊥) → IsSolution arcs (numbers_of arcs)
unfolding numbers_of
numbers_solve [] none = λ i within. absurd (omega arith)
numbers_solve (arc ∷ arcs) none =
    lifted_solves arc arcs (numbers_of arcs) (λ back. none (cycle_through_first arc arcs (unfold Behind in back)))
    (numbers_solve arcs (λ cycle. none (cycle_with_more arc arcs cycle)))

pub numbers_upward : (arcs : List Arc) (v : ℕ) → pos 0 ≤ℤ numbers_of arcs v
unfolding numbers_of
numbers_upward [] v = omega (arith, ints)
numbers_upward (arc ∷ arcs) v = lifted_upward arc arcs (numbers_of arcs) v (numbers_upward arcs v)

pub some_solution : (arcs : List Arc) → (HasCycle arcs → ⊥) → (numbers : ℕ → ℤ) × IsSolution arcs numbers × ((v : ℕ) → pos 0 ≤ℤ numbers v)
some_solution arcs none = (numbers_of arcs, numbers_solve arcs none, numbers_upward arcs)

pub no_cycle_in_solution : (arcs : List Arc) (numbers : ℕ → ℤ) → AreArcsWithin arcs → IsSolution arcs numbers → HasCycle arcs → ⊥
no_cycle_in_solution arcs numbers within solves cycle =
    let rise = path_rises_by_one arcs numbers cycle.0 cycle.0 (λ i h. (within i h).some_least) solves cycle.1 in
    omega (arith, ints, rise)
