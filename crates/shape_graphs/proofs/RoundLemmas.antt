-- The arcs at hand from the end of the walk down to the node that is met again make a cycle.
use Rattle.std.proofs.Common.{◌≡◌, ℕ, zero, suc, ◌+◌, ◌<◌, ◌≤◌, ◌-◌, List, [], ◌∷◌, ◌++◌, length, slice_index, ◌⊎◌, inl, inr, refl, sym, ap, ◌∙◌, subst, arith}
use Rattle.std.proofs.lemmas.Bool.{cases_eq}
use Rattle.std.proofs.lemmas.List.{length_push}
use Rattle.shape_graphs.specs.declared.graph.Arc.{Arc}
use Rattle.shape_graphs.specs.declared.trail.Trail.{Trail}
use Rattle.shape_graphs.specs.Arcs.{arc_at}
use Rattle.shape_graphs.specs.Paths.{step_arc}
use Rattle.shape_graphs.specs.inner.Trails.{IsMet, IsRound}
use Rattle.shape_graphs.proofs.ListCases.{Pushed, pushed}

-- at hand of a place of the walk
abbrev pub at_hand : Trail → ℕ → ℕ
at_hand t k = slice_index t.next (slice_index t.walk k) - 1

module _ (nodes : ℕ) (arcs : List Arc) (t : Trail) (met : ℕ) (is : IsMet nodes arcs t met)
    (k : ℕ) (within : k < length t.walk) (here : slice_index t.walk k ≡ met) (cycle : List ℕ)
    (long : length cycle + k ≡ length t.walk)
    (each : (j : ℕ) → j < length cycle → slice_index cycle j ≡ at_hand t (length t.walk - 1 - j)) where
  -- each place of the walk has an arc at hand
  some_at : (p : ℕ) → p < length t.walk → (suc p < length t.walk) ⊎ (suc p ≡ length t.walk) → 0 < slice_index t.next (slice_index t.walk p)
  some_at p in_walk (inl before) = is.holds.walk.some_arc p before
  some_at p in_walk (inr last) =
      let same : length t.walk - 1 ≡ p = omega arith in
      rw (← same) is.some_arc

  last_or : (p : ℕ) → p < length t.walk → (suc p < length t.walk) ⊎ (suc p ≡ length t.walk)
  last_or p in_walk = grind arith

  ends_at : (p : ℕ) → p < length t.walk → (arc_at arcs (at_hand t p)).to ≡ slice_index t.walk p
  ends_at p in_walk = is.holds.next_ends (slice_index t.walk p) (is.holds.walk.in_graph p in_walk) (some_at p in_walk (last_or p in_walk))

  in_arcs : (p : ℕ) → p < length t.walk → at_hand t p < length arcs
  in_arcs p in_walk =
      let some = some_at p in_walk (last_or p in_walk) in
      let at_most : slice_index t.next (slice_index t.walk p) ≤ length arcs = is.holds.next_within (slice_index t.walk p) (is.holds.walk.in_graph p in_walk) in
      omega (arith, some, at_most)

  -- the place of the walk at which an arc of the cycle begins
  abbrev begins : ℕ → ℕ
  begins zero = k
  begins (suc j) = length t.walk - suc j

  begins_in : (j : ℕ) → j < length cycle → begins j < length t.walk
  begins_in zero h = within
  begins_in (suc j) h = omega arith

  begins_at : (j : ℕ) → j < length cycle → (step_arc arcs cycle j).from ≡ slice_index t.walk (begins j)
  begins_at zero h =
      let place : length t.walk - 1 - 0 ≡ length t.walk - 1 = omega arith in
      ap (λ (i : ℕ). (arc_at arcs i).from) (each zero h ∙ ap (at_hand t) place) ∙ is.begins ∙ sym here
  begins_at (suc j) h =
      let place : length t.walk - 1 - suc j ≡ length t.walk - suc (suc j) = omega arith in
      let more : suc (length t.walk - suc (suc j)) ≡ length t.walk - suc j = omega arith in
      ap (λ (i : ℕ). (arc_at arcs i).from) (each (suc j) h ∙ ap (at_hand t) place)
      ∙ is.holds.walk.against (length t.walk - suc (suc j)) (omega arith) ∙ ap (slice_index t.walk) more

  ends_on : (j : ℕ) → j < length cycle → (step_arc arcs cycle j).to ≡ slice_index t.walk (length t.walk - suc j)
  ends_on j h =
      let place : length t.walk - 1 - j ≡ length t.walk - suc j = omega arith in
      ap (λ (i : ℕ). (arc_at arcs i).to) (each j h ∙ ap (at_hand t) place) ∙ ends_at (length t.walk - suc j) (omega arith)

  begins_apart : (j l : ℕ) → j < length cycle → l < length cycle → begins j ≡ begins l → j ≡ l
  begins_apart zero zero hj hl same = refl
  begins_apart zero (suc l) hj hl same = absurd (omega arith)
  begins_apart (suc j) zero hj hl same = absurd (omega arith)
  begins_apart (suc j) (suc l) hj hl same = omega arith

  pub is_round : IsRound arcs cycle
  is_round = record {
    cycle = record {
      some = omega arith;
      in_graph = λ j h. rw (each j h) (in_arcs (length t.walk - 1 - j) (omega arith));
      joined = λ j h. ends_on j (omega arith) ∙ sym (begins_at (suc j) h);
      closed =
          let place : length t.walk - suc (length cycle - 1) ≡ k = omega arith in
          ends_on (length cycle - 1) (omega arith) ∙ ap (slice_index t.walk) place ∙ sym (begins_at zero (omega arith));
    };
    no_node_twice = λ j l hj hl same. begins_apart j l hj hl
        (is.holds.walk.no_node_twice (begins j) (begins l) (begins_in j hj) (begins_in l hl) (sym (begins_at j hj) ∙ same ∙ begins_at l hl));
  }

-- one place further down
pub each_more : (walk next cycle : List ℕ) (k : ℕ) → 0 < k → length cycle + k ≡ length walk →
    ((j : ℕ) → j < length cycle → slice_index cycle j ≡ slice_index next (slice_index walk (length walk - 1 - j)) - 1) →
    (j : ℕ) → j < length (cycle ++ (slice_index next (slice_index walk (k - 1)) - 1) ∷ []) →
    slice_index (cycle ++ (slice_index next (slice_index walk (k - 1)) - 1) ∷ []) j ≡ slice_index next (slice_index walk (length walk - 1 - j)) - 1
each_more walk next cycle k some long each j h = by_place (pushed 0 cycle (slice_index next (slice_index walk (k - 1)) - 1) j h)
  where
    by_place : Pushed 0 cycle (slice_index next (slice_index walk (k - 1)) - 1) j →
        slice_index (cycle ++ (slice_index next (slice_index walk (k - 1)) - 1) ∷ []) j ≡ slice_index next (slice_index walk (length walk - 1 - j)) - 1
    by_place (inl before) = before.1 ∙ each j before.0
    by_place (inr last) =
        let place : k - 1 ≡ length walk - 1 - j = omega (arith, last.0) in
        last.1 ∙ ap (λ (p : ℕ). slice_index next (slice_index walk p) - 1) place

pub long_more : (walk cycle : List ℕ) (x k : ℕ) → 0 < k → length cycle + k ≡ length walk → length (cycle ++ x ∷ []) + (k - 1) ≡ length walk
long_more walk cycle x k some long = omega (arith, length_push cycle x)

pub not_met_more : (walk : List ℕ) (met k : ℕ) → 0 < k → (slice_index walk (k - 1) ≡ met → ⊥) →
    ((j : ℕ) → k ≤ j → j < length walk → slice_index walk j ≡ met → ⊥) → (j : ℕ) → k - 1 ≤ j → j < length walk → slice_index walk j ≡ met → ⊥
not_met_more walk met k some here behind j low high is = by_place (cases_eq j (k - 1))
  where
    by_place : (j ≡ k - 1) ⊎ (j ≡ k - 1 → ⊥) → ⊥
    by_place (inl same) = here (sym (ap (slice_index walk) same) ∙ is)
    by_place (inr other) = behind j (omega arith) high is

-- the same for what the code reads
pub round_at : (nodes : ℕ) (arcs : List Arc) (t : Trail) (met k : ℕ) (walk next cycle new : List ℕ) → IsMet nodes arcs t met → walk ≡ t.walk → next ≡ t.next →
    0 < k → length cycle + k ≡ length walk →
    ((j : ℕ) → j < length cycle → slice_index cycle j ≡ slice_index next (slice_index walk (length walk - 1 - j)) - 1) →
    slice_index walk (k - 1) ≡ met → new ≡ cycle ++ (slice_index next (slice_index walk (k - 1)) - 1) ∷ [] → IsRound arcs new
round_at nodes arcs t met k walk next cycle new is is_walk is_next some long each here is_new =
    subst (IsRound arcs) (sym is_new)
    (is_round nodes arcs t met is (k - 1) (omega (arith, ap length is_walk)) (sym (ap (λ (l : List ℕ). slice_index l (k - 1)) is_walk) ∙ here)
    longer (long_more walk cycle last k some long ∙ ap length is_walk)
    (λ j h. each_more walk next cycle k some long each j h
    ∙ ap (λ (l : List ℕ). slice_index next (slice_index l (length l - 1 - j)) - 1) is_walk
    ∙ ap (λ (l : List ℕ). slice_index l (slice_index t.walk (length t.walk - 1 - j)) - 1) is_next))
  where
    last : ℕ
    last = slice_index next (slice_index walk (k - 1)) - 1

    longer : List ℕ
    longer = cycle ++ last ∷ []
