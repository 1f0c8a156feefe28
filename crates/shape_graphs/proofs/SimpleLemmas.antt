-- A graph with a cycle has a simple one.
use Rattle.std.proofs.Common.{◌≡◌, ℕ, zero, suc, ◌+◌, ◌<◌, ◌-◌, List, [], ◌∷◌, length, slice_index, map, ◌⊎◌, inl, inr, refl, sym, ap, ◌∙◌, subst, arith}
use Rattle.std.proofs.lemmas.Bool.{cases_order}
use Rattle.std.proofs.lemmas.List.{get_or-map, length-map}
use Rattle.shape_graphs.specs.declared.graph.Arc.{Arc}
use Rattle.shape_graphs.specs.Arcs.{arc_at}
use Rattle.shape_graphs.specs.Paths.{HasPath, HasCycle, IsAtOrReached, step_arc, IsSimpleCycle}
use Rattle.shape_graphs.specs.Paths.HasPath.{along_arc, arc_and_path}
use Rattle.shape_graphs.proofs.PathLemmas.{one_arc, arc_then}
use Rattle.shape_graphs.proofs.SolutionLemmas.{no_path, cycle_by_first, cycle_decided}

-- the arcs of a path
record IsWay (arcs : List Arc) (a b : ℕ) (walk : List ℕ) : Type 0 where
  some : 0 < length walk
  in_graph : (k : ℕ) → k < length walk → slice_index walk k < length arcs
  joined : (k : ℕ) → suc k < length walk → (step_arc arcs walk k).to ≡ (step_arc arcs walk (suc k)).from
  begins : (step_arc arcs walk 0).from ≡ a
  ends : (k : ℕ) → suc k ≡ length walk → (step_arc arcs walk k).to ≡ b

one_way : (arcs : List Arc) (i : ℕ) → i < length arcs → IsWay arcs (arc_at arcs i).from (arc_at arcs i).to (i ∷ [])
one_way arcs i within = record {
  some = omega arith;
  in_graph = in_graph;
  joined = λ k h. absurd (omega arith);
  begins = refl;
  ends = ends;
}
  where
    in_graph : (k : ℕ) → k < length (i ∷ []) → slice_index (i ∷ []) k < length arcs
    in_graph zero h = within
    in_graph (suc k) h = absurd (omega arith)

    ends : (k : ℕ) → suc k ≡ length (i ∷ []) → (step_arc arcs (i ∷ []) k).to ≡ (arc_at arcs i).to
    ends zero h = refl
    ends (suc k) h = absurd (omega arith)

longer_way : (arcs : List Arc) (i b : ℕ) (walk : List ℕ) → i < length arcs → IsWay arcs (arc_at arcs i).to b walk → IsWay arcs (arc_at arcs i).from b (i ∷ walk)
longer_way arcs i b walk within rest = record {
  some = omega arith;
  in_graph = in_graph;
  joined = joined;
  begins = refl;
  ends = ends;
}
  where
    in_graph : (k : ℕ) → k < length (i ∷ walk) → slice_index (i ∷ walk) k < length arcs
    in_graph zero h = within
    in_graph (suc k) h = rest.in_graph k (omega arith)

    joined : (k : ℕ) → suc k < length (i ∷ walk) → (step_arc arcs (i ∷ walk) k).to ≡ (step_arc arcs (i ∷ walk) (suc k)).from
    joined zero h = sym rest.begins
    joined (suc k) h = rest.joined k (omega arith)

    ends : (k : ℕ) → suc k ≡ length (i ∷ walk) → (step_arc arcs (i ∷ walk) k).to ≡ b
    ends zero h = absurd (omega (arith, rest.some))
    ends (suc k) h = rest.ends k (omega arith)

way_of : (arcs : List Arc) (a b : ℕ) → HasPath arcs a b → (walk : List ℕ) × IsWay arcs a b walk
way_of arcs a b (along_arc i within) = (i ∷ [], one_way arcs i within)
way_of arcs a b (arc_and_path i end within rest) =
    let way = way_of arcs (arc_at arcs i).to end rest in
    (i ∷ way.0, longer_way arcs i end way.0 within way.1)

-- from one place of a way to a later one
part_way : (arcs : List Arc) (a b : ℕ) (walk : List ℕ) (n k l : ℕ) → IsWay arcs a b walk → k + suc n ≡ l → l < length walk →
    HasPath arcs (step_arc arcs walk k).from (step_arc arcs walk l).from
part_way arcs a b walk zero k l way far within =
    let P : ℕ → Type 0 = λ m. HasPath arcs (step_arc arcs walk k).from (step_arc arcs walk m).from in
    let next : suc k ≡ l = omega arith in
    subst P next (one_arc arcs (step_arc arcs walk k).from (step_arc arcs walk (suc k)).from (slice_index walk k) (way.in_graph k (omega arith)) refl (way.joined k (omega arith)))
part_way arcs a b walk (suc n) k l way far within =
    arc_then arcs (step_arc arcs walk k).from (step_arc arcs walk (suc k)).from (step_arc arcs walk l).from (slice_index walk k)
    (way.in_graph k (omega arith)) refl (way.joined k (omega arith)) (part_way arcs a b walk n (suc k) l way (omega arith) within)

-- from a place of a way to its end
rest_way : (arcs : List Arc) (a b : ℕ) (walk : List ℕ) (n k : ℕ) → IsWay arcs a b walk → k + suc n ≡ length walk →
    HasPath arcs (step_arc arcs walk k).from b
rest_way arcs a b walk zero k way far =
    one_arc arcs (step_arc arcs walk k).from b (slice_index walk k) (way.in_graph k (omega arith)) refl (way.ends k (omega arith))
rest_way arcs a b walk (suc n) k way far =
    arc_then arcs (step_arc arcs walk k).from (step_arc arcs walk (suc k)).from b (slice_index walk k)
    (way.in_graph k (omega arith)) refl (way.joined k (omega arith)) (rest_way arcs a b walk n (suc k) way (omega arith))

-- without a cycle a way passes no node twice
no_node_again : (arcs : List Arc) (a b : ℕ) (walk : List ℕ) (k l : ℕ) → IsWay arcs a b walk → (HasCycle arcs → ⊥) → k < l → l < length walk →
    (step_arc arcs walk k).from ≡ (step_arc arcs walk l).from → ⊥
no_node_again arcs a b walk k l way none before within same =
    let P : ℕ → Type 0 = λ x. HasPath arcs (step_arc arcs walk k).from x in
    none ((step_arc arcs walk k).from, subst P (sym same) (part_way arcs a b walk (l - suc k) k l way (omega arith) within))

way_apart : (arcs : List Arc) (a b : ℕ) (walk : List ℕ) (k l : ℕ) → IsWay arcs a b walk → (HasCycle arcs → ⊥) → k < length walk → l < length walk →
    (step_arc arcs walk k).from ≡ (step_arc arcs walk l).from → k ≡ l
way_apart arcs a b walk k l way none hk hl same = by_order (cases_order k l)
  where
    by_order : (k ≡ l) ⊎ ((k < l) ⊎ (l < k)) → k ≡ l
    by_order (inl here) = here
    by_order (inr (inl before)) = absurd (no_node_again arcs a b walk k l way none before hl same)
    by_order (inr (inr behind)) = absurd (no_node_again arcs a b walk l k way none behind hk (sym same))

-- the numbers of the same arcs where one more stands before them
shifted_at : (walk : List ℕ) (k : ℕ) → k < length walk → slice_index (map suc walk) k ≡ suc (slice_index walk k)
shifted_at walk k h = get_or-map suc walk k 0 0 h

shifted_arc : (arc : Arc) (arcs : List Arc) (walk : List ℕ) (k : ℕ) → k < length walk → step_arc (arc ∷ arcs) (map suc walk) k ≡ step_arc arcs walk k
shifted_arc arc arcs walk k h = ap (arc_at (arc ∷ arcs)) (shifted_at walk k h)

module _ (arc : Arc) (arcs : List Arc) (walk : List ℕ) where
  shifted_length : length (map suc walk) ≡ length walk
  shifted_length = length-map walk suc

  shifted_simple : IsSimpleCycle arcs walk → IsSimpleCycle (arc ∷ arcs) (map suc walk)
  shifted_simple is = record {
    cycle = record {
      some = omega (arith, shifted_length, is.cycle.some);
      in_graph = λ k h. in_graph k (omega (arith, shifted_length));
      joined = λ k h. joined k (omega (arith, shifted_length));
      closed = rw shifted_length closed;
    };
    no_node_twice = λ k l hk hl same. is.no_node_twice k l (omega (arith, shifted_length)) (omega (arith, shifted_length))
        (sym (ap (λ (x : Arc). x.from) (shifted_arc arc arcs walk k (omega (arith, shifted_length)))) ∙ same
        ∙ ap (λ (x : Arc). x.from) (shifted_arc arc arcs walk l (omega (arith, shifted_length))));
    least_first = λ k some h. least k some (omega (arith, shifted_length));
  }
    where
      in_graph : (k : ℕ) → k < length walk → slice_index (map suc walk) k < suc (length arcs)
      in_graph k h = omega (arith, shifted_at walk k h, is.cycle.in_graph k h)

      joined : (k : ℕ) → suc k < length walk → (step_arc (arc ∷ arcs) (map suc walk) k).to ≡ (step_arc (arc ∷ arcs) (map suc walk) (suc k)).from
      joined k h = ap (λ (x : Arc). x.to) (shifted_arc arc arcs walk k (omega arith)) ∙ is.cycle.joined k h ∙ sym (ap (λ (x : Arc). x.from) (shifted_arc arc arcs walk (suc k) h))

      closed : (step_arc (arc ∷ arcs) (map suc walk) (length walk - 1)).to ≡ (step_arc (arc ∷ arcs) (map suc walk) 0).from
      closed = ap (λ (x : Arc). x.to) (shifted_arc arc arcs walk (length walk - 1) (omega (arith, is.cycle.some))) ∙ is.cycle.closed
          ∙ sym (ap (λ (x : Arc). x.from) (shifted_arc arc arcs walk 0 is.cycle.some))

      least : (k : ℕ) → 0 < k → k < length walk → slice_index (map suc walk) 0 < slice_index (map suc walk) k
      least k some h = omega (arith, shifted_at walk 0 (omega arith), shifted_at walk k h, is.least_first k some h)

  -- the first arc, and a way back
  first_and_way : (HasCycle arcs → ⊥) → IsWay arcs arc.to arc.from walk → IsSimpleCycle (arc ∷ arcs) (0 ∷ map suc walk)
  first_and_way none way = record {
    cycle = record {
      some = omega arith;
      in_graph = in_graph;
      joined = joined;
      closed = closed;
    };
    no_node_twice = twice;
    least_first = least;
  }
    where
      in_graph : (k : ℕ) → k < length (0 ∷ map suc walk) → slice_index (0 ∷ map suc walk) k < suc (length arcs)
      in_graph zero h = omega arith
      in_graph (suc k) h = omega (arith, shifted_at walk k (omega (arith, shifted_length)), way.in_graph k (omega (arith, shifted_length)))

      joined : (k : ℕ) → suc k < length (0 ∷ map suc walk) → (step_arc (arc ∷ arcs) (0 ∷ map suc walk) k).to ≡ (step_arc (arc ∷ arcs) (0 ∷ map suc walk) (suc k)).from
      joined zero h = sym (ap (λ (x : Arc). x.from) (shifted_arc arc arcs walk 0 way.some) ∙ way.begins)
      joined (suc k) h = ap (λ (x : Arc). x.to) (shifted_arc arc arcs walk k (omega (arith, shifted_length))) ∙ way.joined k (omega (arith, shifted_length))
          ∙ sym (ap (λ (x : Arc). x.from) (shifted_arc arc arcs walk (suc k) (omega (arith, shifted_length))))

      closed : (step_arc (arc ∷ arcs) (0 ∷ map suc walk) (length (0 ∷ map suc walk) - 1)).to ≡ arc.from
      closed =
          let last : length (0 ∷ map suc walk) - 1 ≡ suc (length walk - 1) = omega (arith, shifted_length, way.some) in
          ap (λ (k : ℕ). (step_arc (arc ∷ arcs) (0 ∷ map suc walk) k).to) last
          ∙ ap (λ (x : Arc). x.to) (shifted_arc arc arcs walk (length walk - 1) (omega (arith, way.some))) ∙ way.ends (length walk - 1) (omega (arith, way.some))

      back : (k : ℕ) → k < length walk → arc.from ≡ (step_arc (arc ∷ arcs) (map suc walk) k).from → ⊥
      back k h same =
          let P : ℕ → Type 0 = λ x. HasPath arcs x arc.from in
          none (
            arc.from,
            subst P (sym (same ∙ ap (λ (x : Arc). x.from) (shifted_arc arc arcs walk k h)))
                (rest_way arcs arc.to arc.from walk (length walk - suc k) k way (omega arith)),
          )

      twice : (k l : ℕ) → k < length (0 ∷ map suc walk) → l < length (0 ∷ map suc walk) →
          (step_arc (arc ∷ arcs) (0 ∷ map suc walk) k).from ≡ (step_arc (arc ∷ arcs) (0 ∷ map suc walk) l).from → k ≡ l
      twice zero zero hk hl same = refl
      twice zero (suc l) hk hl same = absurd (back l (omega (arith, shifted_length)) same)
      twice (suc k) zero hk hl same = absurd (back k (omega (arith, shifted_length)) (sym same))
      twice (suc k) (suc l) hk hl same =
          ap suc (way_apart arcs arc.to arc.from walk k l way none (omega (arith, shifted_length)) (omega (arith, shifted_length))
          (sym (ap (λ (x : Arc). x.from) (shifted_arc arc arcs walk k (omega (arith, shifted_length)))) ∙ same
          ∙ ap (λ (x : Arc). x.from) (shifted_arc arc arcs walk l (omega (arith, shifted_length)))))

      least : (k : ℕ) → 0 < k → k < length (0 ∷ map suc walk) → 0 < slice_index (0 ∷ map suc walk) k
      least zero some h = absurd (omega arith)
      least (suc k) some h = omega (arith, shifted_at walk k (omega (arith, shifted_length)))

-- an arc from a node to itself
loop_simple : (arc : Arc) (arcs : List Arc) → arc.to ≡ arc.from → IsSimpleCycle (arc ∷ arcs) (0 ∷ [])
loop_simple arc arcs same = record {
  cycle = record {
    some = omega arith;
    in_graph = in_graph;
    joined = λ k h. absurd (omega arith);
    closed = same;
  };
  no_node_twice = λ k l hk hl _. omega arith;
  least_first = λ k some h. absurd (omega arith);
}
  where
    in_graph : (k : ℕ) → k < 1 → slice_index (0 ∷ []) k < suc (length arcs)
    in_graph zero h = omega arith
    in_graph (suc k) h = absurd (omega arith)

simple_by_first : (arc : Arc) (arcs : List Arc) → (HasCycle arcs → ⊥) → HasCycle arcs ⊎ IsAtOrReached arcs arc.to arc.from →
    (walk : List ℕ) × IsSimpleCycle (arc ∷ arcs) walk
simple_by_first arc arcs none (inl is) = absurd (none is)
simple_by_first arc arcs none (inr (inl same)) = (0 ∷ [], loop_simple arc arcs same)
simple_by_first arc arcs none (inr (inr path)) =
    let way = way_of arcs arc.to arc.from path in
    (0 ∷ map suc way.0, first_and_way arc arcs way.0 none way.1)

simple_by_rest : (arc : Arc) (arcs : List Arc) → HasCycle (arc ∷ arcs) → (HasCycle arcs → (walk : List ℕ) × IsSimpleCycle arcs walk) →
    HasCycle arcs ⊎ (HasCycle arcs → ⊥) → (walk : List ℕ) × IsSimpleCycle (arc ∷ arcs) walk
simple_by_rest arc arcs cycle old (inl is) = let found = old is in (map suc found.0, shifted_simple arc arcs found.0 found.1)
simple_by_rest arc arcs cycle old (inr none) = simple_by_first arc arcs none (cycle_by_first arc arcs cycle)

pub simple_cycle : (arcs : List Arc) → HasCycle arcs → (walk : List ℕ) × IsSimpleCycle arcs walk
simple_cycle [] cycle = absurd (no_path cycle.0 cycle.0 cycle.1)
simple_cycle (arc ∷ arcs) cycle = simple_by_rest arc arcs cycle (simple_cycle arcs) (cycle_decided arcs)
