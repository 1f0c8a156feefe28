-- The lesser numbers of two solutions.
use Rattle.std.proofs.Common.{◌≡◌, ℕ, ℤ, sym, ap, ◌∙◌, arith, List, length}
use Rattle.std.specs.Prelude.{◌+ℤ◌, ◌*ℤ◌, ◌≤ℤ◌, ◌-ℤ◌}
use Rattle.std.specs.Int.{int_min, int_max}
use Rattle.std.proofs.lemmas.Int.{ints, clamps}
use Rattle.compact_types.proofs.Laws.{sum_to-same, sum_to-add}
use Rattle.shape_graphs.specs.declared.graph.Arc.{Arc}
use Rattle.shape_graphs.specs.Arcs.{arc_at}
use Rattle.shape_graphs.specs.Flows.{length_over}
use Rattle.diff_flow.specs.Tight.{AreTight}
use Rattle.diff_flow.specs.Shortest.{IsShortest, lesser}
use Rattle.compact_types.proofs.Laws.{times-add}

lesser_meets : (a b c d l : ℤ) → l ≤ℤ (b -ℤ a) → l ≤ℤ (d -ℤ c) → l ≤ℤ (int_min b d -ℤ int_min a c)
lesser_meets a b c d l h k = omega (arith, ints, clamps)

greater_meets : (a b c d l : ℤ) → l ≤ℤ (b -ℤ a) → l ≤ℤ (d -ℤ c) → l ≤ℤ (int_max b d -ℤ int_max a c)
greater_meets a b c d l h k = omega (arith, ints, clamps)

lesser_tight : (a b c d l : ℤ) → b -ℤ a ≡ l → d -ℤ c ≡ l → int_min b d -ℤ int_min a c ≡ l
lesser_tight a b c d l h k = omega (arith, ints, clamps)

both : (a b c d : ℤ) → (int_min b d -ℤ int_min a c) +ℤ (int_max b d -ℤ int_max a c) ≡ (b -ℤ a) +ℤ (d -ℤ c)
both a b c d = omega (arith, ints, clamps)

-- the lesser and the greater numbers together are as long as the two
lengths_meet : (arcs : List Arc) (p q : ℕ → ℤ) →
    length_over arcs (lesser p q) +ℤ length_over arcs (λ v. int_max (p v) (q v)) ≡ length_over arcs p +ℤ length_over arcs q
lengths_meet arcs p q =
    sym (sum_to-add _ _ (length arcs))
    ∙ sum_to-same _ _ (length arcs) (λ i inside. term (arc_at arcs i))
    ∙ sum_to-add _ _ (length arcs)
  where
    term : (arc : Arc) → arc.pull *ℤ (lesser p q arc.to -ℤ lesser p q arc.from)
        +ℤ arc.pull *ℤ (int_max (p arc.to) (q arc.to) -ℤ int_max (p arc.from) (q arc.from))
        ≡ arc.pull *ℤ (p arc.to -ℤ p arc.from) +ℤ arc.pull *ℤ (q arc.to -ℤ q arc.from)
    term arc =
        sym (times-add arc.pull _ _)
        ∙ ap (λ (z : ℤ). arc.pull *ℤ z) (both (p arc.from) (p arc.to) (q arc.from) (q arc.to))
        ∙ times-add arc.pull _ _

pub shortest_meet : (arcs : List Arc) (p q : ℕ → ℤ) → IsShortest arcs p → IsShortest arcs q → IsShortest arcs (lesser p q)
shortest_meet arcs p q first second = record {
  solution = λ i inside. lesser_meets (p (arc_at arcs i).from) (p (arc_at arcs i).to) (q (arc_at arcs i).from) (q (arc_at arcs i).to) _ (first.solution i inside) (second.solution i inside);
  shortest = λ others is.
      let met = lengths_meet arcs p q in
      let high = first.shortest (λ v. int_max (p v) (q v))
      (λ i inside. greater_meets (p (arc_at arcs i).from) (p (arc_at arcs i).to) (q (arc_at arcs i).from) (q (arc_at arcs i).to) _ (first.solution i inside) (second.solution i inside)) in
      let low = second.shortest others is in
      omega (arith, ints, met, high, low);
}

pub tight_meet : (nodes : ℕ) (arcs : List Arc) (amounts : List ℕ) (p q : ℕ → ℤ) →
    AreTight nodes arcs amounts p → AreTight nodes arcs amounts q → AreTight nodes arcs amounts (lesser p q)
tight_meet nodes arcs amounts p q first second = record {
  from_zero = λ v inside. let a = first.from_zero v inside in let b = second.from_zero v inside in omega (arith, ints, clamps, a, b);
  solution = λ i inside. lesser_meets (p (arc_at arcs i).from) (p (arc_at arcs i).to) (q (arc_at arcs i).from) (q (arc_at arcs i).to) _ (first.solution i inside) (second.solution i inside);
  tight = λ i inside some. lesser_tight (p (arc_at arcs i).from) (p (arc_at arcs i).to) (q (arc_at arcs i).from) (q (arc_at arcs i).to) _ (first.tight i inside some) (second.tight i inside some);
}
