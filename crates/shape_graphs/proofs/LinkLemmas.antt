-- The arcs into each node as linked rows.
use Rattle.std.proofs.Common.{◌≡◌, ℕ, suc, ◌<◌, ◌≤◌, ◌-◌, List, [], ◌∷◌, ◌++◌, length, slice_index, set, replicate, ◌⊎◌, inl, inr, sym, ap, ◌∙◌, subst, arith}
use Rattle.std.proofs.Math.ListN.{length-set}
use Rattle.std.proofs.lemmas.Bool.{cases_lt}
use Rattle.std.proofs.lemmas.List.{length_push, length-replicate, get_or-replicate}
use Rattle.shape_graphs.specs.declared.graph.Arc.{Arc}
use Rattle.shape_graphs.specs.Arcs.{arc_at, EndsAreNodes}
use Rattle.shape_graphs.specs.inner.Trails.{IsLastInto, AreLinked, AreLast}
use Rattle.shape_graphs.proofs.ListCases.{Written, written, Pushed, pushed}

-- no arc yet
pub none_last : (nodes : ℕ) (arcs : List Arc) (last : List ℕ) → last ≡ replicate nodes 0 → AreLast nodes arcs 0 last
none_last nodes arcs last is = record {
  one_for_each = ap length is ∙ length-replicate nodes 0;
  each = λ v within.
      let none : slice_index last v ≡ 0 = ap (λ (l : List ℕ). slice_index l v) is ∙ get_or-replicate nodes v 0 0 within in
      record { within = omega (arith, none); ends = λ more. absurd (omega (arith, none, more)); none_between = λ j low high ends. absurd (omega arith) };
}

pub none_linked : (arcs : List Arc) (before : List ℕ) → before ≡ [] → AreLinked arcs 0 before
none_linked arcs before is = record { one_for_each = ap length is; each = λ i within. absurd (omega arith) }

-- one arc more
module _ (nodes : ℕ) (arcs : List Arc) (i : ℕ) (last before : List ℕ) (within : i < length arcs) (ends : EndsAreNodes nodes arcs)
    (are_last : AreLast nodes arcs i last) (linked : AreLinked arcs i before) where
  abbrev node : ℕ
  node = (arc_at arcs i).to

  node_inside : node < length last
  node_inside = let in_graph : node < nodes = (ends i within).1 in omega (arith, in_graph, are_last.one_for_each)

  last_at : (v : ℕ) → v < nodes → Written 0 last node (suc i) v → IsLastInto arcs (suc i) v (slice_index (set last node (suc i)) v)
  last_at v in_graph (inl same) = rw same.1 (record {
    within = omega arith;
    ends = λ more. let number : suc i - 1 ≡ i = omega arith in ap (λ (j : ℕ). (arc_at arcs j).to) number ∙ sym same.0;
    none_between = λ j low high to. absurd (omega arith);
  })
  last_at v in_graph (inr other) =
      let old : IsLastInto arcs i v (slice_index last v) = are_last.each v in_graph in
      rw other.1 (record {
        within = omega (arith, old.within);
        ends = old.ends;
        none_between = λ j low high to. by_place old j low to (cases_lt j i) high;
      })
    where
      by_place : IsLastInto arcs i v (slice_index last v) → (j : ℕ) → slice_index last v ≤ j → (arc_at arcs j).to ≡ v → (j < i) ⊎ (i ≤ j) → j < suc i → ⊥
      by_place old j low to (inl before) high = old.none_between j low before to
      by_place old j low to (inr behind) high =
          let here : j ≡ i = omega arith in
          other.0 (sym to ∙ ap (λ (k : ℕ). (arc_at arcs k).to) here)

  pub more_last : (new : List ℕ) (n : ℕ) → n ≡ suc i → new ≡ set last node (suc i) → AreLast nodes arcs n new
  more_last new n is_n is = rw (is_n, is) (record {
    one_for_each = length-set last node (suc i) ∙ are_last.one_for_each;
    each = λ v in_graph. last_at v in_graph (written 0 last node (suc i) v node_inside);
  })

  linked_at : (k : ℕ) → Pushed 0 before (slice_index last node) k → IsLastInto arcs k (arc_at arcs k).to (slice_index (before ++ slice_index last node ∷ []) k)
  linked_at k (inl old) = rw old.1 (linked.each k (omega (arith, linked.one_for_each, old.0)))
  linked_at k (inr here) =
      let same : k ≡ i = here.0 ∙ linked.one_for_each in
      let P : ℕ → Type 0 = λ m. IsLastInto arcs m (arc_at arcs m).to (slice_index last node) in
      rw here.1 (subst P (sym same) (are_last.each node (ends i within).1))

  pub more_linked : (new : List ℕ) (n : ℕ) → n ≡ suc i → new ≡ before ++ slice_index last node ∷ [] → AreLinked arcs n new
  more_linked new n is_n is = rw (is_n, is) (record {
    one_for_each = length_push before (slice_index last node) ∙ omega (arith, linked.one_for_each);
    each = λ k h. linked_at k (pushed 0 before (slice_index last node) k (omega (arith, length_push before (slice_index last node), linked.one_for_each)));
  })
