-- Two segments share a vertex or not, and the shape alone keeps them apart or not.
use Rattle.std.proofs.Common.{◌≡◌, ℕ, zero, suc, ◌<◌, ◌≤◌, List, [], ◌⊎◌, inl, inr, subst, arith}
use Rattle.std.proofs.lemmas.Bool.{cases_eq, cases_lt}
use Rattle.compact_types.specs.declared.plan.Shape.{Shape}
use Rattle.compact_types.specs.declared.search.Choice.{Choice}
use Rattle.bars.specs.Lines.{line_of}
use Rattle.bars.specs.Segments.{segment_at, segment_count, ShareVertex, IsPair}
use Rattle.bars.specs.Sides.{side_axis}
use Rattle.shape_graphs.specs.Graphs.{side_arc, arcs_of}
use Rattle.shape_graphs.specs.Separation.{HasSidePath, IsSeparated}
use Rattle.shape_graphs.proofs.Laws.{path_decided}
use Rattle.compact_main.specs.Summaries.{IsSeparatedPair}
use Rattle.compact_main.proofs.DecidableFacts.{IsDecided, both}

-- some number below n has P, or none has
some_below : (P : ℕ → Type 0) → ((i : ℕ) → IsDecided (P i)) → (n : ℕ) → IsDecided ((i : ℕ) × (i < n) × P i)
some_below P each zero = inr (λ found. omega (arith, found.1))
some_below P each (suc n) = by (some_below P each n) (each n)
  where
    by_order : (i : ℕ) → i < suc n → P i → ((i : ℕ) × (i < n) × P i → ⊥) → (P n → ⊥) → (i < n) ⊎ (n ≤ i) → ⊥
    by_order i below p none last (inl less) = none (i, less, p)
    by_order i below p none last (inr at) = let same : i ≡ n = omega arith in last (subst P same p)

    by : IsDecided ((i : ℕ) × (i < n) × P i) → IsDecided (P n) → IsDecided ((i : ℕ) × (i < suc n) × P i)
    by (inl (i, below, p)) last = inl (i, omega (arith, below), p)
    by (inr none) (inl p) = inl (n, omega arith, p)
    by (inr none) (inr last) = inr (λ found. by_order found.0 found.1 found.2 none last (cases_lt found.0 n))

below_or_not : (m n : ℕ) → IsDecided (m < n)
below_or_not m n = by (cases_lt m n)
  where
    by : (m < n) ⊎ (n ≤ m) → IsDecided (m < n)
    by (inl less) = inl less
    by (inr most) = inr (λ less. omega arith)

module _ (shape : Shape) where
  abbrev InLine : ℕ → ℕ → Type 0
  InLine s v = line_of (segment_at shape s).axis shape v ≡ (segment_at shape s).line

  share_or_not : (s t : ℕ) → IsDecided (ShareVertex shape s t)
  share_or_not s t =
      by (some_below (λ v. InLine s v × InLine t v)
      (λ v. both {P = InLine s v} {Q = InLine t v} (cases_eq _ _) (cases_eq _ _)) shape.plan.vertices)
    where
      by : IsDecided ((v : ℕ) × (v < shape.plan.vertices) × (InLine s v × InLine t v)) → IsDecided (ShareVertex shape s t)
      by (inl (v, vertex, (on, too))) =
          inl (v, record { is_vertex = vertex; in_line = on }, record { is_vertex = vertex; in_line = too })
      by (inr none) = inr (λ share. none (share.0, share.1.is_vertex, (share.1.in_line, share.2.in_line)))

  -- they are a pair, or none
  pub pair_or_not : (s t : ℕ) → IsDecided (IsPair shape s t)
  pair_or_not s t = by (both (below_or_not s t) (below_or_not t (segment_count shape))) (share_or_not s t)
    where
      by : IsDecided ((s < t) × (t < segment_count shape)) → IsDecided (ShareVertex shape s t) → IsDecided (IsPair shape s t)
      by (inl (order, inside)) (inl share) = inr (λ pair. pair.apart share)
      by (inl (order, inside)) (inr apart) = inl (record { in_order = order; in_shape = inside; apart = apart })
      by (inr none) share = inr (λ pair. none (pair.in_order, pair.in_shape))

  -- choices keep them apart, or not
  pub separated_or_not : (choices : List Choice) (s t : ℕ) → IsDecided (IsSeparated shape choices s t)
  separated_or_not choices s t =
      some_below (λ side. HasSidePath shape choices s t side)
      (λ side. path_decided (arcs_of (side_axis side) shape choices) (side_arc shape s t side).from (side_arc shape s t side).to) 4

  pub separated_pair_or_not : (s t : ℕ) → IsDecided (IsSeparatedPair shape s t)
  separated_pair_or_not s t = both (pair_or_not s t) (separated_or_not [] s t)
