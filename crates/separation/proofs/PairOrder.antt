-- Pairs in the order of their numbers.
use Rattle.std.proofs.Common.{◌≡◌, ◌<◌, ◌≤◌, ℕ, ◌⊎◌, inl, inr, subst, arith}
use Rattle.std.proofs.lemmas.Bool.{cases_order}
use Rattle.compact_types.specs.declared.plan.Shape.{Shape}
use Rattle.bars.specs.Segments.{segment_count, IsPair, IsOnSegment, ShareVertex}
use Rattle.bars.proofs.Laws.{vertex_on}

-- of two segments without a common vertex the one with the lesser number stands first
pub turned_pair : (shape : Shape) (a b : ℕ) → a < segment_count shape → b < segment_count shape → b ≤ a → (ShareVertex shape a b → ⊥) → IsPair shape b a
turned_pair shape a b a_within b_within order apart =
    record { in_order = by_order (cases_order a b); in_shape = a_within; apart = λ share. apart (share.0, share.2, share.1) }
  where
    by_order : (a ≡ b) ⊎ ((a < b) ⊎ (b < a)) → b < a
    by_order (inl same) =
        let on = vertex_on shape a a_within in absurd (apart (on.0, on.1, subst (λ (x : ℕ). IsOnSegment shape x on.0) same on.1))
    by_order (inr (inl less)) = absurd (omega (arith, order, less))
    by_order (inr (inr more)) = more
