use Rattle.std.proofs.Common.{◌≡◌, ℕ, ◌<◌, ◌≤◌, ◌+◌, ◌⊎◌, inl, inr, true, false, subst, refl, List, arith}
use Rattle.std.proofs.lemmas.Bool.{cases_lt, both_ways}
use Rattle.compact_types.specs.declared.search.Choice.{Choice}
use Rattle.bars.specs.Segments.{IsPair}
use Rattle.shape_graphs.specs.Separation.{IsSeparated}
use Rattle.separation.specs.Reaching.{IsReachOf}
use Rattle.separation.proofs.complete.is_complete.Goals as goal

pub returns-then-not-is_apart_from_lesser : goal.returns-then-not-is_apart_from_lesser
returns-then-not-is_apart_from_lesser c = λ choices reach. (
  λ holds. absurd (let e : false ≡ true = holds in cc),
  λ complete. absurd (both_ways c.is_apart_from_lesser.result c.if-not-is_apart_from_lesser.true
      ((c.is_apart_from_lesser.ensures choices reach).1 (λ s pair. complete s c.loop-t.t pair))),
)

pub loop-t-preserved : goal.loop-t-preserved
loop-t-preserved c = λ choices reach s k within pair. by_order choices reach s k within pair (cases_lt k c.loop-t.t)
  where
    by_order : (choices : List Choice) → IsReachOf c.args.bars.now choices c.args.reach.now → (s k : ℕ) → k < c.loop-t.t + 1 → IsPair c.args.bars.now s k →
        (k < c.loop-t.t) ⊎ (c.loop-t.t ≤ k) → IsSeparated c.args.bars.now choices s k
    by_order choices reach s k within pair (inl before) = c.loop-t.invariant choices reach s k before pair
    by_order choices reach s k within pair (inr after) =
        let here : c.loop-t.t ≡ k = omega arith in
        subst (λ (t : ℕ). IsPair c.args.bars.now s t → IsSeparated c.args.bars.now choices s t) here
        ((c.is_apart_from_lesser.ensures choices reach).0 c.if-not-is_apart_from_lesser.false s) pair

pub returns : goal.returns
returns c = λ choices reach. (
  λ holds s t pair. c.loop-t.invariant choices reach s t (let below = pair.in_shape in let done = c.loop-t-test.false in let count = c.bars-t-end.ensures in omega (arith, below, done, count)) pair,
  λ complete. refl,
)
