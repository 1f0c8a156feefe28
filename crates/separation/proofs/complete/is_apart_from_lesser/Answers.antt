use Rattle.std.proofs.Common.{◌≡◌, ℕ, ◌<◌, ◌≤◌, ◌+◌, ◌⊎◌, inl, inr, true, false, subst, refl, List, arith}
use Rattle.std.proofs.lemmas.Bool.{cases_lt, both_ways}
use Rattle.compact_types.specs.declared.search.Choice.{Choice}
use Rattle.bars.specs.Segments.{IsPair}
use Rattle.shape_graphs.specs.Separation.{IsSeparated}
use Rattle.separation.specs.Reaching.{IsReachOf}
use Rattle.separation.proofs.complete.is_apart_from_lesser.Goals as goal

pub returns-then-not-is_apart_or_joined : goal.returns-then-not-is_apart_or_joined
returns-then-not-is_apart_or_joined c = λ choices reach. (
  λ holds. absurd (let e : false ≡ true = holds in cc),
  λ all. absurd (both_ways c.is_apart_or_joined.result c.if-not-is_apart_or_joined.true ((c.is_apart_or_joined.ensures choices reach).1 (all c.loop-s.s))),
)

pub loop-s-preserved : goal.loop-s-preserved
loop-s-preserved c = λ choices reach k within pair. by_order choices reach k within pair (cases_lt k c.loop-s.s)
  where
    by_order : (choices : List Choice) → IsReachOf c.args.bars.now choices c.args.reach.now → (k : ℕ) → k < c.loop-s.s + 1 → IsPair c.args.bars.now k c.args.t →
        (k < c.loop-s.s) ⊎ (c.loop-s.s ≤ k) → IsSeparated c.args.bars.now choices k c.args.t
    by_order choices reach k within pair (inl before) = c.loop-s.invariant choices reach k before pair
    by_order choices reach k within pair (inr after) =
        let here : c.loop-s.s ≡ k = omega arith in
        subst (λ (s : ℕ). IsPair c.args.bars.now s c.args.t → IsSeparated c.args.bars.now choices s c.args.t) here
        ((c.is_apart_or_joined.ensures choices reach).0 c.if-not-is_apart_or_joined.false) pair

pub returns : goal.returns
returns c = λ choices reach. (
  λ holds s pair. c.loop-s.invariant choices reach s (let less = pair.in_order in let done = c.loop-s-test.false in omega (arith, less, done)) pair,
  λ all. refl,
)
