use Rattle.std.proofs.Common.{◌≡◌, ◌<◌, ◌≤◌, ◌+◌, ◌⊎◌, ℕ, inl, inr, subst, arith, true, false, List}
use Rattle.std.proofs.lemmas.Bool.{cases_lt, both_ways}
use Rattle.compact_types.specs.declared.search.Choice.{Choice}
use Rattle.shape_graphs.specs.Separation.{HasSidePath}
use Rattle.separation.specs.Reaching.{IsReachOf}
use Rattle.separation.proofs.sides.is_separated.Goals as goal

pub loop-side-init : goal.loop-side-init
loop-side-init c = λ choices reach k none kept. omega arith

pub loop-side-preserved : goal.loop-side-preserved
loop-side-preserved c = λ choices reach k within kept. by_order choices reach k within kept (cases_lt k c.loop-side.side)
  where
    by_order : (choices : List Choice) → IsReachOf c.args.bars.now choices c.args.reach.now → (k : ℕ) → k < c.loop-side.side + 1 →
        HasSidePath c.args.bars.now choices c.args.s c.args.t k → (k < c.loop-side.side) ⊎ (c.loop-side.side ≤ k) → ⊥
    by_order choices reach k within kept (inl before) = c.loop-side.invariant choices reach k before kept
    by_order choices reach k within kept (inr after) =
        let here : k ≡ c.loop-side.side = omega arith in
        both_ways c.is_kept.result c.if-is_kept.false
        ((c.is_kept.ensures choices reach).1 (subst (λ (x : ℕ). HasSidePath c.args.bars.now choices c.args.s c.args.t x) here kept))

pub returns : goal.returns
returns c = λ choices reach. (
  λ holds. absurd (let e : false ≡ true = holds in cc),
  λ separated. absurd (c.loop-side.invariant choices reach separated.0 (let below = separated.1 in omega (arith, below)) separated.2),
)
