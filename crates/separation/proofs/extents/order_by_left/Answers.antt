use Rattle.std.proofs.Common.{rules}
use Rattle.std.proofs.lemmas.Fn.{always_returns_same}
use Rattle.separation.specs.declared.extents.SegmentExtent.{SegmentExtent}
use Rattle.separation.proofs.EndLemmas.{order_from_sort}
use Rattle.separation.proofs.extents.order_by_left.Goals as goal

pub returns-clause-in_order : goal.returns-clause-in_order
returns-clause-in_order c =
    order_from_sort _ (c.sort_unstable_by_key.ensures.sorted (λ (extent : SegmentExtent). extent.left)
    (always_returns_same _ _ _ (λ a r q k. search rules)))
