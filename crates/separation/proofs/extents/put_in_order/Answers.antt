use Rattle.std.proofs.Common.{◌≡◌, ◌<◌, ℕ, length, ◌∙◌, arith}
use Rattle.bars.specs.Segments.{segment_count}
use Rattle.separation.specs.inner.Extents.{extent_at}
use Rattle.separation.proofs.EndLemmas.{segments_turned, extents_turned}
use Rattle.separation.proofs.SortedSegments.{sorted_in_shape, sorted_extents, each_seen}
use Rattle.separation.proofs.extents.put_in_order.Goals as goal

pub returns-clause-in_shape : goal.returns-clause-in_shape
returns-clause-in_shape c =
    let len = c.put_extents.ensures.len ∙ c.requires.one_for_each in
    let fits : length c.turn_if_higher.new.extents ≡ segment_count c.args.bars.now = c.turn_if_higher.ensures.len ∙ len in
    let own : (s : ℕ) → s < segment_count c.args.bars.now → (extent_at c.put_extents.new.extents s).segment ≡ s =
    (λ s within. c.put_extents.ensures.segment s (let is = c.requires.one_for_each in omega (arith, within, is))) in
    sorted_in_shape c.args.bars.now c.turn_if_higher.new.extents c.order_by_left.new.extents c.order_by_left.ensures.permutation fits
    (segments_turned c.turn_if_higher.ensures.turned.0 c.put_extents.new.extents c.turn_if_higher.new.extents (segment_count c.args.bars.now) len c.turn_if_higher.ensures.turned.1 own)

pub returns-clause-seen : goal.returns-clause-seen
returns-clause-seen c =
    let len = c.put_extents.ensures.len ∙ c.requires.one_for_each in
    let fits : length c.turn_if_higher.new.extents ≡ segment_count c.args.bars.now = c.turn_if_higher.ensures.len ∙ len in
    let own : (s : ℕ) → s < segment_count c.args.bars.now → (extent_at c.put_extents.new.extents s).segment ≡ s =
    (λ s within. c.put_extents.ensures.segment s (let is = c.requires.one_for_each in omega (arith, within, is))) in
    each_seen c.args.bars.now c.turn_if_higher.new.extents c.order_by_left.new.extents c.order_by_left.ensures.permutation fits
    (segments_turned c.turn_if_higher.ensures.turned.0 c.put_extents.new.extents c.turn_if_higher.new.extents (segment_count c.args.bars.now) len c.turn_if_higher.ensures.turned.1 own)

pub returns-clause-extents : goal.returns-clause-extents
returns-clause-extents c = λ ways. (
  c.turn_if_higher.ensures.turned.0,
  sorted_extents c.turn_if_higher.ensures.turned.0 c.args.bars.now c.args.places.now c.turn_if_higher.new.extents c.order_by_left.new.extents c.order_by_left.ensures.permutation
      (extents_turned c.turn_if_higher.ensures.turned.0 c.args.bars.now c.args.places.now c.put_extents.new.extents c.turn_if_higher.new.extents c.turn_if_higher.ensures.len
      c.turn_if_higher.ensures.turned.1 (c.put_extents.ensures.extents ways)),
)
