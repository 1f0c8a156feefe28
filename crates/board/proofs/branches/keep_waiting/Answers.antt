use Rattle.std.proofs.Common.{◌≡◌, ◌<◌, ◌-◌, length, slice_index, sym, ◌∙◌, arith}
use Rattle.std.proofs.lemmas.Bool.{both_ways}
use Rattle.std.proofs.lemmas.Option.{get_or_from_slice_get, slice_get_within}
use Rattle.board.specs.declared.standings.Standing.TheVariants.{Waiting}
use Rattle.board.proofs.ChainLemmas.{any_default}
use Rattle.board.proofs.StackLemmas.{hold_popped}
use Rattle.board.proofs.branches.keep_waiting.Goals as goal

pub loop-id-preserved : goal.loop-id-preserved
loop-id-preserved c =
    let items = c.loop-id.waiting.items in
    let standings = c.args.standings.now in
    let id = c.in-Some.id.now in
    let found = rw c.deref.ensures.value at c.in-Some.ensures.value in
    let within = slice_get_within items (length items - 1) id (sym found) in
    let some : 0 < length items = omega (arith, within) in
    let last : slice_index items (length items - 1) ≡ id = get_or_from_slice_get items (length items - 1) id 0 (sym found) in
    let bound = c.loop-id.invariant.rising.below (length items - 1) within in
    let below : id < length standings = omega (arith, bound, last) in
    let long : c.loop-id.waiting.len ≡ length items = c.loop-id.waiting.ok.0 in
    rw (c.pop-gone.ensures.rest, long)
    (hold_popped standings items id c.loop-id.invariant some last
    (λ waits. both_ways c.waits.result c.if-waits.false (c.waits.ensures.1 (any_default standings id Waiting _ below ∙ waits))))
