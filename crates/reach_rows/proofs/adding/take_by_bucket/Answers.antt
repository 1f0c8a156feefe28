use Rattle.std.proofs.Common.{◌≡◌, ◌<◌, ◌-◌, length, slice_index, refl, arith}
use Rattle.std.proofs.lemmas.List.{get_or_read}
use Rattle.reach_rows.specs.inner.Buckets.{IsLastIn}
use Rattle.reach_rows.proofs.BucketLemmas.{none_from, all_from, bucket_begins, bucket_ends, entry_taken}
use Rattle.reach_rows.proofs.adding.take_by_bucket.Goals as goal

pub loop-number-init : goal.loop-number-init
loop-number-init c = record {
  within = omega arith;
  taken = none_from c.args.words c.args.nodes _ c.args.bits.now c.args.arcs.now c.args.numbers.now c.requires.ends c.requires.one_for_each c.requires.have refl c.requires.none;
}

pub loop-entry-init : goal.loop-entry-init
loop-entry-init c =
    let number = c.loop-number.number - 1 in
    let inside : number < length c.args.numbers.now = omega (arith, c.loop-number.invariant.within) in
    let is : c.index-entry.result.now ≡ slice_index c.args.buckets.now.last.items number =
    get_or_read c.args.buckets.now.last.items number _ (omega (arith, c.requires.buckets.one_for_each_number)) c.index-entry.ensures 0 in
    let last : IsLastIn c.args.arcs.now c.args.numbers.now (length c.args.arcs.now) number c.index-entry.result.now = rw is (c.requires.buckets.last_of number inside) in
    record {
      inside = last.within;
      in_bucket = last.inside;
      taken = bucket_begins c.args.words c.args.nodes number c.loop-number.bits c.args.arcs.now c.args.numbers.now c.loop-number.number c.index-entry.result.now (omega arith) last
          c.loop-number.invariant.taken;
    }

pub loop-number-preserved : goal.loop-number-preserved
loop-number-preserved c = record {
  within = omega (arith, c.loop-number.invariant.within);
  taken = bucket_ends c.args.words c.args.nodes (c.loop-number.number - 1) c.loop-entry.bits c.args.arcs.now c.args.numbers.now c.loop-entry.entry (omega arith)
      c.loop-entry.invariant.taken;
}

pub loop-entry-preserved : goal.loop-entry-preserved
loop-entry-preserved c =
    let number = c.loop-number.number - 1 in
    let j = c.loop-entry.entry - 1 in
    let some = c.loop-entry-test.true in
    let in_graph : j < length c.args.arcs.now = omega (arith, c.loop-entry.invariant.inside) in
    let in_bucket = c.loop-entry.invariant.in_bucket some in
    let is : c.index-entry-in-loop-entry.result.now ≡ slice_index c.args.buckets.now.before.items j =
    get_or_read c.args.buckets.now.before.items j _ (omega (arith, c.requires.buckets.one_for_each_arc)) c.index-entry-in-loop-entry.ensures 0 in
    let last : IsLastIn c.args.arcs.now c.args.numbers.now j number c.index-entry-in-loop-entry.result.now = rw is (c.requires.buckets.before_of j number in_graph in_bucket) in
    record {
      inside = omega (arith, last.within);
      in_bucket = last.inside;
      taken = entry_taken c.args.words c.args.nodes number c.loop-entry.entry c.index-entry-in-loop-entry.result.now j c.loop-entry.bits c.take_row.new.bits c.args.arcs.now
          c.args.numbers.now c.requires.wide c.requires.ends c.requires.solution c.requires.within (omega arith) c.loop-entry.invariant.inside in_bucket last
          c.loop-entry.invariant.taken c.take_row.ensures;
    }

pub returns : goal.returns
returns c =
    all_from c.args.words c.args.nodes c.loop-number.number c.loop-number.bits c.args.arcs.now c.args.numbers.now c.requires.ends c.requires.one_for_each c.requires.have
    (omega arith) c.loop-number.invariant.taken
