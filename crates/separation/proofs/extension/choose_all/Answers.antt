use Rattle.std.proofs.Common.{◌+◌, refl, arith}
use Rattle.separation.proofs.ChoosingLemmas.{next_row, extension_from}
use Rattle.separation.proofs.extension.choose_all.Goals as goal

pub loop-s-preserved : goal.loop-s-preserved
loop-s-preserved c = record {
  chosen = next_row c.args.bars.now c.choose_with_later.new.reach c.choose_with_later.new.extension.choices c.loop-s.s (c.loop-s.s + 1) (c.loop-s.s + 1 + 1) refl (omega arith)
      c.in_ok-choose_with_later.ensures.chosen;
  least = λ places drawing are own least.
      c.in_ok-choose_with_later.ensures.least places drawing are own (c.loop-s.invariant.least places drawing are own least);
}

pub returns : goal.returns
returns c = λ places drawing are own.
    extension_from c.args.bars.now places c.loop-s.reach c.loop-s.extension.choices c.loop-s.s (c.loop-s.s + 1)
    (let done = c.loop-s-test.false in let count = c.bars-s-end.ensures in omega (arith, done, count)) c.loop-s.invariant.chosen
    (c.loop-s.invariant.least places drawing are own (λ j none. absurd (omega arith)))
