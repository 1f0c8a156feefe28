use Rattle.separation.proofs.extension.choose_with_later.Goals as goal

pub loop-t-preserved : goal.loop-t-preserved
loop-t-preserved c = record {
  chosen = c.in_ok-choose.ensures.chosen;
  least = λ places drawing are own least. c.in_ok-choose.ensures.least places drawing are own (c.loop-t.invariant.least places drawing are own least);
}
