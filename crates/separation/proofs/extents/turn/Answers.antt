use Rattle.std.proofs.Common.{refl, arith}
use Rattle.separation.proofs.EndLemmas.{turned_one_more}
use Rattle.separation.proofs.extents.turn.Goals as goal

pub loop-k-init : goal.loop-k-init
loop-k-init c = record { done = λ k none. absurd (omega (arith, none)); rest = λ k past. refl }

pub loop-k-preserved : goal.loop-k-preserved
loop-k-preserved c =
    turned_one_more c.loop-k.k _ c.args.extents.now c.loop-k.extents c.turned.result refl
    (let below = c.loop-k-test.true in let len = c.loop-k.auto.extents in omega (arith, below, len)) c.turned.ensures c.loop-k.invariant

pub returns-clause-turned : goal.returns-clause-turned
returns-clause-turned c = λ k within. c.loop-k.invariant.done k (let done = c.loop-k-test.false in omega (arith, done, within)) within
