use Rattle.separation.specs.inner.Choosing.{AreChosenSince}
use Rattle.separation.proofs.extension.choose_with_later.Given as goal

abbrev pub invariant-loop-t : goal.invariant-loop-t
invariant-loop-t l = AreChosenSince l.bars l.extents l.reach l.initial.extension.choices l.extension.choices l.s l.t
