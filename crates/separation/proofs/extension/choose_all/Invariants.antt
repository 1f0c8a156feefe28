use Rattle.std.proofs.Common.{◌+◌, []}
use Rattle.separation.specs.inner.Choosing.{AreChosenSince}
use Rattle.separation.proofs.extension.choose_all.Given as goal

abbrev pub invariant-loop-s : goal.invariant-loop-s
invariant-loop-s l = AreChosenSince l.bars l.extents l.reach [] l.extension.choices l.s (l.s + 1)
