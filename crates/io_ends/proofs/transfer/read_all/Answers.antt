use Rattle.std.proofs.Common.{◌++◌, take}
use Rattle.std.proofs.KnownBytes.{Consumes-trans}
use Rattle.std.proofs.lemmas.Result.{err_from_is_err_and}
use Rattle.io_ends.proofs.transfer.read_all.Goals as goal

pub returns-in_err-add_within-in-Got-clause-given : goal.returns-in_err-add_within-in-Got-clause-given
returns-in_err-add_within-in-Got-clause-given g c =
    let more = take c.in-Got.count c.read.new.into in
    let refused = err_from_is_err_and c.from_residual.result c.from_residual.ensures.1 in
    rw (refused.1, refused.2)
    (c.loop-count.bytes ++ more, Consumes-trans _ _ _ _ _ c.loop-count.invariant.1 c.in-Got.ensures.moved.next, c.in_err-add_within-in-Got.ensures.over)
