use Rattle.std.proofs.Common.{◌≡◌, ◌++◌, drop}
use Rattle.cert_text.specs.Trims.{loads_from}
use Rattle.cert_text.proofs.trimming.loads.loads_of.Given as goal

abbrev pub invariant-loop-arc : goal.invariant-loop-arc
invariant-loop-arc l =
    l.loads ++ loads_from l.arc (drop l.arc l.fn.flow.amounts) ≡ loads_from 0 l.fn.flow.amounts
