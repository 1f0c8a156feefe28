use Rattle.std.proofs.Common.{◌-◌, length}
use Rattle.cert_text.proofs.ReadHeads.{HasNoHeadFrom}
use Rattle.cert_text.proofs.reading.heads.last_head.Given as goal

abbrev pub invariant-loop-step : goal.invariant-loop-step
invariant-loop-step l = HasNoHeadFrom l.text (length l.text - l.step)
