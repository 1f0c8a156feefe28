use Rattle.compact_main.proofs.CommandOutputs.{drawn_verified}
use Rattle.compact_main.proofs.law.what_draw_writes_is_proved.Goals as goal

pub returns : goal.returns
returns c = drawn_verified
