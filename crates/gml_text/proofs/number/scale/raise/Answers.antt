use Rattle.std.proofs.Common.{refl}
use Rattle.gml_text.proofs.PowersOfTen.{many_tens}
use Rattle.gml_text.proofs.number.scale.raise.Goals as goal

pub returns-then-tens-gt13 : goal.returns-then-tens-gt13
returns-then-tens-gt13 c = (refl, many_tens c.args.number c.args.tens c.requires c.if-tens-gt13.true)
