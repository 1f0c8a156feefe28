use Rattle.std.proofs.Common.{[], ◌∷◌}
use Rattle.cert_text.proofs.TreeLaws.{shallower_from}
use Rattle.cert_text.proofs.law.certificates.shallower.Goals as goal

pub returns : goal.returns
returns c = λ most more nodes low shallow. shallower_from most more nodes (0 ∷ []) low shallow
