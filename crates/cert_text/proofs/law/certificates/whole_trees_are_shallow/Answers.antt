use Rattle.cert_text.proofs.TreeLaws.{whole_shallow}
use Rattle.cert_text.proofs.law.certificates.whole_trees_are_shallow.Goals as goal

pub returns : goal.returns
returns c = λ nodes whole. whole_shallow nodes whole
