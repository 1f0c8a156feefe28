use Rattle.std.proofs.Common.{[], ◌∷◌, arith}
use Rattle.cert_text.proofs.Laws.{shallower_from, whole_shallow}
use Rattle.cert_check.proofs.tests.examples.answer.Goals as goal

pub check_cert-requires-clause-shallow : goal.check_cert-requires-clause-shallow
check_cert-requires-clause-shallow c =
    let nodes = c.in-Ok.found.1.nodes in
    let few = c.in-Ok.ensures.few in
    let short = c.if-text-gt1000.false in
    shallower_from _ _ nodes (0 ∷ []) (omega (arith, few, short)) (whole_shallow nodes c.in-Ok.ensures.answer.value.tree.whole)
