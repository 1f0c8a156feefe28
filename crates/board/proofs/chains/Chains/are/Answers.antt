use Rattle.std.proofs.lemmas.Bool.{eqb-true, eq-eqb}
use Rattle.board.proofs.ChainLemmas.{walk_end}
use Rattle.board.proofs.chains.Chains.are.Goals as goal

pub returns : goal.returns
returns c =
    let ends = walk_end _ _ _ _ _ c.loop-step.invariant c.in_default.ensures.1 in
    ((λ zero. ends.1 (eqb-true _ _ zero)), (λ same. eq-eqb _ _ (ends.0 same)))
