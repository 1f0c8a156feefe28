use Rattle.std.proofs.lemmas.Result.{IfOk-weaker}
use Rattle.workers.proofs.FirstLemmas.{drawn_from_least}
use Rattle.workers.proofs.first.first_key.Goals as goal

pub returns-clause-drawn : goal.returns-clause-drawn
returns-clause-drawn g c =
    IfOk-weaker c.least_key.result _ _
    (λ key least. drawn_from_least g.M.Proof.Backing.objective c.args.bars.now c.in_ok-extension.extension.choices c.args.places.now key
    c.requires.drawing c.in_ok-extension.ensures.fits c.in_ok-extension.ensures.complete least)
    c.least_key.ensures
