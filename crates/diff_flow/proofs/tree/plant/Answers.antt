use Rattle.std.proofs.Common.{refl}
use Rattle.diff_flow.proofs.TreeLemmas.{planted}
use Rattle.diff_flow.proofs.tree.plant.Goals as goal

pub returns-clause-tree : goal.returns-clause-tree
returns-clause-tree c = λ steps amounts numbers.
    rw c.in_ok-push.ensures.items
    (planted c.args.nodes steps amounts numbers c.args.start c.args.most _ c.args.tree.now.entries.items c.args.tree.now.places.items
    c.requires.start c.requires.some refl refl c.requires.blank)
