use Rattle.compact_main.proofs.ShownBest.{drawn_certified}
use Rattle.compact_main.proofs.draw.write_certified.Goals as goal

pub returns : goal.returns
returns c =
    drawn_certified c.args.drawing c.args.pitch c.args.best.now.key.places c.in_ok-tree.tree.nodes c.in_ok-text.text
    c.with_certificate.result c.in_ok-text.ensures c.in_ok-tree.ensures.accepted c.in_ok-tree.ensures.shallow c.with_certificate.ensures
