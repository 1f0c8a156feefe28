use Rattle.std.proofs.Common.{ap, ◌∙◌}
use Rattle.board.proofs.Laws.{dot_least}
use Rattle.ticket_board.proofs.tests.settle_first.Goals as goal

pub settle-requires-clause-verdict : goal.settle-requires-clause-verdict
settle-requires-clause-verdict g c κs within = record {
  right = rw c.requires.choices
      (dot_least c.args.pass.now.home.shape c.in_ok-key.key
      (record {
        vertices = ap (λ home. home.shape.plan.vertices) c.requires.home ∙ c.requires.vertices;
        pieces = ap (λ home. home.shape.plan.pieces) c.requires.home ∙ c.requires.pieces;
      })
      (record { worth = c.in_ok-key.ensures.worth; places = c.in_ok-key.ensures.places }));
  backed = tt;
  attained = tt;
}
