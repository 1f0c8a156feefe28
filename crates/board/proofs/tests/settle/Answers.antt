use Rattle.board.proofs.DotLemmas.{dot_least}
use Rattle.board.proofs.HistoryLaws.{first_choices}
use Rattle.board.proofs.tests.settle.Goals as goal

pub settle-requires-clause-verdict : goal.settle-requires-clause-verdict
settle-requires-clause-verdict c κs = λ known. record {
  right = rw (first_choices c.args.board.now.entries)
      (dot_least c.args.board.now.shape c.in_ok-key.key
      (record { vertices = c.requires.vertices; pieces = c.requires.pieces })
      (record { worth = c.in_ok-key.ensures.worth; places = c.in_ok-key.ensures.places }));
  backed = tt;
  attained = tt;
}
