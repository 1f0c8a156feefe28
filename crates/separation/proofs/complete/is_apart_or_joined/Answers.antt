use Rattle.std.proofs.lemmas.Bool.{both_ways}
use Rattle.separation.proofs.complete.is_apart_or_joined.Goals as goal

pub returns : goal.returns
returns c = λ choices reach. (
  λ holds pair. (c.is_separated.ensures choices reach).0 holds,
  λ apart. (c.is_separated.ensures choices reach).1 (apart (record {
    in_order = c.requires.s;
    in_shape = c.requires.t;
    apart = λ share. both_ways c.share_vertex.result c.if-share_vertex.false (c.share_vertex.ensures.1 share);
  })),
)
