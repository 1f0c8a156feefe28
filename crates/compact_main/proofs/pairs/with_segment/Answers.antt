use Rattle.std.proofs.Common.{[]}
use Rattle.std.proofs.lemmas.Bool.{both_ways}
use Rattle.compact_main.proofs.PairSums.{not_counted, separated_counted, open_counted}
use Rattle.compact_main.proofs.pairs.with_segment.Goals as goal

pub returns-then-not-is_pair : goal.returns-then-not-is_pair
returns-then-not-is_pair c =
    not_counted _ _ _ _ c.requires.so_far (λ pair. both_ways c.is_pair.result c.if-not-is_pair.true (c.is_pair.ensures.1 pair))

pub returns-then-is_separated : goal.returns-then-is_separated
returns-then-is_separated c =
    separated_counted _ _ _ _ c.requires.so_far (c.is_pair.ensures.0 c.if-not-is_pair.false)
    ((c.is_separated.ensures [] c.requires.reach).0 c.if-is_separated.true)

pub returns-else-is_separated : goal.returns-else-is_separated
returns-else-is_separated c =
    open_counted _ _ _ _ c.requires.so_far (c.is_pair.ensures.0 c.if-not-is_pair.false)
    (λ apart. both_ways c.is_separated.result c.if-is_separated.false ((c.is_separated.ensures [] c.requires.reach).1 apart))
