use Rattle.std.proofs.Common.{◌-◌, ◌<◌, length, arith}
use Rattle.std.proofs.lemmas.Int.{ints}
use Rattle.diff_flow.proofs.SurplusLemmas.{put_at}
use Rattle.diff_flow.proofs.flow.add_at.Goals as goal

pub returns-clause-values : goal.returns-clause-values
returns-clause-values c = λ k within.
    let inside : (c.args.node - c.args.first) < length c.args.sums.now = omega arith in
    put_at c.args.sums.now c.args.first c.args.node (c.args.node - c.args.first) c.args.more _ (omega arith) inside
    (omega (arith, ints, c.requires.small (c.args.node - c.args.first) inside)) k within
