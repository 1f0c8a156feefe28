use Rattle.compact_main.proofs.OptionWords.{workers_twice, with_team}
use Rattle.compact_main.proofs.options.workers_first.Goals as goal

pub returns-in-Some : goal.returns-in-Some
returns-in-Some c = λ words are. workers_twice words c.args.digits.now c.args.rest _ c.in-Some.is are

pub returns-in-None : goal.returns-in-None
returns-in-None c = λ words are.
    with_team words c.args.digits.now c.args.rest c.team_of.result c.with_workers.result c.in-None.is
    c.team_of.ensures.some c.team_of.ensures.none c.with_workers.ensures are
