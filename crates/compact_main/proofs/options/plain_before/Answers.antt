use Rattle.compact_main.proofs.OptionWords.{with_plain, plain_twice}
use Rattle.compact_main.proofs.options.plain_before.Goals as goal

pub returns-in-Some : goal.returns-in-Some
returns-in-Some c = λ words are. with_plain words c.args.rest c.in-Some.rest c.in-Some.is c.if-not-rest.true are

pub returns-in_default : goal.returns-in_default
returns-in_default c = λ words are. plain_twice words c.args.rest c.in-Some.rest c.in-Some.is c.if-not-rest.false are
