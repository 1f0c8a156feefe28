use Rattle.std.proofs.Common.{subst}
use Rattle.compact_main.specs.inner.WordOptions.{AreFound}
use Rattle.compact_main.proofs.CommandWords.{no_drawing, some_drawing, some_workers}
use Rattle.compact_main.proofs.words.drawing_with.Goals as goal

pub returns-in-Some : goal.returns-in-Some
returns-in-Some c = λ words found.
    let are = subst (AreFound words) c.in-Some.is found in (
      some_drawing words c.in-Some.options c.unwrap_or.result c.form_of.result c.unwrap_or.ensures c.form_of.ensures are,
      some_workers words c.in-Some.options c.unwrap_or.result c.workers_of.result c.form_of.result c.workers_of.ensures are,
    )

pub returns-in-None : goal.returns-in-None
returns-in-None c = λ words found. no_drawing words (subst (AreFound words) c.in-None.is found)
