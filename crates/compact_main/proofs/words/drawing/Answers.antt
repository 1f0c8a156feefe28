use Rattle.compact_main.specs.Commands.{texts_of}
use Rattle.compact_main.proofs.CommandWords.{no_drawing}
use Rattle.compact_main.proofs.OptionWords.{too_many}
use Rattle.compact_main.proofs.words.drawing.Goals as goal

pub returns-then-has_too_many : goal.returns-then-has_too_many
returns-then-has_too_many c =
    no_drawing (texts_of c.args.options.now) (too_many c.args.options.now (c.has_too_many.ensures.0 c.if-has_too_many.true))

pub returns : goal.returns
returns c = c.drawing_with.ensures (texts_of c.args.options.now) c.options_of.ensures
