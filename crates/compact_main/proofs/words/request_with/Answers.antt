use Rattle.std.proofs.Common.{◌∷◌, sym, subst}
use Rattle.std.proofs.lemmas.Bool.{both_ways}
use Rattle.compact_main.specs.Commands.{texts_of}
use Rattle.compact_main.specs.inner.WordOptions.{IsRequest}
use Rattle.compact_main.proofs.CommandWords.{as_drawing, as_sample, no_command, some_texts, no_texts}
use Rattle.compact_main.proofs.words.request_with.Goals as goal

pub returns-then-is_text : goal.returns-then-is_text
returns-then-is_text c =
    as_drawing c.args.command.now (texts_of c.args.options.now) c.drawing.result (c.is_text.ensures.0 c.if-is_text.true) c.drawing.ensures

pub returns-then-is_text-2 : goal.returns-then-is_text-2
returns-then-is_text-2 c =
    as_sample c.args.command.now (texts_of c.args.options.now) c.sample.result (c.is_text-2.ensures.0 c.if-is_text-2.true) c.sample.ensures

pub returns-then-has_words : goal.returns-then-has_words
returns-then-has_words c =
    no_command c.args.command.now (texts_of c.args.options.now)
    (λ same. both_ways c.is_text.result c.if-is_text.false (c.is_text.ensures.1 same))
    (λ same. both_ways c.is_text-2.result c.if-is_text-2.false (c.is_text-2.ensures.1 same))
    (some_texts c.args.options.now (c.has_words.ensures.0 c.if-has_words.true))

pub lone_command-requires : goal.lone_command-requires
lone_command-requires c = λ same. both_ways c.is_text.result c.if-is_text.false (c.is_text.ensures.1 same)

pub returns : goal.returns
returns c =
    subst (λ options. IsRequest (c.args.command.now ∷ options) c.lone_command.result)
    (sym (no_texts c.args.options.now (λ some. both_ways c.has_words.result c.if-has_words.false (c.has_words.ensures.1 some))))
    c.lone_command.ensures
