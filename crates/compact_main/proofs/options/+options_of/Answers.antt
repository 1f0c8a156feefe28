use Rattle.std.proofs.Common.{sym, ◌∙◌, subst, arith, codes}
use Rattle.compact_main.specs.inner.WordOptions.{AreFound}
use Rattle.compact_main.proofs.OptionWords.{empty_texts, rest_texts, two_rest_texts}
use Rattle.compact_main.proofs.options.+options_of.Goals as goal

pub returns-in-empty : goal.returns-in-empty
returns-in-empty t c = empty_texts c.args.words.now (omega arith)

pub returns-in-len1-up : goal.returns-in-len1-up
returns-in-len1-up t c =
    subst (λ texts. AreFound texts c.plain_before.result)
    (sym (rest_texts c.args.words.now c.word-item.result (codes "--plain") (omega arith) c.word-item.is
    (sym c.as_str.ensures.value ∙ c.is_text.ensures.0 c.if-is_text.true)))
    (c.plain_before.ensures _ c.options_of.ensures)

pub returns-in-len2-up : goal.returns-in-len2-up
returns-in-len2-up t c =
    subst (λ texts. AreFound texts c.pitch_before.result)
    (sym (two_rest_texts c.args.words.now c.word-item-2.result c.digits-item.result (codes "--pitch") c.as_str-in-len2-up.result.now (omega arith)
    c.word-item-2.is c.digits-item.is (sym c.as_str-2.ensures.value ∙ c.is_text-2.ensures.0 c.if-is_text-2.true) (sym c.as_str-in-len2-up.ensures.value)))
    (c.pitch_before.ensures _ c.options_of-in-len2-up.ensures)

pub returns-in-len2-up-2 : goal.returns-in-len2-up-2
returns-in-len2-up-2 t c =
    subst (λ texts. AreFound texts c.workers_before.result)
    (sym (two_rest_texts c.args.words.now c.word-item-3.result c.digits-item-2.result (codes "--workers") c.as_str-in-len2-up-2.result.now (omega arith)
    c.word-item-3.is c.digits-item-2.is (sym c.as_str-3.ensures.value ∙ c.is_text-3.ensures.0 c.if-is_text-3.true) (sym c.as_str-in-len2-up-2.ensures.value)))
    (c.workers_before.ensures _ c.options_of-in-len2-up-2.ensures)
