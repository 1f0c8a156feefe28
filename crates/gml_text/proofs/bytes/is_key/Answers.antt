use Rattle.std.proofs.Common.{sym, ◌∙◌}
use Rattle.gml_text.proofs.Keys.{is_key-first_and_others}
use Rattle.gml_text.proofs.bytes.is_key.Goals as goal

pub returns-then-begins_key : goal.returns-then-begins_key
returns-then-begins_key c =
    c.go_on_key.ensures ∙ is_key-first_and_others c.args.word.now c.in-len1-up.len_at_least
    (sym c.begins_key.ensures ∙ c.if-begins_key.true)
