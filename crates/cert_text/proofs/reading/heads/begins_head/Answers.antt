use Rattle.cert_text.proofs.ReadHeads.{begins_head_is}
use Rattle.cert_text.proofs.reading.heads.begins_head.Goals as goal

pub returns : goal.returns
returns c = begins_head_is c.args.text.now _ _ c.after_word.ensures.after c.is_some.ensures
