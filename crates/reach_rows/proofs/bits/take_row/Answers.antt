use Rattle.reach_rows.proofs.WordLemmas.{row_taken}
use Rattle.reach_rows.proofs.bits.take_row.Goals as goal

pub returns : goal.returns
returns c =
    row_taken c.args.words c.args.into c.args.from c.args.bits.now c.or_words.new.bits c.with_bit.result c.or_words.auto.bits
    c.requires.into c.requires.from c.requires.inside c.or_words.ensures.row c.or_words.ensures.others c.with_bit.ensures.same c.with_bit.ensures.others
