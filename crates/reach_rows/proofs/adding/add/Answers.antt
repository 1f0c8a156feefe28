use Rattle.reach_rows.proofs.RowLemmas.{bits_with_first, bits_with_last, no_more_paths}
use Rattle.reach_rows.proofs.adding.add.Goals as goal

pub returns-then-not-has_bit : goal.returns-then-not-has_bit
returns-then-not-has_bit c = λ arcs arc is_from is_to bits.
    bits_with_last c.args.words c.args.nodes c.take_all.new.bits arc arcs
    (bits_with_first c.args.words c.args.nodes c.args.a c.args.b c.args.bits.now c.take_all.new.bits arcs arc is_from is_to c.requires.begins c.requires.ends bits
    c.take_all.ensures)

pub returns-else-not-has_bit : goal.returns-else-not-has_bit
returns-else-not-has_bit c = λ arcs arc is_from is_to bits.
    bits_with_last c.args.words c.args.nodes c.args.bits.now arc arcs
    (no_more_paths c.args.words c.args.nodes c.args.a c.args.b c.args.bits.now arcs arc is_from is_to c.requires.begins c.requires.ends bits
    (c.has_bit.ensures.0 c.if-not-has_bit.false))
