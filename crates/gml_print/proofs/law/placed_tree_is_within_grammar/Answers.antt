use Rattle.gml_print.proofs.PlacedGrammar.{placed_within, placed_readable}
use Rattle.gml_print.proofs.law.placed_tree_is_within_grammar.Goals as goal

pub returns : goal.returns
returns c = record { grammar = placed_within; readable = placed_readable }
