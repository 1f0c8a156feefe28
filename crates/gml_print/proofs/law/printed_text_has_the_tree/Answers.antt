use Rattle.gml_print.proofs.AlikeTexts.{printed-alike}
use Rattle.gml_print.proofs.ReadsBack.{reads_back, reads_back_within}
use Rattle.gml_print.proofs.law.printed_text_has_the_tree.Goals as goal

pub returns : goal.returns
returns c = record { read_back = reads_back; only_then = reads_back_within; one_text = printed-alike }
