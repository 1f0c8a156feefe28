use Rattle.gml_print.proofs.Numerals.{number_text_is_whole, value_of_number_text}
use Rattle.gml_print.proofs.law.text_has_its_number.Goals as goal

pub returns : goal.returns
returns c = record { numeral = number_text_is_whole; value = value_of_number_text }
