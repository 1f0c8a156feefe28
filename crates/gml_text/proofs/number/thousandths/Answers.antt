use Rattle.gml_text.proofs.ThousandthsFunction.{thousandths_are}
use Rattle.gml_text.proofs.ThousandthsLemmas.{cut_numeral, cut_answer}
use Rattle.gml_text.proofs.number.thousandths.Goals as goal

pub scale_to_thousandths-magnitude-requires-clause-whole : goal.scale_to_thousandths-magnitude-requires-clause-whole
scale_to_thousandths-magnitude-requires-clause-whole c =
    (cut_numeral _ _ _ _ _ _ c.requires c.parts_of-parts.ensures).whole_digits

pub scale_to_thousandths-magnitude-requires-clause-fraction : goal.scale_to_thousandths-magnitude-requires-clause-fraction
scale_to_thousandths-magnitude-requires-clause-fraction c =
    (cut_numeral _ _ _ _ _ _ c.requires c.parts_of-parts.ensures).fraction_digits

pub scale_to_thousandths-magnitude-requires-clause-exponent : goal.scale_to_thousandths-magnitude-requires-clause-exponent
scale_to_thousandths-magnitude-requires-clause-exponent c =
    (cut_numeral _ _ _ _ _ _ c.requires c.parts_of-parts.ensures).exponent_right

pub returns-clause-answer : goal.returns-clause-answer
returns-clause-answer c =
    thousandths_are c.args.lexeme.now c.with_sign.result c.requires
    (λ n p. rw (c.with_sign.ensures) (cut_answer _ n _ _ _ _ _ _ c.parts_of-parts.ensures p c.scale_to_thousandths-magnitude.ensures).value)
    (λ n p. rw (c.with_sign.ensures) (cut_answer _ n _ _ _ _ _ _ c.parts_of-parts.ensures p c.scale_to_thousandths-magnitude.ensures).too_fine)
    (λ n p. rw (c.with_sign.ensures) (cut_answer _ n _ _ _ _ _ _ c.parts_of-parts.ensures p c.scale_to_thousandths-magnitude.ensures).out_of_range)

pub returns-clause-value : goal.returns-clause-value
returns-clause-value c = λ n p.
    rw (c.with_sign.ensures) (cut_answer _ n _ _ _ _ _ _ c.parts_of-parts.ensures p c.scale_to_thousandths-magnitude.ensures).value

pub returns-clause-too_fine : goal.returns-clause-too_fine
returns-clause-too_fine c = λ n p.
    rw (c.with_sign.ensures) (cut_answer _ n _ _ _ _ _ _ c.parts_of-parts.ensures p c.scale_to_thousandths-magnitude.ensures).too_fine

pub returns-clause-out_of_range : goal.returns-clause-out_of_range
returns-clause-out_of_range c = λ n p.
    rw (c.with_sign.ensures) (cut_answer _ n _ _ _ _ _ _ c.parts_of-parts.ensures p c.scale_to_thousandths-magnitude.ensures).out_of_range
