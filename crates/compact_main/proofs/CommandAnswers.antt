-- A command accepts a text, or has no answer for it for one first cause.
use Rattle.std.proofs.Common.{◌≡◌, ℕ, ◌<◌, ◌≤◌, List, length, ◌⊎◌, inl, inr, refl, sym, ap, ◌∙◌, subst, arith}
use Rattle.std.proofs.lemmas.Bool.{cases_lt}
use Rattle.compact_types.specs.declared.places.Places.{Places}
use Rattle.compact_types.specs.Refusals.{HasOneAnswer}
use Rattle.gml_text.specs.declared.limits.TheConstants.{MOST_BYTES}
use Rattle.compact_main.specs.declared.command.Command.{Command}
use Rattle.compact_main.specs.declared.command.Command.TheVariants as commands
use Rattle.compact_main.specs.declared.drawing.Drawing.{Drawing}
use Rattle.compact_main.specs.declared.status.Failure.{Failure}
use Rattle.compact_main.specs.declared.status.Failure.TheVariants.{Refused, NotProved}
use Rattle.compact_main.specs.declared.status.Unproved.{Unproved}
use Rattle.compact_main.specs.declared.status.Why.{Why}
use Rattle.compact_main.specs.declared.status.Why.TheVariants.{TooLong, Gml, Draw, Shape}
use Rattle.compact_main.specs.Drawings.{HoldsDrawing, FirstTextFault}
use Rattle.compact_main.specs.Intakes.{limit_of}
use Rattle.compact_main.specs.Outputs.{IsInput, HoldsInput, IsProved, Output, IsValid, FirstInputFault, FirstRefusal, FirstUnproved, FirstGap, FirstFailure}
use Rattle.compact_main.specs.inner.Readings.{ReadsDrawing}
use Rattle.compact_main.proofs.ProvedAnswers.{one_cause, no_cause, proved_or_not}
use Rattle.compact_main.proofs.TextAnswers.{text_answer}

-- every command reads a text that is short enough
pub most_bytes : (command : Command) → limit_of command ≤ MOST_BYTES
most_bytes (commands.Draw pitch form) = omega arith
most_bytes commands.Check = omega arith
most_bytes commands.Measure = omega arith
most_bytes commands.Verify = omega arith
most_bytes (commands.Sample number) = omega arith

at_most_or_more : (n limit : ℕ) → (n ≤ limit) ⊎ (limit < n)
at_most_or_more n limit = by (cases_lt limit n)
  where
    by : (limit < n) ⊎ (n ≤ limit) → (n ≤ limit) ⊎ (limit < n)
    by (inl more) = inr more
    by (inr most) = inl most

-- the two ways in which a text may not be an input
abbrev Reason : Command → List ℕ → Why → Type 0
Reason command text why =
    ((why ≡ TooLong) × (limit_of command < length text)) ⊎ ((length text ≤ limit_of command) × FirstTextFault text why)

module _ (command : Command) (text : List ℕ) where
  reason : (why : Why) → FirstInputFault command text why → Reason command text why
  reason TooLong long = inl (refl, long)
  reason (Gml fault) first = inr first
  reason (Draw fault) first = inr first
  reason (Shape fault) first = inr first

  one_of_two : (a b : Why) → Reason command text a → Reason command text b → a ≡ b
  one_of_two a b (inl (p, long)) (inl (q, longer)) = p ∙ sym q
  one_of_two a b (inl (p, long)) (inr (within, fault)) = absurd (omega (arith, long, within))
  one_of_two a b (inr (within, fault)) (inl (q, long)) = absurd (omega (arith, long, within))
  one_of_two a b (inr (within, fault)) (inr (same, other)) = (text_answer text).one_fault a b fault other

  not_refused : (drawing : Drawing) (why : Why) → IsInput command text drawing → Reason command text why → ⊥
  not_refused drawing why input (inl (is, long)) = let within = input.within in omega (arith, long, within)
  not_refused drawing why input (inr (within, fault)) = (text_answer text).not_both drawing why input.holds fault

  -- a text fault of a text that is short enough
  first_input_fault : (why : Why) → length text ≤ limit_of command → FirstTextFault text why → FirstInputFault command text why
  first_input_fault TooLong within fault = absurd fault
  first_input_fault (Gml gml) within fault = (within, fault)
  first_input_fault (Draw draw) within fault = (within, fault)
  first_input_fault (Shape shape) within fault = (within, fault)

  abbrev HasInput : Type 0
  HasInput = ((drawing : Drawing) × IsInput command text drawing) ⊎ ((why : Why) × FirstInputFault command text why)

  held : length text ≤ limit_of command → ((drawing : Drawing) × HoldsDrawing text drawing) ⊎ ((why : Why) × FirstTextFault text why) → HasInput
  held within (inl (drawing, holds)) = inl (drawing, record { within = within; holds = holds })
  held within (inr (why, fault)) = inr (why, first_input_fault why within fault)

  some_answer : (length text ≤ limit_of command) ⊎ (limit_of command < length text) → HasInput
  some_answer (inl within) = held within (text_answer text).some
  some_answer (inr long) = inr (TooLong, long)

  -- a text is an input of the command, by one drawing, or is not for one first cause
  pub input_answer : HasOneAnswer (IsInput command text) (FirstInputFault command text)
  input_answer = record {
    some = some_answer (at_most_or_more (length text) (limit_of command));
    one_value = λ a b first second. (text_answer text).one_value a b first.holds second.holds;
    one_fault = λ a b first second. one_of_two a b (reason a first) (reason b second);
    not_both = λ drawing why input first. not_refused drawing why input (reason why first);
  }

-- a command refuses what is not its input, if it reads a drawing
refusal : (command : Command) (text : List ℕ) (why : Why) → ReadsDrawing command → FirstInputFault command text why → FirstRefusal command text why
refusal (commands.Draw pitch form) text why reads first = first
refusal commands.Check text why reads first = first
refusal commands.Measure text why reads first = first
refusal commands.Verify text why reads first = first
refusal (commands.Sample number) text why none first = absurd none

pub no_input : (command : Command) (text : List ℕ) (why : Why) → FirstRefusal command text why → FirstInputFault command text why
no_input (commands.Draw pitch form) text why first = first
no_input commands.Check text why first = first
no_input commands.Measure text why first = first
no_input commands.Verify text why first = first
no_input (commands.Sample number) text why none = absurd none

reads_drawing : (command : Command) (text : List ℕ) (why : Why) → FirstRefusal command text why → ReadsDrawing command
reads_drawing (commands.Draw pitch form) text why first = tt
reads_drawing commands.Check text why first = tt
reads_drawing commands.Measure text why first = tt
reads_drawing commands.Verify text why first = tt
reads_drawing (commands.Sample number) text why none = none

pub input_fault : (command : Command) (text : List ℕ) (why : Why) → ReadsDrawing command → length text ≤ limit_of command → FirstTextFault text why →
    FirstFailure command text (Refused why)
input_fault command text why reads within fault = refusal command text why reads (first_input_fault command text why within fault)

-- what a command accepts holds a drawing, if it reads one
holds_input : (command : Command) (text : List ℕ) → ReadsDrawing command → IsValid command text → HoldsInput command text
holds_input (commands.Draw pitch form) text reads valid = valid
holds_input commands.Check text reads valid = valid
holds_input commands.Measure text reads valid = valid
holds_input commands.Verify text reads (drawing, places, proved) = (drawing, proved.input)
holds_input (commands.Sample number) text none valid = absurd none

-- a text is refused for one cause
one_refusal : (command : Command) (text : List ℕ) (a b : Why) → FirstRefusal command text a → FirstRefusal command text b → a ≡ b
one_refusal command text a b first second = (input_answer command text).one_fault a b (no_input command text a first) (no_input command text b second)

no_refusal : (command : Command) (text : List ℕ) (why : Why) → IsValid command text → FirstRefusal command text why → ⊥
no_refusal command text why valid first =
    let (drawing, input) = holds_input command text (reads_drawing command text why first) valid in
    (input_answer command text).not_both drawing why input (no_input command text why first)

-- or not proved for one, where it holds a drawing
one_gap : (command : Command) (text : List ℕ) (a b : Unproved) → FirstGap command text a → FirstGap command text b → a ≡ b
one_gap (commands.Draw pitch form) text a b none second = absurd none
one_gap commands.Check text a b none second = absurd none
one_gap commands.Measure text a b none second = absurd none
one_gap commands.Verify text a b (first, input, cause) (second, other, cause_too) =
    let same = (text_answer text).one_value first second input.holds other.holds in
    one_cause text second a b (subst (λ (d : Drawing). FirstUnproved text d a) same cause) cause_too
one_gap (commands.Sample number) text a b none second = absurd none

no_gap : (command : Command) (text : List ℕ) (cause : Unproved) → IsValid command text → FirstGap command text cause → ⊥
no_gap (commands.Draw pitch form) text cause valid none = none
no_gap commands.Check text cause valid none = none
no_gap commands.Measure text cause valid none = none
no_gap commands.Verify text cause (drawing, places, is) (other, input, first) =
    let same = (text_answer text).one_value other drawing input.holds is.input.holds in
    no_cause text drawing places cause is (subst (λ (d : Drawing). FirstUnproved text d cause) same first)
no_gap (commands.Sample number) text cause valid none = none

refused_or_not_proved : (command : Command) (text : List ℕ) (why : Why) (cause : Unproved) →
    FirstRefusal command text why → FirstGap command text cause → ⊥
refused_or_not_proved (commands.Draw pitch form) text why cause first none = none
refused_or_not_proved commands.Check text why cause first none = none
refused_or_not_proved commands.Measure text why cause first none = none
refused_or_not_proved commands.Verify text why cause first (drawing, input, gap) = (input_answer commands.Verify text).not_both drawing why input first
refused_or_not_proved (commands.Sample number) text why cause first none = none

-- a command accepts a text, or has no answer for it for one first cause
one_failure : (command : Command) (text : List ℕ) (a b : Failure) → FirstFailure command text a → FirstFailure command text b → a ≡ b
one_failure command text (Refused a) (Refused b) first second = ap (λ (why : Why). Refused why) (one_refusal command text a b first second)
one_failure command text (Refused a) (NotProved b) first second = absurd (refused_or_not_proved command text a b first second)
one_failure command text (NotProved a) (Refused b) first second = absurd (refused_or_not_proved command text b a second first)
one_failure command text (NotProved a) (NotProved b) first second = ap (λ (cause : Unproved). NotProved cause) (one_gap command text a b first second)

no_failure : (command : Command) (text : List ℕ) (failure : Failure) → IsValid command text → FirstFailure command text failure → ⊥
no_failure command text (Refused why) valid first = no_refusal command text why valid first
no_failure command text (NotProved cause) valid first = no_gap command text cause valid first

-- a text within a limit holds a drawing, or is refused, so that a command accepts or refuses it
module _ (command : Command) (text : List ℕ) where
  abbrev HasAnswer : Type 0
  HasAnswer = (Unit {0} × IsValid command text) ⊎ ((failure : Failure) × FirstFailure command text failure)

  accepted_or_refused : ReadsDrawing command → (HoldsInput command text → IsValid command text) → HasAnswer
  accepted_or_refused reads accepts = by (input_answer command text).some
    where
      by : HasInput command text → HasAnswer
      by (inl (drawing, input)) = inl (tt, accepts (drawing, input))
      by (inr (why, first)) = inr (Refused why, refusal command text why reads first)

verified_or_not : (text : List ℕ) → HasAnswer commands.Verify text
verified_or_not text = by (input_answer commands.Verify text).some
  where
    by_proof : (drawing : Drawing) → IsInput commands.Verify text drawing →
        ((places : Places) × IsProved text drawing places) ⊎ ((cause : Unproved) × FirstUnproved text drawing cause) → HasAnswer commands.Verify text
    by_proof drawing input (inl (places, is)) = inl (tt, (drawing, places, is))
    by_proof drawing input (inr (cause, first)) = inr (NotProved cause, (drawing, input, first))

    by : HasInput commands.Verify text → HasAnswer commands.Verify text
    by (inl (drawing, input)) = by_proof drawing input (proved_or_not text drawing input)
    by (inr (why, first)) = inr (Refused why, first)

some_answer_of : (command : Command) (text : List ℕ) → HasAnswer command text
some_answer_of (commands.Draw pitch form) text = accepted_or_refused (commands.Draw pitch form) text tt (λ holds. holds)
some_answer_of commands.Check text = accepted_or_refused commands.Check text tt (λ holds. holds)
some_answer_of commands.Measure text = accepted_or_refused commands.Measure text tt (λ holds. holds)
some_answer_of commands.Verify text = verified_or_not text
some_answer_of (commands.Sample number) text = inl (tt, tt)

pub command_answer : (command : Command) (text : List ℕ) →
    HasOneAnswer (λ (accepted : Unit {0}). IsValid command text) (FirstFailure command text)
command_answer command text = record {
  some = some_answer_of command text;
  one_value = λ a b first second. refl;
  one_fault = one_failure command text;
  not_both = λ accepted failure valid first. no_failure command text failure valid first;
}

-- a text for which something is written is accepted
pub output_valid : (command : Command) (text written : List ℕ) → Output command text written → IsValid command text
output_valid (commands.Draw pitch form) text written (drawing, input, draws) = (drawing, input)
output_valid commands.Check text written (drawing, input, counted) = (drawing, input)
output_valid commands.Measure text written (drawing, input, summary, is, measured) = (drawing, input)
output_valid commands.Verify text written (drawing, places, is, told) = (drawing, places, is)
output_valid (commands.Sample number) text written is = tt
