-- What a command writes for a text.
use Rattle.std.proofs.Common.{◌≡◌, ℕ, ◌≤◌, List, ◌++◌, length, refl, sym, ap, ◌∙◌, subst}
use Rattle.compact_types.specs.declared.places.Axis.TheVariants.{X, Y}
use Rattle.compact_types.specs.declared.places.Places.{Places}
use Rattle.compact_types.specs.declared.plan.Shape.{Shape}
use Rattle.compact_types.specs.Bests.{total_length, IsBest, worth_of}
use Rattle.compact_types.proofs.Laws.{one_best}
use Rattle.cert_text.specs.declared.tree.CertNode.{CertNode}
use Rattle.cert_text.specs.Texts.{certificate_text}
use Rattle.compact_main.specs.declared.command.Command.{Command}
use Rattle.compact_main.specs.declared.command.Command.TheVariants as commands
use Rattle.compact_main.specs.declared.command.Form.TheVariants.{Plain, Certified}
use Rattle.compact_main.specs.declared.drawing.Drawing.{Drawing}
use Rattle.compact_main.specs.Commands.{IsCommandWithinLimits}
use Rattle.compact_main.specs.Intakes.{limit_of}
use Rattle.compact_main.specs.Drawings.{shape_of, worth_with, text_with, IsSummary}
use Rattle.compact_main.specs.Outputs.{DrawsBest, IsCertified, IsProved, count_line, proved_line, Output, IsUncertified, IsValid}
use Rattle.compact_main.specs.Samples.{sample_text, greatest_along}
use Rattle.compact_main.specs.Summaries.{summary_text}
use Rattle.compact_main.proofs.BestDrawings.{some_best}
use Rattle.compact_main.proofs.DrawnIsProved.{best_is_proved}
use Rattle.compact_main.proofs.OneSummary.{one_summary, some_summary}
use Rattle.compact_main.proofs.ProvedAnswers.{one_proved}
use Rattle.compact_main.proofs.SampleLaws.{one_sample_shape}
use Rattle.compact_main.proofs.ReadShapes.{sound_shape}
use Rattle.compact_main.proofs.TextAnswers.{text_answer}

-- an accepted text has an output
some_drawn : (pitch : ℕ) (text : List ℕ) → IsValid (commands.Draw pitch Plain) text → (written : List ℕ) × Output (commands.Draw pitch Plain) text written
some_drawn pitch text (drawing, input) =
    let sound = sound_shape drawing.tree drawing.reading (shape_of drawing) input.holds.read input.holds.checked in
    let (places, best) = some_best (shape_of drawing) sound in
    let written = text_with drawing pitch places in
    let draws : DrawsBest drawing pitch places written = record { best = best; printed = refl } in
    (written, (drawing, input, (places, draws)))

pub some_output : (command : Command) (text : List ℕ) → IsUncertified command → IsValid command text → (written : List ℕ) × Output command text written
some_output (commands.Draw pitch Certified) text none valid = absurd none
some_output (commands.Draw pitch Plain) text plain valid = some_drawn pitch text valid
some_output commands.Check text plain (drawing, input) = (count_line drawing, (drawing, input, refl))
some_output commands.Measure text plain (drawing, input) =
    let (summary, is) = some_summary drawing in
    (summary_text summary, (drawing, input, summary, is, refl))
some_output commands.Verify text plain (drawing, places, is) = (proved_line (worth_with drawing places), (drawing, places, is, refl))
some_output (commands.Sample number) text none valid = absurd none

same_drawn : (drawing : Drawing) (pitch : ℕ) (p q : Places) (a b : List ℕ) → DrawsBest drawing pitch p a → DrawsBest drawing pitch q b → a ≡ b
same_drawn drawing pitch p q a b first second =
    first.printed ∙ ap (text_with drawing pitch) (one_best total_length (shape_of drawing) p q first.best second.best) ∙ sym second.printed

-- one output of a text
pub one_drawn : (pitch : ℕ) (text a b : List ℕ) → Output (commands.Draw pitch Plain) text a → Output (commands.Draw pitch Plain) text b → a ≡ b
one_drawn pitch text a b (first, input, (p, draws)) (second, other, (q, draws_too)) =
    let same = (text_answer text).one_value first second input.holds other.holds in
    same_drawn second pitch p q a b (subst (λ (d : Drawing). DrawsBest d pitch p a) same draws) draws_too

-- a drawing with its certificate is that without one, and a certificate
pub plain_front : (pitch : ℕ) (text a : List ℕ) → Output (commands.Draw pitch Certified) text a →
    (front : List ℕ) × Output (commands.Draw pitch Plain) text front × ((nodes : List CertNode) × IsCertified pitch front nodes a)
plain_front pitch text a (drawing, input, (places, nodes, is)) =
    (is.front, (drawing, record { within = input.within; holds = input.holds }, (places, is.draws)), (nodes, is.certified))

pub one_counted : (text a b : List ℕ) → Output commands.Check text a → Output commands.Check text b → a ≡ b
one_counted text a b (first, input, is) (second, other, is_too) =
    let same = (text_answer text).one_value first second input.holds other.holds in
    is ∙ ap count_line same ∙ sym is_too

pub one_measured : (text a b : List ℕ) → Output commands.Measure text a → Output commands.Measure text b → a ≡ b
one_measured text a b (first, input, p, is, written) (second, other, q, is_too, written_too) =
    let same = (text_answer text).one_value first second input.holds other.holds in
    let equal = one_summary second p q (subst (λ (d : Drawing). IsSummary d p) same is) is_too in
    written ∙ ap summary_text equal ∙ sym written_too

pub one_verified : (text a b : List ℕ) → Output commands.Verify text a → Output commands.Verify text b → a ≡ b
one_verified text a b (first, p, is, told) (second, q, is_too, told_too) =
    let same = (text_answer text).one_value first second is.input.holds is_too.input.holds in
    let moved : IsProved text second p = subst (λ (d : Drawing). IsProved text d p) same is in
    let equal : p ≡ q = one_proved text second p q moved is_too in
    told ∙ ap (λ (d : Drawing). proved_line (worth_with d p)) same
    ∙ ap (λ (places : Places). proved_line (worth_with second places)) equal ∙ sym told_too

pub one_sampled : (number : ℕ) (text a b : List ℕ) → Output (commands.Sample number) text a → Output (commands.Sample number) text b → a ≡ b
one_sampled number text a b first second =
    let shapes = (one_sample_shape number first.shape second.shape first.places second.places first.sample second.sample first.drawing second.drawing).0 in
    let moved : IsBest total_length second.shape first.best_places = subst (λ (s : Shape). IsBest total_length s first.best_places) shapes first.best in
    let places = one_best total_length second.shape first.best_places second.best_places moved second.best in
    first.told ∙ ap (λ (s : Shape). text_of s first.best_places) shapes ∙ ap (λ (p : Places). text_of second.shape p) places ∙ sym second.told
  where
    text_of : Shape → Places → List ℕ
    text_of shape places = sample_text number shape.plan (worth_of total_length shape places) (greatest_along X places) (greatest_along Y places)

-- what is drawn with a certificate is proved
pub drawn_verified : (pitch : ℕ) (text written : List ℕ) → IsCommandWithinLimits (commands.Draw pitch Certified) → Output (commands.Draw pitch Certified) text written →
    length written ≤ limit_of commands.Verify → IsValid commands.Verify written
drawn_verified pitch text written (some, most) (drawing, input, (places, nodes, is)) within =
    let whole = is.certified.behind ∙ ap (λ front. front ++ certificate_text pitch nodes) is.draws.printed in
    let by = best_is_proved text drawing places pitch nodes written input.holds is.draws.best (record { some = some; most = most })
    is.certified.tree is.accepted whole in (
      by.drawing,
      places,
      record {
        input = record { within = within; holds = by.holds };
        pitch = pitch;
        nodes = nodes;
        certificate = by.certificate;
        scaled = by.scaled;
        accepted = by.accepted;
      },
    )
