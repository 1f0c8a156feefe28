-- What the program writes for a text, and why it has no answer for one.
use Rattle.std.specs.Prelude.{◌≡◌, ℕ, ◌<◌, ◌≤◌, List, ◌++◌, length, codes, decimal, ℤ}
use Rattle.std.specs.Fmt.{signed_decimal}
use Rattle.compact_types.specs.declared.places.Places.{Places}
use Rattle.cert_text.specs.declared.tree.CertNode.{CertNode}
use Rattle.cert_text.specs.declared.trimming.TheConstants.{MOST_SPLITS}
use Rattle.cert_text.specs.Certificates.{IsCertificate}
use Rattle.cert_text.specs.Faults.{FirstCertFault}
use Rattle.cert_text.specs.Loads.{IsCertTree}
use Rattle.cert_text.specs.Texts.{certificate_text}
use Rattle.cert_text.specs.Trees.{IsShallow}
use Rattle.compact_main.specs.declared.command.Command.{Command}
use Rattle.compact_main.specs.declared.command.Command.TheVariants.{Draw, Check, Measure, Verify, Sample}
use Rattle.compact_main.specs.declared.command.Form.{Form}
use Rattle.compact_main.specs.declared.command.Form.TheVariants.{Plain, Certified}
use Rattle.compact_main.specs.declared.drawing.Drawing.{Drawing}
use Rattle.compact_main.specs.declared.summary.Summary.{Summary}
use Rattle.compact_main.specs.declared.status.Failure.{Failure}
use Rattle.compact_main.specs.declared.status.Failure.TheVariants.{Refused, NotProved}
use Rattle.compact_main.specs.declared.status.Unproved.{Unproved}
use Rattle.compact_main.specs.declared.status.Unproved.TheVariants as unproved
use Rattle.compact_main.specs.declared.status.Why.{Why}
use Rattle.compact_main.specs.declared.status.Why.TheVariants as why
use Rattle.compact_main.specs.Drawings.{HoldsDrawing, FirstTextFault, vertex_count, piece_count}
use Rattle.compact_main.specs.Drawings.{AreBestPlaces, worth_with, text_with, IsAccepted}
use Rattle.compact_main.specs.Drawings.{IsFirstFlaw, IsOnGridAt, IsFirstOffGrid, IsSummary}
use Rattle.compact_main.specs.Intakes.{limit_of}
use Rattle.compact_main.specs.Samples.{IsSampleOutput}
use Rattle.compact_main.specs.Summaries.{summary_text}

-- the text has no more bytes than the command reads, and holds this drawing
pub record IsInput (command : Command) (text : List ℕ) (drawing : Drawing) : Type 0 where
  pub within : length text ≤ limit_of command
  pub holds : HoldsDrawing text drawing

-- the drawing is written with the best places of its shape, neighbouring lines of the grid `pitch`
-- units apart; all else as it was read
pub record DrawsBest (drawing : Drawing) (pitch : ℕ) (places : Places) (written : List ℕ) :
    Type 0 where
  pub best : AreBestPlaces drawing places
  pub printed : written ≡ text_with drawing pitch places

-- the text of a certificate is written after this front
pub record IsCertified (pitch : ℕ) (front : List ℕ) (nodes : List CertNode) (written : List ℕ) :
    Type 0 where
  pub tree : IsCertTree nodes
  pub behind : written ≡ front ++ certificate_text pitch nodes

-- the drawing is written with its best places, and then a certificate that shows by itself that
-- they are the best: it is accepted, and no entry lies under too many splits
pub record DrawsProved (drawing : Drawing) (pitch : ℕ) (places : Places) (nodes : List CertNode)
    (written : List ℕ) : Type 0 where
  pub front : List ℕ
  pub draws : DrawsBest drawing pitch places front
  pub accepted : IsAccepted drawing places nodes
  pub shallow : IsShallow MOST_SPLITS nodes
  pub certified : IsCertified pitch front nodes written

-- the drawing is written with its best places, in this form
abbrev pub Draws : Form → Drawing → ℕ → List ℕ → Type 0
Draws Plain drawing pitch written = (places : Places) × DrawsBest drawing pitch places written
Draws Certified drawing pitch written =
    (places : Places) × (nodes : List CertNode) × DrawsProved drawing pitch places nodes written

-- how many vertices and pieces a drawing has
abbrev pub count_line : Drawing → List ℕ
count_line drawing =
    codes "drawing: " ++ decimal (vertex_count drawing) ++ codes " vertices, "
    ++ decimal (piece_count drawing) ++ codes " pieces\n"

-- The text is proved: it holds the drawing and ends with a certificate; the drawing is on the grid
-- of the certificate's pitch, at these places in grid steps; and the certificate shows that they
-- are the best.
pub record IsProved (text : List ℕ) (drawing : Drawing) (places : Places) : Type 0 where
  pub input : IsInput Verify text drawing
  pub pitch : ℕ
  pub nodes : List CertNode
  pub certificate : IsCertificate text pitch nodes
  pub scaled : IsOnGridAt drawing pitch places
  pub accepted : IsAccepted drawing places nodes

-- the length of a proved drawing, in grid steps
abbrev pub proved_line : ℤ → List ℕ
proved_line length = codes "proved: length " ++ signed_decimal length ++ codes "\n"

-- what the command writes for a text
abbrev pub Output : Command → List ℕ → List ℕ → Type 0
Output (Draw pitch form) text written =
    (drawing : Drawing) × IsInput (Draw pitch form) text drawing
    × Draws form drawing pitch written
Output Check text written =
    (drawing : Drawing) × IsInput Check text drawing × (written ≡ count_line drawing)
Output Measure text written =
    (drawing : Drawing) × IsInput Measure text drawing
    × (summary : Summary) × IsSummary drawing summary × (written ≡ summary_text summary)
Output Verify text written =
    (drawing : Drawing) × (places : Places) × IsProved text drawing places
    × (written ≡ proved_line (worth_with drawing places))
Output (Sample number) text written = IsSampleOutput number written

-- the command writes no certificate, and finds none
abbrev pub IsUncertified : Command → Type 0
IsUncertified (Draw pitch Certified) = ⊥
IsUncertified (Draw pitch Plain) = Unit {0}
IsUncertified Check = Unit {0}
IsUncertified Measure = Unit {0}
IsUncertified Verify = Unit {0}
IsUncertified (Sample number) = ⊥

-- the text has no more bytes than the command reads, and holds a drawing
abbrev pub HoldsInput : Command → List ℕ → Type 0
HoldsInput command text = (drawing : Drawing) × IsInput command text drawing

-- the command accepts the text: it has no more bytes than the command reads, and holds a drawing;
-- and if it is to be verified, it is proved; a sample asks nothing of a text
abbrev pub IsValid : Command → List ℕ → Type 0
IsValid (Draw pitch form) text = HoldsInput (Draw pitch form) text
IsValid Check text = HoldsInput Check text
IsValid Measure text = HoldsInput Measure text
IsValid Verify text = (drawing : Drawing) × (places : Places) × IsProved text drawing places
IsValid (Sample number) text = Unit {0}

-- the text is not an input of the command for this cause, the first that holds: it has more bytes
-- than the command reads, or it holds no drawing
abbrev pub FirstInputFault : Command → List ℕ → Why → Type 0
FirstInputFault command text why.TooLong = limit_of command < length text
FirstInputFault command text (why.Gml fault) =
    (length text ≤ limit_of command) × FirstTextFault text (why.Gml fault)
FirstInputFault command text (why.Draw fault) =
    (length text ≤ limit_of command) × FirstTextFault text (why.Draw fault)
FirstInputFault command text (why.Shape fault) =
    (length text ≤ limit_of command) × FirstTextFault text (why.Shape fault)

-- the command refuses a text for this cause, the first that holds; a sample refuses none
abbrev pub FirstRefusal : Command → List ℕ → Why → Type 0
FirstRefusal (Draw pitch form) text cause = FirstInputFault (Draw pitch form) text cause
FirstRefusal Check text cause = FirstInputFault Check text cause
FirstRefusal Measure text cause = FirstInputFault Measure text cause
FirstRefusal Verify text cause = FirstInputFault Verify text cause
FirstRefusal (Sample number) text cause = ⊥

-- The first cause for which a text that holds this drawing is not proved: the fault of its
-- certificate's text; or a vertex that is not on the grid; or what the certificate does not show of
-- the places in grid steps.
abbrev pub FirstUnproved : List ℕ → Drawing → Unproved → Type 0
FirstUnproved text drawing (unproved.Cert fault) = FirstCertFault text fault
FirstUnproved text drawing (unproved.NotWhole vertex) =
    (pitch : ℕ) × (nodes : List CertNode) × IsCertificate text pitch nodes
    × IsFirstOffGrid drawing pitch vertex
FirstUnproved text drawing (unproved.Check fault) =
    (pitch : ℕ) × (nodes : List CertNode) × IsCertificate text pitch nodes
    × (places : Places) × IsOnGridAt drawing pitch places
    × IsFirstFlaw drawing places nodes fault

-- a text that is to be verified holds a drawing, and is not proved for this cause, the first that
-- holds; no other command asks for that
abbrev pub FirstGap : Command → List ℕ → Unproved → Type 0
FirstGap (Draw pitch form) text unproved = ⊥
FirstGap Check text unproved = ⊥
FirstGap Measure text unproved = ⊥
FirstGap (Sample number) text unproved = ⊥
FirstGap Verify text unproved =
    (drawing : Drawing) × IsInput Verify text drawing × FirstUnproved text drawing unproved

-- the command has no answer for the text for this cause, the first that holds
abbrev pub FirstFailure : Command → List ℕ → Failure → Type 0
FirstFailure command text (Refused why) = FirstRefusal command text why
FirstFailure command text (NotProved unproved) = FirstGap command text unproved
