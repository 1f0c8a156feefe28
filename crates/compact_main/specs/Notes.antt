-- What the user is told of a run that was not done.
use Rattle.std.specs.Prelude.{◌≡◌, ℕ, ℤ, List, [], ◌∷◌, ◌++◌, Option, codes, decimal, ◌⊎◌}
use Rattle.std.specs.Fmt.{signed_decimal}
use Rattle.std.specs.Io.KnownBytes.{Appends}
use Rattle.io_ends.specs.Counts.{Counted, Uncounted}
use Rattle.io_ends.specs.Ends.{AppendsFront}
use Rattle.gml_text.specs.declared.fault.GmlKind.{GmlKind}
use Rattle.gml_text.specs.declared.fault.GmlKind.TheVariants.{BadKey, BadValue, BadNumeral}
use Rattle.gml_text.specs.declared.fault.GmlKind.TheVariants.{OpenString, OpenList, StrayClose}
use Rattle.gml_text.specs.declared.fault.GmlKind.TheVariants.{TooDeep}
use Rattle.gml_text.specs.declared.number.NumberFault.{NumberFault}
use Rattle.gml_text.specs.declared.number.NumberFault.TheVariants.{TooFine, OutOfRange}
use Rattle.drawing_read.specs.declared.fault.DrawFault.{DrawFault}
use Rattle.drawing_read.specs.declared.fault.DrawFault.TheVariants.{NoGraph, TwoGraphs, Empty, NoId}
use Rattle.drawing_read.specs.declared.fault.DrawFault.TheVariants.{BadId, RepeatedId, NoPlace}
use Rattle.drawing_read.specs.declared.fault.DrawFault.TheVariants.{BadNumber, NoEnd, UnknownEnd}
use Rattle.drawing_read.specs.declared.fault.DrawFault.TheVariants.{BadPoint, TooManyVertices}
use Rattle.drawing_read.specs.declared.fault.DrawFault.TheVariants.{TooManyPieces}
use Rattle.drawing_check.specs.declared.fault.ShapeFault.{ShapeFault}
use Rattle.drawing_check.specs.declared.fault.ShapeFault.TheVariants.{ZeroPiece, Slanted}
use Rattle.drawing_check.specs.declared.fault.ShapeFault.TheVariants.{Disconnected, Meeting}
use Rattle.cert_text.specs.declared.fault.CertFault.{CertFault}
use Rattle.cert_text.specs.declared.fault.CertKind.{CertKind}
use Rattle.cert_text.specs.declared.fault.CertKind.TheVariants.{NoCertificate, BadLine}
use Rattle.cert_text.specs.declared.fault.CertKind.TheVariants.{MissingBranch, TrailingLine}
use Rattle.cert_text.specs.Texts.{axis_text}
use Rattle.cert_check.specs.declared.fault.CheckFault.{CheckFault}
use Rattle.cert_check.specs.declared.fault.CheckFault.TheVariants.{NotFromZero, BadPair, Unbalanced}
use Rattle.cert_check.specs.declared.fault.CheckFault.TheVariants.{WeakBound, NotACycle, NoArc}
use Rattle.compact_main.specs.declared.command.Command.{Command}
use Rattle.compact_main.specs.declared.status.Why.{Why}
use Rattle.compact_main.specs.declared.status.Why.TheVariants.{TooLong, Gml, Draw, Shape as Figure}
use Rattle.compact_main.specs.declared.status.Unproved.{Unproved}
use Rattle.compact_main.specs.declared.status.Unproved.TheVariants.{Cert, NotWhole, Check}
use Rattle.compact_main.specs.declared.status.Status.{Status}
use Rattle.compact_main.specs.declared.status.Status.TheVariants.{Done, Refused, BadWords}
use Rattle.compact_main.specs.declared.status.Status.TheVariants.{ReadFault, WriteFault, NoMemory}
use Rattle.compact_main.specs.declared.status.Status.TheVariants.{NotProved}
use Rattle.compact_main.specs.Intakes.{limit_of}

-- what is wrong with a text that is no GML
abbrev pub kind_text : GmlKind → List ℕ
kind_text BadKey = codes "bad key"
kind_text BadValue = codes "bad value"
kind_text BadNumeral = codes "bad numeral"
kind_text OpenString = codes "string not closed"
kind_text OpenList = codes "list not closed"
kind_text StrayClose = codes "stray close"
kind_text TooDeep = codes "too deep"

-- a number between two texts
abbrev pub around : List ℕ → ℕ → List ℕ → List ℕ
around front number back = front ++ decimal number ++ back

-- why a number is no coordinate
abbrev pub cause_text : NumberFault → List ℕ
cause_text TooFine = codes "number too fine"
cause_text OutOfRange = codes "number out of range"

-- why a tree is no drawing
abbrev pub draw_text : DrawFault → List ℕ
draw_text NoGraph = codes "no graph"
draw_text TwoGraphs = codes "two graphs"
draw_text Empty = codes "no node"
draw_text (NoId node) = around (codes "node ") node (codes " has no id")
draw_text (BadId node) = around (codes "node ") node (codes " has a bad id")
draw_text (RepeatedId node) = around (codes "node ") node (codes " repeats an id")
draw_text (NoPlace node) = around (codes "node ") node (codes " has no place")
draw_text (BadNumber at cause) = cause_text cause ++ codes " at byte " ++ decimal at
draw_text (NoEnd edge) = around (codes "edge ") edge (codes " lacks an end")
draw_text (UnknownEnd edge) = around (codes "edge ") edge (codes " names no node")
draw_text (BadPoint edge point) =
    around (codes "edge ") edge (codes " has a bad point ") ++ decimal point
draw_text (TooManyVertices count) = decimal count ++ codes " vertices"
draw_text (TooManyPieces count) = decimal count ++ codes " pieces"

-- two pieces by their numbers
abbrev pub two_pieces_text : ℕ → ℕ → List ℕ
two_pieces_text p q = around (codes "pieces ") p (codes " and ") ++ decimal q

-- where they meet, in thousandths
abbrev pub meeting_text : ℤ → ℤ → List ℕ
meeting_text x y = codes " meet at " ++ signed_decimal x ++ codes " " ++ signed_decimal y

-- why places are no drawing
abbrev pub shape_text : ShapeFault → List ℕ
shape_text (ZeroPiece piece) = around (codes "piece ") piece (codes " has no length")
shape_text (Slanted piece) = around (codes "piece ") piece (codes " is slanted")
shape_text (Disconnected vertex) = around (codes "vertex ") vertex (codes " is not joined")
shape_text (Meeting p q x y) = two_pieces_text p q ++ meeting_text x y

-- why a text is refused, by a command that reads no more than the limit
abbrev pub why_text : ℕ → Why → List ℕ
why_text limit TooLong = around (codes "more than ") limit (codes " bytes")
why_text limit (Gml fault) = kind_text fault.kind ++ codes " at byte " ++ decimal fault.at
why_text limit (Draw fault) = draw_text fault
why_text limit (Figure fault) = shape_text fault

-- what is wrong with the line of a certificate
abbrev pub cert_kind_text : ℕ → CertKind → List ℕ
cert_kind_text line NoCertificate = codes "no certificate"
cert_kind_text line BadLine = around (codes "line ") line (codes " is bad")
cert_kind_text line MissingBranch = around (codes "line ") line (codes " lacks a branch")
cert_kind_text line TrailingLine = around (codes "line ") line (codes " is too many")

abbrev pub cert_text : CertFault → List ℕ
cert_text fault = cert_kind_text fault.line fault.kind

-- an entry of a certificate, and what is wrong with it
abbrev pub entry_text : ℕ → List ℕ → List ℕ
entry_text entry wrong = around (codes "entry ") entry wrong

-- why a certificate does not show that its drawing is the best
abbrev pub check_text : CheckFault → List ℕ
check_text NotFromZero = codes "not from zero"
check_text (BadPair entry) = entry_text entry (codes " names a bad pair")
check_text (Unbalanced entry axis node) =
    entry_text entry (codes " is not balanced at ") ++ axis_text axis ++ codes " node "
    ++ decimal node
check_text (WeakBound entry bound earlier) = entry_text entry (codes " has too weak a bound")
check_text (NotACycle entry place) = entry_text entry (codes " is not a cycle")
check_text (NoArc entry axis arc) =
    entry_text entry (codes " has no arc ") ++ decimal arc ++ codes " in " ++ axis_text axis

-- why a text is not proved
abbrev pub unproved_text : Unproved → List ℕ
unproved_text (Cert fault) = cert_text fault
unproved_text (NotWhole vertex) = around (codes "vertex ") vertex (codes " is not on the grid")
unproved_text (Check fault) = check_text fault

-- the line without its line feed
abbrev pub status_text : ℕ → Status → List ℕ
status_text limit Done = []
status_text limit (Refused why) = codes "refused: " ++ why_text limit why
status_text limit BadWords =
    codes "usage: draw [--workers N] [--pitch N] [--plain] | check | measure | verify | sample N"
status_text limit ReadFault = codes "read fault"
status_text limit WriteFault = codes "write fault"
status_text limit NoMemory = codes "no memory"
status_text limit (NotProved unproved) = codes "not proved: " ++ unproved_text unproved

-- the line for a status that is not Done, of a command that reads no more than the limit
abbrev pub note_text : ℕ → Status → List ℕ
note_text limit status = status_text limit status ++ 10 ∷ []

-- the line tells how the run ended, with the limit of the command that was asked for
pub record IsLine (Asked : Command → Type 0) (status : Status) (line : List ℕ) : Type 0 where
  pub limit : ℕ
  pub of_command : (command : Command) → Asked command → limit ≡ limit_of command
  pub text : line ≡ note_text limit status

-- the sink gained the line, or a front of it if a write failed
abbrev pub IsNoted : List ℕ → Option (List ℕ) → Option (List ℕ) → ℕ → ℕ → Type 0
IsNoted line held held' faults faults' =
    (Appends held held' line × Uncounted faults faults')
    ⊎ (AppendsFront held held' line × Counted faults faults')

-- what the sink of the notes gained in the run of a program that is asked for these commands
pub record IsNotified {N : Type 0} (Asked : Command → Type 0)
    (held : N → Option (List ℕ)) (faults : N → ℕ) (sink sink' : N)
    (status : Status) : Type 0 where
  pub no_notes : status ≡ Done → sink' ≡ sink
  pub notes : (status ≡ Done → ⊥) →
      (line : List ℕ) × IsLine Asked status line
      × IsNoted line (held sink) (held sink') (faults sink) (faults sink')
