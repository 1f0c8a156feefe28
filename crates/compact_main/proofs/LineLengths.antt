-- How long the parts of a line are.
use Rattle.std.proofs.Common.{◌≡◌, ℕ, ℤ, ◌+◌, ◌^◌, ◌<◌, ◌≤◌, List, ◌++◌, length, decimal, codes, length-append, arith, lit≤, ◌∙◌, ap, w64, FitsSigned, append_assoc, take, refl, zero, suc, [], ◌∷◌, take_all, min, ◌-◌, sym}
use Rattle.std.specs.Fmt.{signed_decimal}
use Rattle.std.proofs.Math.Seq.{take-append-add}
use Rattle.std.proofs.lemmas.List.{take_min}
use Rattle.std.proofs.lemmas.Fmt.{length-decimal-le, length_signed_le}
use Rattle.gml_text.specs.declared.fault.GmlKind.{GmlKind}
use Rattle.gml_text.specs.declared.fault.GmlKind.TheVariants.{BadKey, BadValue, BadNumeral, OpenString, OpenList, StrayClose, TooDeep}
use Rattle.gml_text.specs.declared.number.NumberFault.{NumberFault}
use Rattle.gml_text.specs.declared.number.NumberFault.TheVariants.{TooFine, OutOfRange}
use Rattle.compact_types.specs.declared.places.Axis.{Axis}
use Rattle.compact_types.specs.declared.places.Axis.TheVariants.{X, Y}
use Rattle.cert_text.specs.declared.fault.CertFault.{CertFault}
use Rattle.cert_text.specs.declared.fault.CertKind.{CertKind}
use Rattle.cert_text.specs.declared.fault.CertKind.TheVariants.{NoCertificate, BadLine, MissingBranch, TrailingLine}
use Rattle.cert_text.specs.Texts.{axis_text}
use Rattle.compact_main.specs.declared.note.TheConstants.{NOTE_ROOM}
use Rattle.compact_main.specs.inner.NoteRooms.{IsAppended}
use Rattle.compact_main.specs.Notes.{kind_text, cause_text, around, cert_kind_text, cert_text}

pub decimal_short : (n : ℕ) → n < 2 ^ 64 → length (decimal n) ≤ 20
decimal_short n within = length-decimal-le 20 n (omega arith) (omega arith) within

pub signed_decimal_short : (z : ℤ) → FitsSigned w64 z → length (signed_decimal z) ≤ 21
signed_decimal_short z within = length_signed_le 20 z (omega (arith, within)) (omega (arith, within))

pub around_length : (front : List ℕ) (n : ℕ) (back : List ℕ) →
    length (around front n back) ≡ (length front + length (decimal n)) + length back
around_length front n back =
    length-append (front ++ decimal n) back ∙ ap (λ m. m + length back) (length-append front (decimal n))

pub kind_length : (kind : GmlKind) → length (kind_text kind) ≤ 20
kind_length BadKey = lit≤ tt
kind_length BadValue = lit≤ tt
kind_length BadNumeral = lit≤ tt
kind_length OpenString = lit≤ tt
kind_length OpenList = lit≤ tt
kind_length StrayClose = lit≤ tt
kind_length TooDeep = lit≤ tt

pub cause_length : (cause : NumberFault) → length (cause_text cause) ≤ 20
cause_length TooFine = lit≤ tt
cause_length OutOfRange = lit≤ tt

cert_kind_length : (line : ℕ) (kind : CertKind) → length (decimal line) ≤ 20 → length (cert_kind_text line kind) ≤ 60
cert_kind_length line NoCertificate short = lit≤ tt
cert_kind_length line BadLine short = let is = around_length (codes "line ") line (codes " is bad") in omega (arith, is, short)
cert_kind_length line MissingBranch short = let is = around_length (codes "line ") line (codes " lacks a branch") in omega (arith, is, short)
cert_kind_length line TrailingLine short = let is = around_length (codes "line ") line (codes " is too many") in omega (arith, is, short)

pub cert_length : (fault : CertFault) → length (decimal fault.line) ≤ 20 → length (cert_text fault) ≤ 60
cert_length fault short = cert_kind_length fault.line fault.kind short

pub axis_length : (axis : Axis) → length (axis_text axis) ≤ 1
axis_length X = lit≤ tt
axis_length Y = lit≤ tt

-- a text that is cut off and added to, and cut off again
pub cut_twice : {A : Type 0} (room : ℕ) (xs ys : List A) → take room (take room xs ++ ys) ≡ take room (xs ++ ys)
cut_twice zero xs ys = refl
cut_twice (suc room) [] ys = refl
cut_twice (suc room) (x ∷ xs) ys = ap (λ zs. x ∷ zs) (cut_twice room xs ys)

-- a front of the text, as long as there is room, was put after what is held
pub fitted : (held text part new : List ℕ) (count : ℕ) → length held ≤ NOTE_ROOM →
    count ≡ min (NOTE_ROOM - length held) (length text) → part ≡ take count text → new ≡ held ++ part → IsAppended held new text
fitted held text part new count within most front is =
    let room = NOTE_ROOM - length held in
    let cut : take count text ≡ take room text = ap (λ n. take n text) most ∙ take_min room text in
    let all : length held + room ≡ NOTE_ROOM = omega arith in
    record {
      added = is ∙ ap (λ xs. held ++ xs) (front ∙ cut) ∙ sym (take-append-add held text room)
          ∙ ap (λ n. take n (held ++ text)) all;
    }

-- two additions are one
pub then : {old mid new s t : List ℕ} → IsAppended old mid s → IsAppended mid new t → IsAppended old new (s ++ t)
then {old = old} {mid = mid} {new = new} {s = s} {t = t} first second = record {
  added = second.added ∙ ap (λ xs. take NOTE_ROOM (xs ++ t)) first.added ∙ cut_twice NOTE_ROOM (old ++ s) t
      ∙ ap (take NOTE_ROOM) (append_assoc old s t);
}

-- a text that fits was added whole
pub added_whole : {new text : List ℕ} → IsAppended [] new text → length text ≤ NOTE_ROOM → new ≡ text
added_whole {text = text} is fits = is.added ∙ take_all NOTE_ROOM text fits
