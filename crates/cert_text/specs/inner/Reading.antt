-- What stands at the front of a text, as the reader computes it.
use Rattle.std.specs.Prelude.{ℕ, zero, suc, ◌+◌, ◌-◌, ◌*◌, ◌==◌, nat_lt, nat_le, ◌&&◌}
use Rattle.std.specs.Prelude.{if◌then◌else◌}
use Rattle.std.specs.Prelude.{List, [], ◌∷◌, length, codes, Option, None, Some, option_and_then}
use Rattle.compact_types.specs.declared.places.Axis.{Axis}
use Rattle.compact_types.specs.declared.places.Axis.TheVariants.{X, Y}
use Rattle.compact_types.specs.declared.limits.TheConstants.{MOST_PITCH}
use Rattle.gml_text.specs.declared.marks.TheConstants.{LINE_FEED, SPACE, ZERO}
use Rattle.gml_text.specs.Bytes.{is_digit}
use Rattle.shape_graphs.specs.declared.graph.TheConstants.{MOST_AMOUNT}
use Rattle.cert_text.specs.declared.reading.loads.TheConstants.{COLON}
use Rattle.cert_text.specs.declared.tree.CertNode.{CertNode}
use Rattle.cert_text.specs.declared.tree.CertNode.TheVariants.{Split, Bound, Cycle}
use Rattle.cert_text.specs.declared.tree.Load.{Load}
use Rattle.cert_text.specs.declared.tree.TheConstants.{MOST_NUMBER}

-- what is found at the front, and what follows it
abbrev pub Front : Type 0 → Type 0
Front A = Option (A × List ℕ)

infixl 10 ◌>>=◌
abbrev pub ◌>>=◌ : {A B : Type 0} → Option A → (A → Option B) → Option B
o >>= f = option_and_then f o

-- what follows the byte
abbrev pub after_byte : ℕ → List ℕ → Option (List ℕ)
after_byte byte [] = None
after_byte byte (b ∷ text) = if b == byte then Some text else None

-- what follows the word
unfoldable pub after_word : List ℕ → List ℕ → Option (List ℕ)
after_word [] text = Some text
after_word (byte ∷ word) text = after_byte byte text >>= after_word word

-- the number of the digits after those of another number; none where it is too large
abbrev pub digits_from : ℕ → ℕ → List ℕ → Front ℕ
digits_from most before [] = Some (before, [])
digits_from most before (b ∷ text) =
    if is_digit b
    then (let number = before * 10 + (b - ZERO) in
    if nat_lt most number then None else digits_from most number text)
    else Some (before, b ∷ text)

-- a number of at most so much: its digits go on as far as they can, but for those after a zero
unfoldable pub number_read : ℕ → List ℕ → Front ℕ
number_read most [] = None
number_read most (b ∷ text) =
    if b == ZERO then Some (0, text)
    else (if is_digit b then digits_from most (b - ZERO) text else None)

-- a load whose arc is at least so great
unfoldable pub load_read : ℕ → List ℕ → Front Load
load_read least text = do
  behind ← after_byte SPACE text
  arc ← number_read MOST_NUMBER behind
  more ← after_byte COLON arc.1
  amount ← number_read MOST_AMOUNT more
  if nat_le least arc.0 && nat_le 1 amount.0
      then Some (record { arc = arc.0; amount = amount.0 }, amount.1)
      else None

-- an arc behind a space; it may be any one
unfoldable pub arc_of : ℕ → List ℕ → Front ℕ
arc_of least text = after_byte SPACE text >>= number_read MOST_NUMBER

-- an item that was found at the front, and those after it
abbrev pub with_others : {A : Type 0} →
    List ℕ → (A → List ℕ → List A × List ℕ) → Front A → List A × List ℕ
with_others text others None = ([], text)
with_others text others (Some found) =
    (found.0 ∷ (others found.0 found.1).0, (others found.0 found.1).1)

-- Items one after another, as long as one can be read, and at most so many. What an item may be is
-- told by a number that the item before it gives.
abbrev pub items_of : {A : Type 0} →
    (ℕ → List ℕ → Front A) → (A → ℕ) → ℕ → ℕ → List ℕ → List A × List ℕ
items_of read next zero state text = ([], text)
items_of read next (suc most) state text =
    with_others text (λ item after. items_of read next most (next item) after) (read state text)

-- the least arc that a load may have after this one
abbrev pub arc_after : Load → ℕ
arc_after load = load.arc + 1

-- any arc may come after an arc
abbrev pub no_bound : ℕ → ℕ
no_bound arc = 0

-- loads by rising arcs, and what follows them
unfoldable pub loads_of : List ℕ → List Load × List ℕ
loads_of text = items_of load_read arc_after (length text) 0 text

-- arcs, and what follows them
unfoldable pub arcs_read : List ℕ → List ℕ × List ℕ
arcs_read text = items_of arc_of no_bound (length text) 0 text

-- the value, where nothing is left of the line
abbrev pub at_end : {A : Type 0} → A → List ℕ → Option A
at_end value [] = Some value
at_end value (b ∷ text) = None

-- the rest of the line of a split, of a bound and of a cycle
unfoldable pub split_of : List ℕ → Option CertNode
split_of text = do
  s ← number_read MOST_NUMBER text
  more ← after_byte SPACE s.1
  t ← number_read MOST_NUMBER more
  at_end (Split s.0 t.0) t.1

unfoldable pub bound_read : List ℕ → Option CertNode
bound_read text = do
  more ← after_word (codes " y") (loads_of text).1
  at_end (Bound (loads_of text).0 (loads_of more).0) (loads_of more).1

abbrev pub cycle_from : Axis → List ℕ × List ℕ → Option CertNode
cycle_from axis ([], rest) = None
cycle_from axis (arc ∷ arcs, rest) = at_end (Cycle axis (arc ∷ arcs)) rest

unfoldable pub cycle_of : Axis → List ℕ → Option CertNode
cycle_of axis text = cycle_from axis (arcs_read text)

abbrev pub by_word : {A B : Type 0} → Option A → (A → B) → B → B
by_word None value otherwise = otherwise
by_word (Some text) value otherwise = value text

-- the entry of a line without its line feed
unfoldable pub entry_of : List ℕ → Option CertNode
entry_of line =
    by_word (after_word (codes "#! split ") line) split_of
    (by_word (after_word (codes "#! bound x") line) bound_read
    (by_word (after_word (codes "#! cycle x") line) (cycle_of X)
    (by_word (after_word (codes "#! cycle y") line) (cycle_of Y) None)))

-- the pitch of a head line, and what follows the line
unfoldable pub head_of : List ℕ → Front ℕ
head_of text = do
  number ← after_word (codes "#! compaction 1 pitch ") text
  pitch ← number_read MOST_PITCH number
  after ← after_byte LINE_FEED pitch.1
  if nat_le 1 pitch.0 then Some (pitch.0, after) else None
