-- What the reader makes of a text, as a function.
use Rattle.std.specs.Prelude.{◌≡◌, ℕ, zero, suc, ◌+◌, ◌-◌, ◌≤◌, List, [], ◌∷◌, ◌++◌, length, take}
use Rattle.std.specs.Prelude.{drop, reverse, min, Option, None, Some, Result, Ok, Err, IfOk, ◌==◌}
use Rattle.std.specs.Prelude.{nat_le, not, slice_index, slice_get, if◌then◌else◌}
use Rattle.std.specs.List.{prefix_len, take_while}
use Rattle.compact_types.specs.declared.refusal.Refusal.{Refusal}
use Rattle.compact_types.specs.declared.refusal.Refusal.TheVariants.{Fault, NoMemory}
use Rattle.gml_text.specs.declared.fault.GmlFault.{GmlFault}
use Rattle.gml_text.specs.declared.fault.GmlKind.{GmlKind}
use Rattle.gml_text.specs.declared.fault.GmlKind.TheVariants.{BadKey, BadValue, BadNumeral}
use Rattle.gml_text.specs.declared.fault.GmlKind.TheVariants.{OpenString, OpenList, StrayClose}
use Rattle.gml_text.specs.declared.fault.GmlKind.TheVariants.{TooDeep}
use Rattle.gml_text.specs.declared.limits.TheConstants.{MOST_DEPTH}
use Rattle.gml_text.specs.declared.marks.TheConstants.{LINE_FEED, QUOTE, HASH}
use Rattle.gml_text.specs.declared.marks.TheConstants.{OPENING_BRACKET, CLOSING_BRACKET}
use Rattle.gml_text.specs.declared.number.NumeralKind.{NumeralKind}
use Rattle.gml_text.specs.declared.number.NumeralKind.TheVariants as kinds
use Rattle.gml_text.specs.declared.reader.Parent.{Parent}
use Rattle.gml_text.specs.declared.reader.Reader.{Reader}
use Rattle.gml_text.specs.declared.tree.Tree.{Tree, roll-Tree}
use Rattle.gml_text.specs.declared.tree.Pair.{Pair}
use Rattle.gml_text.specs.declared.tree.Value.{Value}
use Rattle.gml_text.specs.declared.tree.Value.TheVariants.{Whole, Real, Text, Inner}
use Rattle.gml_text.specs.Bytes.{is_space, is_word_byte, is_key, begins_numeral}
use Rattle.gml_text.specs.NumeralKinds.{kind_of}

-- what was read of a text up to a place where a key may stand: the lists around the innermost open
-- one, the innermost first; its pairs; how many bytes
pub record ReaderState : Type 0 where
  pub parents : List Parent
  pub pairs : List Pair
  pub at : ℕ

abbrev pub reader_state : Reader → ReaderState
reader_state reader = record {
  parents = reverse reader.parents;
  pairs = reader.pairs;
  at = reader.at;
}

-- what comes of the front of a text: the next place where a key may stand, or a fault
pub data ReaderStep : Type 0 where
  goes_on : ReaderState → ReaderStep
  stops : GmlFault → ReaderStep

-- the call took this step, unless memory was refused
abbrev pub IsReaderStep : Result Reader (Refusal GmlFault) → ReaderStep → Type 0
IsReaderStep (Ok reader) step = step ≡ goes_on (reader_state reader)
IsReaderStep (Err (Fault fault)) step = step ≡ stops fault
IsReaderStep (Err NoMemory) step = Unit {0}

-- the place after the step is between these two
abbrev pub IsForward : Result Reader (Refusal GmlFault) → ℕ → ℕ → Type 0
IsForward result low high = IfOk result (λ next. (low ≤ next.at) × (next.at ≤ high))

abbrev pub stop_at : ℕ → GmlKind → ReaderStep
stop_at at kind = stops (record { at = at; kind = kind })

abbrev pub moved_to : ReaderState → ℕ → ReaderState
moved_to s at = record { parents = s.parents; pairs = s.pairs; at = at }

-- one more pair, whose value ends before the place
abbrev pub with_pair : ReaderState → Pair → ℕ → ReaderState
with_pair s pair at = record { parents = s.parents; pairs = s.pairs ++ pair ∷ []; at = at }

-- a comment goes over its line feed, or to the end
abbrev pub after_comment : ReaderState → List ℕ → ReaderState
after_comment s text =
    moved_to s (s.at + min (prefix_len (λ b. not (b == LINE_FEED)) text + 1) (length text))

-- the pair of a list that closes
abbrev pub closed : Parent → List Pair → Pair
closed parent pairs =
    let inner : Tree = roll-Tree (record { pairs = pairs }) in
    record { key = parent.key; value = Inner inner; at = parent.at }

abbrev pub close_in : List Parent → List Pair → ℕ → ReaderStep
close_in [] pairs at = stop_at at StrayClose
close_in (parent ∷ parents) pairs at =
    goes_on (record {
      parents = parents;
      pairs = parent.before ++ closed parent pairs ∷ [];
      at = at + 1;
    })

abbrev pub close_list : ReaderState → ReaderStep
close_list s = close_in s.parents s.pairs s.at

abbrev pub text_pair : List ℕ → List ℕ → ℕ → Pair
text_pair key inside at = record { key = key; value = Text inside; at = at }

-- the bytes after a quote, of which so many stand before the next quote
abbrev pub read_inside : ReaderState → List ℕ → ℕ → List ℕ → ℕ → ReaderStep
read_inside s key at inside size =
    if size == length inside then stop_at at OpenString
    else goes_on (with_pair s (text_pair key (take size inside) at) (at + size + 2))

-- a string, whose first quote is the text's first byte
abbrev pub read_string : ReaderState → List ℕ → ℕ → List ℕ → ReaderStep
read_string s key at text =
    read_inside s key at (drop 1 text) (prefix_len (λ b. not (b == QUOTE)) (drop 1 text))

-- a `[`
abbrev pub begin_list : ReaderState → List ℕ → ℕ → ReaderStep
begin_list s key at =
    if nat_le MOST_DEPTH (length s.parents) then stop_at at TooDeep
    else goes_on (record {
      parents = record { before = s.pairs; key = key; at = at } ∷ s.parents;
      pairs = [];
      at = at + 1;
    })

abbrev pub numeral_value : NumeralKind → List ℕ → Value
numeral_value kinds.Whole word = Whole word
numeral_value kinds.Real word = Real word

abbrev pub numeral_pair : NumeralKind → List ℕ → List ℕ → ℕ → Pair
numeral_pair kind key word at = record { key = key; value = numeral_value kind word; at = at }

abbrev pub read_numeral_of : Option NumeralKind → ReaderState → List ℕ → ℕ → List ℕ → ReaderStep
read_numeral_of None s key at word = stop_at at BadNumeral
read_numeral_of (Some kind) s key at word =
    goes_on (with_pair s (numeral_pair kind key word at) (at + length word))

-- a word that begins as a numeral
abbrev pub read_numeral : ReaderState → List ℕ → ℕ → List ℕ → ReaderStep
read_numeral s key at text =
    read_numeral_of (kind_of (take_while is_word_byte text)) s key at (take_while is_word_byte text)

abbrev pub read_value_from : Option ℕ → ReaderState → List ℕ → ℕ → List ℕ → ReaderStep
read_value_from None s key at text = stop_at at BadValue
read_value_from (Some b) s key at text =
    if b == QUOTE then read_string s key at text
    else if b == OPENING_BRACKET then begin_list s key at
    else if begins_numeral b then read_numeral s key at text
    else stop_at at BadValue

-- after a key and white space
abbrev pub read_value : ReaderState → List ℕ → ℕ → List ℕ → ReaderStep
read_value s key at text = read_value_from (slice_get text 0) s key at text

-- after a word that stands where a key may stand
abbrev pub read_after : ReaderState → List ℕ → List ℕ → ReaderStep
read_after s word rest =
    if is_key word
    then read_value s word (s.at + (length word + length (take_while is_space rest)))
    (drop (prefix_len is_space rest) rest)
    else stop_at s.at BadKey

abbrev pub read_pair : ReaderState → List ℕ → ReaderStep
read_pair s text =
    read_after s (take_while is_word_byte text) (drop (prefix_len is_word_byte text) text)

-- what stands at the front of a text that is not empty
unfoldable pub reader_step : ReaderState → List ℕ → ReaderStep
reader_step s text =
    if is_space (slice_index text 0) then goes_on (moved_to s (s.at + 1))
    else if slice_index text 0 == HASH then goes_on (after_comment s text)
    else if slice_index text 0 == CLOSING_BRACKET then close_list s
    else read_pair s text

abbrev pub finish_in : List Parent → List Pair → Result Tree GmlFault
finish_in [] pairs = Ok (roll-Tree (record { pairs = pairs }))
finish_in (parent ∷ parents) pairs = Err (record { at = parent.at; kind = OpenList })

-- where the text ends
abbrev pub finish : ReaderState → Result Tree GmlFault
finish s = finish_in s.parents s.pairs

-- the answer after a step
abbrev pub after_step : ReaderStep → (ReaderState → Result Tree GmlFault) → Result Tree GmlFault
after_step (goes_on next) answer = answer next
after_step (stops fault) answer = Err fault

-- the steps up to the text's end or to a fault; so many first bytes of the text are taken already
abbrev pub run : ℕ → ReaderState → List ℕ → Result Tree GmlFault
run skip s [] = finish s
run zero s (b ∷ text) =
    after_step (reader_step s (b ∷ text)) (λ next. run (next.at - suc s.at) next text)
run (suc skip) s (b ∷ text) = run skip s text

abbrev pub at_the_start : ReaderState
at_the_start = record { parents = []; pairs = []; at = 0 }

-- what the reader answers for a whole text
abbrev pub answer_of : List ℕ → Result Tree GmlFault
answer_of text = run 0 at_the_start text
