-- Items read one after another.
use Rattle.std.proofs.Common.{◌≡◌, ℕ, zero, suc, ◌+◌, ◌<◌, ◌≤◌, false, List, [], ◌∷◌, ◌++◌, length}
use Rattle.std.proofs.Common.{None, Some, refl, sym, ap, ◌∙◌, arith, length-append}
use Rattle.std.specs.List.{flat_map}
use Rattle.std.proofs.lemmas.List.{append-nil, append_assoc, length_push}
use Rattle.cert_text.specs.inner.Reading.{Front, items_of, with_others}
use Rattle.cert_text.proofs.ReadNumbers.{begins_digit}

-- these items stand one after another, no further one does, and this follows them
abbrev pub AreRead : {A : Type 0} → (ℕ → List ℕ → Front A) → (A → ℕ) → ℕ → List ℕ → List A →
    List ℕ → Type 0
AreRead read next state text [] rest = (read state text ≡ None) × (text ≡ rest)
AreRead read next state text (item ∷ items) rest =
    (after : List ℕ) × (read state text ≡ Some (item, after))
    × AreRead read next (next item) after items rest

-- the items that are still to be read are all that follow those read so far
pub record IsReadSoFar {A : Type 0} (read : ℕ → List ℕ → Front A) (next : A → ℕ)
    (text : List ℕ) (items : List A) (state : ℕ) (rest : List ℕ) : Type 0 where
  pub whole : (more : List A) (after : List ℕ) → AreRead read next state rest more after →
      AreRead read next 0 text (items ++ more) after
  pub few : length items + length rest ≤ length text

abbrev none_before : {A : Type 0} → List ℕ → List A × List ℕ
none_before rest = ([], rest)

pub items_are : {A : Type 0} (read : ℕ → List ℕ → Front A) (next : A → ℕ) (most state : ℕ)
    (text : List ℕ) (items : List A) (rest : List ℕ) → AreRead read next state text items rest →
    length items ≤ most → items_of read next most state text ≡ (items, rest)
items_are {A} read next zero state text [] rest h few = ap (none_before {A = A}) (h.1)
items_are {A} read next (suc most) state text [] rest h few =
    ap (with_others text (λ item after. items_of read next most (next item) after)) (h.0)
    ∙ ap (none_before {A = A}) (h.1)
items_are {A} read next zero state text (item ∷ items) rest h few = absurd (omega arith)
items_are {A} read next (suc most) state text (item ∷ items) rest h few =
    ap (with_others text (λ item after. items_of read next most (next item) after)) (h.1)
    ∙ ap (λ (found : List A × List ℕ). let all : List A × List ℕ = (item ∷ found.0, found.1) in all)
    (items_are read next most (next item) (h.0) items rest (h.2) (omega arith))

pub read_none : {A : Type 0} (read : ℕ → List ℕ → Front A) (next : A → ℕ) (text : List ℕ)
    (items : List A) →
    items ≡ [] → IsReadSoFar read next text items 0 text
read_none read next text items e = rw e (record { whole = λ more after h. h; few = omega arith })

pub read_more : {A : Type 0} (read : ℕ → List ℕ → Front A) (next : A → ℕ) (text : List ℕ)
    (items : List A) (state : ℕ) (rest : List ℕ) (item : A) (after : List ℕ) (new : List A) →
    IsReadSoFar read next text items state rest → read state rest ≡ Some (item, after) →
    length after < length rest → new ≡ items ++ item ∷ [] →
    IsReadSoFar read next text new (next item) after
read_more read next text items state rest item after new so found shorter e = rw e (record {
  whole = λ more end h. rw (append_assoc items (item ∷ []) more)
      (so.whole (item ∷ more) end (after, found, h));
  few = omega (arith, so.few, length_push items item);
})

pub read_all : {A : Type 0} (read : ℕ → List ℕ → Front A) (next : A → ℕ) (text : List ℕ)
    (items : List A) (state : ℕ) (rest : List ℕ) →
    IsReadSoFar read next text items state rest → read state rest ≡ None →
    items_of read next (length text) 0 text ≡ (items, rest)
read_all read next text items state rest so none =
    let all : AreRead read next 0 text items rest =
    rw (append-nil items) at (so.whole [] rest (none, refl)) in
    items_are read next (length text) 0 text items rest all (omega (arith, so.few))

-- what the reading of one item gives, and that it gives all that there is
pub record IsReader {A : Type 0} (read : ℕ → List ℕ → Front A) (item_text : A → List ℕ)
    (Fits : ℕ → A → Type 0) : Type 0 where
  pub is : (state : ℕ) (text : List ℕ) (item : A) (rest : List ℕ) →
      read state text ≡ Some (item, rest) → (text ≡ item_text item ++ rest) × Fits state item
  pub is_read : (state : ℕ) (item : A) (rest : List ℕ) → Fits state item →
      begins_digit rest ≡ false → read state (item_text item ++ rest) ≡ Some (item, rest)
  pub behind : (item : A) (rest : List ℕ) → begins_digit (item_text item ++ rest) ≡ false
  pub some : (item : A) → 1 ≤ length (item_text item)

-- each item fits behind the one before it
abbrev pub DoFit : {A : Type 0} → (ℕ → A → Type 0) → (A → ℕ) → ℕ → List A → Type 0
DoFit Fits next state [] = Unit {0}
DoFit Fits next state (item ∷ items) = Fits state item × DoFit Fits next (next item) items

-- the items that are found are those of the text
pub record AreFound {A : Type 0} (item_text : A → List ℕ) (Fits : ℕ → A → Type 0) (next : A → ℕ)
    (state : ℕ) (text : List ℕ) (found : List A × List ℕ) : Type 0 where
  pub cut : text ≡ flat_map item_text found.0 ++ found.1
  pub fit : DoFit Fits next state found.0

module _ {A : Type 0} (read : ℕ → List ℕ → Front A) (item_text : A → List ℕ)
    (Fits : ℕ → A → Type 0) (next : A → ℕ) (reader : IsReader read item_text Fits) where
  with_others_found : (state : ℕ) (text : List ℕ) (others : A → List ℕ → List A × List ℕ) →
      ((item : A) (after : List ℕ) → AreFound item_text Fits next (next item) after
      (others item after)) →
      (found : Front A) → read state text ≡ found →
      AreFound item_text Fits next state text (with_others text others found)
  with_others_found state text others each None h = record { cut = refl; fit = tt }
  with_others_found state text others each (Some (item, after)) h =
      let one = reader.is state text item after h in
      record {
        cut = one.0 ∙ ap (λ end. item_text item ++ end) ((each item after).cut)
            ∙ sym (append_assoc (item_text item) (flat_map item_text (others item after).0)
            (others item after).1);
        fit = (one.1, (each item after).fit);
      }

  pub items_found : (most state : ℕ) (text : List ℕ) →
      AreFound item_text Fits next state text (items_of read next most state text)
  items_found zero state text = record { cut = refl; fit = tt }
  items_found (suc most) state text =
      with_others_found state text (λ item after. items_of read next most (next item) after)
      (λ item after. items_found most (next item) after) (read state text) refl

  pub behind_items : (items : List A) (rest : List ℕ) → begins_digit rest ≡ false →
      begins_digit (flat_map item_text items ++ rest) ≡ false
  behind_items [] rest h = h
  behind_items (item ∷ items) rest h =
      ap begins_digit (append_assoc (item_text item) (flat_map item_text items) rest)
      ∙ reader.behind item (flat_map item_text items ++ rest)

  will_be_read : (state : ℕ) (items : List A) (rest : List ℕ) → DoFit Fits next state items →
      begins_digit rest ≡ false → ((s : ℕ) → read s rest ≡ None) →
      AreRead read next state (flat_map item_text items ++ rest) items rest
  will_be_read state [] rest fit end stop = (stop state, refl)
  will_be_read state (item ∷ items) rest fit end stop = (
    flat_map item_text items ++ rest,
    ap (read state) (append_assoc (item_text item) (flat_map item_text items) rest)
        ∙ reader.is_read state item (flat_map item_text items ++ rest) (fit.0)
        (behind_items items rest end),
    will_be_read (next item) items rest (fit.1) end stop,
  )

  enough_text : (items : List A) (rest : List ℕ) →
      length items ≤ length (flat_map item_text items ++ rest)
  enough_text [] rest = omega arith
  enough_text (item ∷ items) rest =
      rw (
        append_assoc (item_text item) (flat_map item_text items) rest,
        length-append (item_text item) (flat_map item_text items ++ rest),
      )
      (omega (arith, enough_text items rest, reader.some item))

  pub items_are_read : (items : List A) (rest : List ℕ) → DoFit Fits next 0 items →
      begins_digit rest ≡ false → ((s : ℕ) → read s rest ≡ None) →
      items_of read next (length (flat_map item_text items ++ rest)) 0
      (flat_map item_text items ++ rest) ≡ (items, rest)
  items_are_read items rest fit end stop =
      items_are read next (length (flat_map item_text items ++ rest)) 0
      (flat_map item_text items ++ rest) items rest
      (will_be_read 0 items rest fit end stop) (enough_text items rest)
