-- The loads and the arcs of an entry.
use Rattle.std.proofs.Common.{◌≡◌, ℕ, zero, suc, ◌<◌, ◌≤◌, true, false, nat_le, ◌&&◌, List, [], ◌∷◌}
use Rattle.std.proofs.Common.{◌++◌, length, None, Some, decimal, refl, sym, ap, ◌∙◌, arith, lit≤}
use Rattle.std.proofs.Common.{lit<}
use Rattle.std.specs.Prelude.{codes, All}
use Rattle.std.specs.List.{flat_map}
use Rattle.std.proofs.lemmas.Bool.{and_parts}
use Rattle.std.proofs.lemmas.Bool.Decides.{nat_tests}
use Rattle.std.proofs.lemmas.List.{append-nil, append_assoc}
use Rattle.std.proofs.lemmas.List.Elements.{All-nil, All-cons, All-head, All-tail}
use Rattle.shape_graphs.specs.declared.graph.TheConstants.{MOST_AMOUNT}
use Rattle.cert_text.specs.declared.tree.Load.{Load}
use Rattle.cert_text.specs.declared.tree.TheConstants.{MOST_NUMBER}
use Rattle.cert_text.specs.Loads.{AreLoads, IsLoad, IsSmall, load_at}
use Rattle.cert_text.specs.Texts.{arcs_text, load_text, loads_text}
use Rattle.cert_text.specs.inner.Reading.{after_byte, arc_after, arc_of, arcs_read, load_read, loads_of}
use Rattle.cert_text.specs.inner.Reading.{no_bound, number_read}
use Rattle.cert_text.proofs.PrintedLists.{arc_text, arcs_text_parts, loads_text_parts}
use Rattle.cert_text.proofs.ReadItems.{DoFit, IsReader, items_are_read, items_found}
use Rattle.cert_text.proofs.ReadNumbers.{IsLimit, begins_digit, number_is, number_is_read}
use Rattle.cert_text.proofs.ReadWords.{after_byte_is, bind_some, cond_some}

pub number_limit : IsLimit MOST_NUMBER
number_limit = record { high = lit≤ tt; low = lit< tt }

amount_limit : IsLimit MOST_AMOUNT
amount_limit = record { high = lit≤ tt; low = lit< tt }

load_front : (load : Load) (rest : List ℕ) →
    load_text load ++ rest ≡ 32 ∷ (decimal load.arc ++ 58 ∷ (decimal load.amount ++ rest))
load_front load rest =
    ap (λ end. 32 ∷ end) (append_assoc (decimal load.arc ++ 58 ∷ []) (decimal load.amount) rest
    ∙ append_assoc (decimal load.arc) (58 ∷ []) (decimal load.amount ++ rest))

abbrev FitsLoad : ℕ → Load → Type 0
FitsLoad least load = (least ≤ load.arc) × IsLoad load

load_is : (least : ℕ) (text : List ℕ) (load : Load) (rest : List ℕ) →
    load_read least text ≡ Some (load, rest) → (text ≡ load_text load ++ rest) × FitsLoad least load
unfolding load_read
load_is least text load rest h =
    let space = bind_some (after_byte 32 text) _ (load, rest) h in
    let arc = bind_some (number_read MOST_NUMBER (space.0)) _ (load, rest) (space.2) in
    let colon = bind_some (after_byte 58 (arc.0.1)) _ (load, rest) (arc.2) in
    let amount = bind_some (number_read MOST_AMOUNT (colon.0)) _ (load, rest) (colon.2) in
    let tests = cond_some (nat_le least (arc.0.0) && nat_le 1 (amount.0.0))
    (record { arc = arc.0.0; amount = amount.0.0 }, amount.0.1) (load, rest) (amount.2) in
    let both = and_parts (nat_le least (arc.0.0)) (nat_le 1 (amount.0.0)) (tests.0) in
    let arc_is = number_is MOST_NUMBER (space.0) (arc.0.0) (arc.0.1) number_limit (arc.1) in
    let amount_is = number_is MOST_AMOUNT (colon.0) (amount.0.0) (amount.0.1) amount_limit
    (amount.1) in
    let same_load : record { arc = arc.0.0; amount = amount.0.0 } ≡ load =
    ap (λ (p : Load × List ℕ). p.0) (tests.1) in
    let same_arc : arc.0.0 ≡ load.arc = ap (λ (l : Load). l.arc) same_load in
    let same_amount : amount.0.0 ≡ load.amount = ap (λ (l : Load). l.amount) same_load in
    let same_rest : amount.0.1 ≡ rest = ap (λ (p : Load × List ℕ). p.1) (tests.1) in
    let cut : text ≡ 32 ∷ (decimal load.arc ++ 58 ∷ (decimal load.amount ++ rest)) =
    after_byte_is 32 text (space.0) (space.1)
    ∙ ap (λ end. 32 ∷ end) (arc_is.cut
    ∙ rw same_arc (ap (λ end. decimal load.arc ++ end)
    (after_byte_is 58 (arc.0.1) (colon.0) (colon.1)
    ∙ ap (λ end. 58 ∷ end) (amount_is.cut ∙ rw (same_amount, same_rest) refl)))) in (
      cut ∙ sym (load_front load rest),
      (
        grind (arith, nat_tests, both.0, same_arc),
        record {
          arc = omega (arith, arc_is.within, same_arc);
          some = grind (arith, nat_tests, both.1, same_amount);
          most = omega (arith, amount_is.within, same_amount);
        },
      ),
    )

load_is_read : (least : ℕ) (load : Load) (rest : List ℕ) → FitsLoad least load →
    begins_digit rest ≡ false → load_read least (load_text load ++ rest) ≡ Some (load, rest)
unfolding load_read
load_is_read least load rest fits end =
    let low : nat_le least load.arc ≡ true = grind (arith, nat_tests, fits.0) in
    let some : nat_le 1 load.amount ≡ true = grind (arith, nat_tests, fits.1.some) in
    ap (load_read least) (load_front load rest) ∙ rw (
      number_is_read MOST_NUMBER load.arc (58 ∷ (decimal load.amount ++ rest)) number_limit
          (fits.1.arc) refl,
      number_is_read MOST_AMOUNT load.amount rest amount_limit (fits.1.most) end,
      low,
      some,
    ) refl

load_reader : IsReader load_read load_text FitsLoad
load_reader = record {
  is = load_is;
  is_read = load_is_read;
  behind = λ load rest. ap begins_digit (load_front load rest);
  some = λ load. omega arith;
}

-- the first arc is at least so great
abbrev BeginsAt : ℕ → List Load → Type 0
BeginsAt least loads = 0 < length loads → least ≤ (load_at loads 0).arc

loads_fit : (least : ℕ) (loads : List Load) → AreLoads loads → BeginsAt least loads →
    DoFit FitsLoad arc_after least loads
loads_fit least [] are begins = tt
loads_fit least (load ∷ loads) are begins = (
  (begins (omega arith), All-head IsLoad load loads (are.each)),
  loads_fit (arc_after load) loads (record {
    each = All-tail IsLoad load loads (are.each);
    rising = λ i h. are.rising (suc i) (omega arith);
  }) (λ h. omega (arith, are.rising 0 (omega arith))),
)

fitting_loads : (least : ℕ) (loads : List Load) → DoFit FitsLoad arc_after least loads →
    AreLoads loads × BeginsAt least loads
fitting_loads least [] fit = (
  record { each = All-nil IsLoad; rising = λ i h. absurd (omega arith) },
  λ h. absurd (omega arith),
)
fitting_loads least (load ∷ loads) fit =
    let more = fitting_loads (arc_after load) loads (fit.1) in (
      record {
        each = All-cons IsLoad load loads (fit.0.1) (more.0.each);
        rising = λ i. rising_behind load loads (more.0) (more.1) i;
      },
      λ h. fit.0.0,
    )
  where
    rising_behind : (load : Load) (loads : List Load) → AreLoads loads →
        BeginsAt (arc_after load) loads →
        (i : ℕ) → suc i < suc (length loads) → (load_at (load ∷ loads) i).arc <
        (load_at (load ∷ loads) (suc i)).arc
    rising_behind load loads are begins zero h = omega (arith, begins (omega arith))
    rising_behind load loads are begins (suc i) h = are.rising i (omega arith)

-- loads are found at the front of a text
pub record HasLoads (text : List ℕ) (loads : List Load) (rest : List ℕ) : Type 0 where
  pub cut : text ≡ loads_text loads ++ rest
  pub are : AreLoads loads

pub loads_are : (text : List ℕ) → HasLoads text (loads_of text).0 (loads_of text).1
unfolding loads_of
loads_are text =
    let found = items_found load_read load_text FitsLoad arc_after load_reader (length text) 0 text in
    record {
      cut = found.cut ∙ ap (λ front. front ++ (loads_of text).1)
          (sym (loads_text_parts (loads_of text).0));
      are = (fitting_loads 0 (loads_of text).0 (found.fit)).0;
    }

pub loads_are_read : (loads : List Load) (rest : List ℕ) → AreLoads loads →
    begins_digit rest ≡ false →
    ((least : ℕ) → load_read least rest ≡ None) → loads_of (loads_text loads ++ rest) ≡ (loads, rest)
unfolding loads_of
loads_are_read loads rest are end stop = rw (loads_text_parts loads)
    (items_are_read load_read load_text FitsLoad arc_after load_reader loads rest
    (loads_fit 0 loads are (λ h. omega arith)) end stop)

pub no_load_at_end : (least : ℕ) → load_read least [] ≡ None
unfolding load_read
no_load_at_end least = refl

pub no_load_at_y : (least : ℕ) (text : List ℕ) → load_read least (32 ∷ 121 ∷ text) ≡ None
unfolding load_read number_read
no_load_at_y least text = refl

abbrev FitsArc : ℕ → ℕ → Type 0
FitsArc least arc = IsSmall arc

arc_is : (least : ℕ) (text : List ℕ) (arc : ℕ) (rest : List ℕ) →
    arc_of least text ≡ Some (arc, rest) → (text ≡ arc_text arc ++ rest) × FitsArc least arc
unfolding arc_of
arc_is least text arc rest h =
    let space = bind_some (after_byte 32 text) _ (arc, rest) h in
    let is = number_is MOST_NUMBER (space.0) arc rest number_limit (space.2) in
    (after_byte_is 32 text (space.0) (space.1) ∙ ap (λ end. 32 ∷ end) (is.cut), is.within)

arc_is_read : (least arc : ℕ) (rest : List ℕ) → FitsArc least arc → begins_digit rest ≡ false →
    arc_of least (arc_text arc ++ rest) ≡ Some (arc, rest)
unfolding arc_of
arc_is_read least arc rest fits end = number_is_read MOST_NUMBER arc rest number_limit fits end

arc_reader : IsReader arc_of arc_text FitsArc
arc_reader = record {
  is = arc_is;
  is_read = arc_is_read;
  behind = λ arc rest. refl;
  some = λ arc. omega arith;
}

arcs_fit : (arcs : List ℕ) → All IsSmall arcs → DoFit FitsArc no_bound 0 arcs
arcs_fit [] small = tt
arcs_fit (arc ∷ arcs) small =
    (All-head IsSmall arc arcs small, arcs_fit arcs (All-tail IsSmall arc arcs small))

fitting_arcs : (arcs : List ℕ) → DoFit FitsArc no_bound 0 arcs → All IsSmall arcs
fitting_arcs [] fit = All-nil IsSmall
fitting_arcs (arc ∷ arcs) fit = All-cons IsSmall arc arcs (fit.0) (fitting_arcs arcs (fit.1))

-- arcs are found at the front of a text
pub record HasArcs (text arcs rest : List ℕ) : Type 0 where
  pub cut : text ≡ arcs_text arcs ++ rest
  pub small : All IsSmall arcs

pub arcs_are : (text : List ℕ) → HasArcs text (arcs_read text).0 (arcs_read text).1
unfolding arcs_read
arcs_are text =
    let found = items_found arc_of arc_text FitsArc no_bound arc_reader (length text) 0 text in
    record {
      cut = found.cut ∙ ap (λ front. front ++ (arcs_read text).1) (sym (arcs_text_parts (arcs_read text).0));
      small = fitting_arcs (arcs_read text).0 (found.fit);
    }

no_arc_at_end : (least : ℕ) → arc_of least [] ≡ None
unfolding arc_of
no_arc_at_end least = refl

pub arcs_are_read : (arcs : List ℕ) → All IsSmall arcs → arcs_read (arcs_text arcs) ≡ (arcs, [])
unfolding arcs_read
arcs_are_read arcs small = rw (arcs_text_parts arcs, ← append-nil (flat_map arc_text arcs))
    (items_are_read arc_of arc_text FitsArc no_bound arc_reader arcs []
    (arcs_fit arcs small) refl no_arc_at_end)
