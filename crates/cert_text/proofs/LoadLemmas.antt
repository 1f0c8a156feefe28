-- The positive amounts of a flow as loads.
use Rattle.std.proofs.Common.{◌≡◌, ℕ, zero, suc, ◌+◌, ◌-◌, ◌<◌, ◌≤◌, Bool, List, [], ◌∷◌, length, refl, ap, sym, ◌∙◌, arith}
use Rattle.std.specs.Prelude.{All, if◌then◌else◌}
use Rattle.std.proofs.lemmas.Bool.{eq-eqb, ne_eqb}
use Rattle.std.proofs.lemmas.List.{ext_get_or}
use Rattle.std.proofs.lemmas.List.Elements.{All-nil, All-cons, All-weaker}
use Rattle.std.proofs.lemmas.List.FromFn.{length-map-range_with_len, get_or-map-range_with_len}
use Rattle.shape_graphs.specs.declared.graph.Arc.{Arc}
use Rattle.shape_graphs.specs.declared.graph.TheConstants.{MOST_AMOUNT, MOST_ARCS}
use Rattle.shape_graphs.specs.Flows.{amount_at}
use Rattle.cert_text.specs.declared.tree.Load.{Load}
use Rattle.cert_text.specs.Accepting.{AreOnArcs}
use Rattle.cert_text.specs.Loads.{AreLoads, IsLoad, amount_on, amounts_of, load_at}
use Rattle.cert_text.specs.Trims.{loads_from}

-- the load is that of a positive amount
record ComesFrom (start : ℕ) (amounts : List ℕ) (load : Load) : Type 0 where
  pub behind : start ≤ load.arc
  pub inside : load.arc < start + length amounts
  pub some : 1 ≤ load.amount
  pub is : load.amount ≡ amount_at amounts (load.arc - start)

one_later : (start amount : ℕ) (amounts : List ℕ) (load : Load) → ComesFrom (suc start) amounts load → ComesFrom start (amount ∷ amounts) load
one_later start amount amounts load comes =
    let behind = comes.behind in
    let inside = comes.inside in
    let next : load.arc - start ≡ suc (load.arc - suc start) = omega (arith, behind) in
    record {
      behind = omega (arith, behind);
      inside = omega (arith, inside);
      some = comes.some;
      is = comes.is ∙ sym (ap (amount_at (amount ∷ amounts)) next);
    }

each_comes : (start : ℕ) (amounts : List ℕ) → All (ComesFrom start amounts) (loads_from start amounts)
each_comes start [] = All-nil (ComesFrom start [])
each_comes start (zero ∷ amounts) =
    All-weaker (ComesFrom (suc start) amounts) (ComesFrom start (zero ∷ amounts)) (one_later start zero amounts)
    (loads_from (suc start) amounts) (each_comes (suc start) amounts)
each_comes start (suc amount ∷ amounts) =
    All-cons (ComesFrom start (suc amount ∷ amounts)) (record { arc = start; amount = suc amount }) (loads_from (suc start) amounts)
    (let here : start - start ≡ 0 = omega arith in
    record { behind = omega arith; inside = omega arith; some = omega arith; is = sym (ap (amount_at (suc amount ∷ amounts)) here) })
    (All-weaker (ComesFrom (suc start) amounts) (ComesFrom start (suc amount ∷ amounts)) (one_later start (suc amount) amounts)
    (loads_from (suc start) amounts) (each_comes (suc start) amounts))

abbrev no_load : Load
no_load = record { arc = 0; amount = 0 }

-- the arcs of the loads rise
arcs_rise : (start : ℕ) (amounts : List ℕ) (i : ℕ) → suc i < length (loads_from start amounts) →
    (load_at (loads_from start amounts) i).arc < (load_at (loads_from start amounts) (suc i)).arc
arcs_rise start [] i inside = absurd (omega (arith, inside))
arcs_rise start (zero ∷ amounts) i inside = arcs_rise (suc start) amounts i inside
arcs_rise start (suc amount ∷ amounts) zero inside =
    let comes = each_comes (suc start) amounts 0 no_load (omega (arith, inside)) in
    let behind = comes.behind in
    omega (arith, behind)
arcs_rise start (suc amount ∷ amounts) (suc i) inside = arcs_rise (suc start) amounts i (omega (arith, inside))

-- no load is on an arc before the first
none_before : (start : ℕ) (amounts : List ℕ) (j : ℕ) → j < start → amount_on (loads_from start amounts) j ≡ 0
none_before start [] j before = refl
none_before start (zero ∷ amounts) j before = none_before (suc start) amounts j (omega (arith, before))
none_before start (suc amount ∷ amounts) j before =
    ap (λ (b : Bool). if b then suc amount else amount_on (loads_from (suc start) amounts) j) (ne_eqb start j (λ is. omega (arith, is, before)))
    ∙ none_before (suc start) amounts j (omega (arith, before))

-- the amount that the loads give an arc is its amount
amount_given : (start : ℕ) (amounts : List ℕ) (i j : ℕ) → start + i ≡ j → amount_on (loads_from start amounts) j ≡ amount_at amounts i
amount_given start [] i j is = refl
amount_given start (zero ∷ amounts) zero j is = none_before (suc start) amounts j (omega (arith, is))
amount_given start (zero ∷ amounts) (suc i) j is = amount_given (suc start) amounts i j (omega (arith, is))
amount_given start (suc amount ∷ amounts) zero j is =
    ap (λ (b : Bool). if b then suc amount else amount_on (loads_from (suc start) amounts) j) (eq-eqb start j (omega (arith, is)))
amount_given start (suc amount ∷ amounts) (suc i) j is =
    ap (λ (b : Bool). if b then suc amount else amount_on (loads_from (suc start) amounts) j) (ne_eqb start j (λ same. omega (arith, is, same)))
    ∙ amount_given (suc start) amounts i j (omega (arith, is))

module _ (arcs : List Arc) (amounts : List ℕ) (fits : length amounts ≡ length arcs) where
  -- the loads of a flow give its amounts
  pub amounts_given : amounts_of arcs (loads_from 0 amounts) ≡ amounts
  amounts_given =
      let long = length-map-range_with_len (amount_on (loads_from 0 amounts)) 0 (length arcs) in
      ext_get_or 0 (amounts_of arcs (loads_from 0 amounts)) amounts (long ∙ sym fits)
      (λ i inside.
      get_or-map-range_with_len (amount_on (loads_from 0 amounts)) 0 (length arcs) i i 0 (omega (arith, inside, long)) (omega arith)
      ∙ amount_given 0 amounts i i (omega arith))

  -- and are on arcs of the graph
  pub on_arcs : AreOnArcs arcs (loads_from 0 amounts)
  on_arcs = All-weaker (ComesFrom 0 amounts) (λ (load : Load). load.arc < length arcs)
      (λ load comes. (let inside = comes.inside in omega (arith, inside, fits))) (loads_from 0 amounts) (each_comes 0 amounts)

-- within the limits
pub are_loads : (amounts : List ℕ) → length amounts ≤ MOST_ARCS → ((i : ℕ) → i < length amounts → amount_at amounts i ≤ MOST_AMOUNT) →
    AreLoads (loads_from 0 amounts)
are_loads amounts few low = record {
  each = All-weaker (ComesFrom 0 amounts) IsLoad (λ load comes. is_load load comes) (loads_from 0 amounts) (each_comes 0 amounts);
  rising = arcs_rise 0 amounts;
}
  where
    is_load : (load : Load) → ComesFrom 0 amounts load → IsLoad load
    is_load load comes =
        let inside = comes.inside in
        let at : load.arc - 0 < length amounts = omega (arith, inside) in
        let most = low (load.arc - 0) at in
        let is = comes.is in
        record { arc = omega (arith, inside, few); some = comes.some; most = omega (arith, is, most) }
