-- Arcs in buckets, and rows of those that were taken.
use Rattle.std.proofs.Common.{◌≡◌, ℕ, zero, suc, ◌*◌, ◌<◌, ◌≤◌, pos, ℤ, List, [], ◌∷◌, length, ◌⊎◌, inl, inr, refl, sym, ap, ◌∙◌, subst, arith}
use Rattle.std.specs.Prelude.{◌≤ℤ◌}
use Rattle.std.proofs.lemmas.Bool.{cases_eq, cases_lt}
use Rattle.std.proofs.lemmas.Int.{ints, by_lt_z}
use Rattle.shape_graphs.specs.declared.graph.Arc.{Arc}
use Rattle.shape_graphs.specs.Arcs.{arc_at, AreArcsWithin, EndsAreNodes}
use Rattle.shape_graphs.specs.Flows.{IsSolution, number_at}
use Rattle.shape_graphs.specs.Paths.{HaveArcsIn}
use Rattle.reach_rows.specs.Bits.{IsTaken, AreBitsOf}
use Rattle.reach_rows.specs.inner.Buckets.{HaveBuckets, IsInBucket, IsLastIn}
use Rattle.reach_rows.proofs.RowLemmas.{bits_with_first, bits_of_same, only_own_row}

-- The rows are those of the arcs that were taken: of some list with exactly these.
pub record AreTaken (words nodes : ℕ) (bits : List ℕ) (arcs : List Arc) (Taken : ℕ → Type 0) : Type 0 where
  pub list : List Arc
  pub rows : AreBitsOf words bits nodes list
  pub no_more : (k : ℕ) → k < length list → (i : ℕ) × (i < length arcs) × Taken i × (arc_at arcs i ≡ arc_at list k)
  pub has_each : (i : ℕ) → i < length arcs → Taken i → (k : ℕ) × (k < length list) × (arc_at list k ≡ arc_at arcs i)

pub none_taken : (words nodes : ℕ) (bits : List ℕ) (arcs : List Arc) (Taken : ℕ → Type 0) → AreBitsOf words bits nodes [] →
    ((i : ℕ) → i < length arcs → Taken i → ⊥) → AreTaken words nodes bits arcs Taken
none_taken words nodes bits arcs Taken rows none = record {
  list = [];
  rows = rows;
  no_more = λ k within. absurd (omega arith);
  has_each = λ i within taken. absurd (none i within taken);
}

-- the same arcs in other words
pub taken_alike : (words nodes : ℕ) (bits : List ℕ) (arcs : List Arc) (Taken Others : ℕ → Type 0) → AreTaken words nodes bits arcs Taken →
    ((i : ℕ) → i < length arcs → Taken i → Others i) → ((i : ℕ) → i < length arcs → Others i → Taken i) → AreTaken words nodes bits arcs Others
taken_alike words nodes bits arcs Taken Others are forth back = record {
  list = are.list;
  rows = are.rows;
  no_more = λ k within. let found = are.no_more k within in (found.0, found.1, forth found.0 found.1 found.2, found.3);
  has_each = λ i within other. are.has_each i within (back i within other);
}

-- one arc more, where none that was taken ends at its beginning
module _ (words nodes j : ℕ) (old new : List ℕ) (arcs : List Arc) (Taken : ℕ → Type 0) (are : AreTaken words nodes old arcs Taken)
    (wide : nodes ≤ 64 * words) (ends : EndsAreNodes nodes arcs) (within : j < length arcs)
    (none : (i : ℕ) → i < length arcs → Taken i → (arc_at arcs i).to ≡ (arc_at arcs j).from → ⊥)
    (taken : IsTaken words (arc_at arcs j).from (arc_at arcs j).to old new) where
  abbrev arc : Arc
  arc = arc_at arcs j

  none_in_list : (k : ℕ) → k < length are.list → (arc_at are.list k).to ≡ arc.from → ⊥
  none_in_list k inside same =
      let found = are.no_more k inside in
      none found.0 found.1 found.2 (ap (λ (a : Arc). a.to) found.3 ∙ same)

  no_more : (k : ℕ) → k < length (arc ∷ are.list) → (i : ℕ) × (i < length arcs) × (Taken i ⊎ (i ≡ j)) × (arc_at arcs i ≡ arc_at (arc ∷ are.list) k)
  no_more zero inside = (j, within, inr refl, refl)
  no_more (suc k) inside = let found = are.no_more k (omega (arith, inside)) in (found.0, found.1, inl found.2, found.3)

  has_each : (i : ℕ) → i < length arcs → Taken i ⊎ (i ≡ j) → (k : ℕ) × (k < length (arc ∷ are.list)) × (arc_at (arc ∷ are.list) k ≡ arc_at arcs i)
  has_each i inside (inl before) = let found = are.has_each i inside before in (suc found.0, omega (arith, found.1), found.2)
  has_each i inside (inr same) = (0, omega arith, ap (arc_at arcs) (sym same))

  pub one_more_taken : AreTaken words nodes new arcs (λ i. Taken i ⊎ (i ≡ j))
  one_more_taken = record {
    list = arc ∷ are.list;
    rows = bits_with_first words nodes arc.from arc.to old new are.list arc refl refl (ends j within).0 (ends j within).1 are.rows
        (only_own_row words nodes arc.from arc.to old new are.list wide (ends j within).0 (ends j within).1 are.rows none_in_list taken);
    no_more = no_more;
    has_each = has_each;
  }

-- once each arc was taken, the rows are those of all
pub all_taken : (words nodes : ℕ) (bits : List ℕ) (arcs : List Arc) (Taken : ℕ → Type 0) → AreTaken words nodes bits arcs Taken →
    ((i : ℕ) → i < length arcs → Taken i) → AreBitsOf words bits nodes arcs
all_taken words nodes bits arcs Taken are all = bits_of_same words nodes bits are.list arcs forth back are.rows
  where
    forth : HaveArcsIn are.list arcs
    forth k within =
        let found = are.no_more k within in
        (found.0, found.1, ap (λ (a : Arc). a.from) found.3, ap (λ (a : Arc). a.to) found.3)

    back : HaveArcsIn arcs are.list
    back i within =
        let found = are.has_each i within (all i within) in
        (found.0, found.1, ap (λ (a : Arc). a.from) found.2, ap (λ (a : Arc). a.to) found.2)

-- the arc begins at this number or a greater one
abbrev pub IsFrom : List Arc → List ℤ → ℕ → ℕ → Type 0
IsFrom arcs numbers number i = pos number ≤ℤ number_at numbers (arc_at arcs i).from

-- it begins at a greater number, or is in the bucket, not before the one that the entry names
abbrev pub IsFromEntry : List Arc → List ℤ → ℕ → ℕ → ℕ → Type 0
IsFromEntry arcs numbers number entry i =
    IsFrom arcs numbers (suc number) i ⊎ (IsInBucket arcs numbers number i × (entry ≤ i))

-- no arc begins at a number above all
pub none_from : (words nodes n : ℕ) (bits : List ℕ) (arcs : List Arc) (numbers : List ℤ) → EndsAreNodes nodes arcs → length numbers ≡ nodes → HaveBuckets numbers → n ≡ length numbers →
    AreBitsOf words bits nodes [] → AreTaken words nodes bits arcs (IsFrom arcs numbers n)
none_from words nodes n bits arcs numbers ends one_for_each have all rows =
    none_taken words nodes bits arcs (IsFrom arcs numbers n) rows (λ i within from.
    let is_node = (ends i within).0 in
    let low = (have (arc_at arcs i).from (omega (arith, is_node, one_for_each))).1 in
    omega (arith, ints, from, low, all))

-- and each begins at 0 or a greater one
pub all_from : (words nodes n : ℕ) (bits : List ℕ) (arcs : List Arc) (numbers : List ℤ) → EndsAreNodes nodes arcs → length numbers ≡ nodes → HaveBuckets numbers → n ≡ 0 →
    AreTaken words nodes bits arcs (IsFrom arcs numbers n) → AreBitsOf words bits nodes arcs
all_from words nodes n bits arcs numbers ends one_for_each have none are =
    all_taken words nodes bits arcs (IsFrom arcs numbers n) are (λ i within.
    let is_node = (ends i within).0 in
    let low = (have (arc_at arcs i).from (omega (arith, is_node, one_for_each))).0 in
    omega (arith, ints, low, none))

module _ (words nodes number : ℕ) (bits : List ℕ) (arcs : List Arc) (numbers : List ℤ) where
  abbrev Are : (ℕ → Type 0) → Type 0
  Are Taken = AreTaken words nodes bits arcs Taken

  -- before the bucket
  pub bucket_begins : (n entry : ℕ) → n ≡ suc number → IsLastIn arcs numbers (length arcs) number entry → Are (IsFrom arcs numbers n) → Are (IsFromEntry arcs numbers number entry)
  bucket_begins n entry next last are =
      taken_alike words nodes bits arcs (IsFrom arcs numbers n) (IsFromEntry arcs numbers number entry) are
      (λ i within from. inl (rw (← next) from)) back
    where
      back : (i : ℕ) → i < length arcs → IsFromEntry arcs numbers number entry i → IsFrom arcs numbers n i
      back i within (inl greater) = rw next greater
      back i within (inr inside) = absurd (last.none_between i inside.1 within inside.0)

  -- and after it
  pub bucket_ends : (entry : ℕ) → entry ≡ 0 → Are (IsFromEntry arcs numbers number entry) → Are (IsFrom arcs numbers number)
  bucket_ends entry none are =
      taken_alike words nodes bits arcs (IsFromEntry arcs numbers number entry) (IsFrom arcs numbers number) are forth
      (λ i within from. by_lt_z (number_at numbers (arc_at arcs i).from) (pos (suc number))
      (λ less. inr (omega (arith, ints, from, less), omega (arith, none))) (λ greater. inl greater))
    where
      forth : (i : ℕ) → i < length arcs → IsFromEntry arcs numbers number entry i → IsFrom arcs numbers number i
      forth i within (inl greater) = omega (arith, ints, greater)
      forth i within (inr inside) = let here = inside.0 in omega (arith, ints, here)

-- the arc that an entry names was taken
module _ (words nodes number entry next j : ℕ) (old new : List ℕ) (arcs : List Arc) (numbers : List ℤ)
    (wide : nodes ≤ 64 * words) (ends : EndsAreNodes nodes arcs) (solution : IsSolution arcs (number_at numbers)) (within : AreArcsWithin arcs)
    (some : entry ≡ suc j) (inside : entry ≤ length arcs) (in_bucket : IsInBucket arcs numbers number j)
    (last : IsLastIn arcs numbers j number next) (are : AreTaken words nodes old arcs (IsFromEntry arcs numbers number entry))
    (taken : IsTaken words (arc_at arcs j).from (arc_at arcs j).to old new) where
  -- no arc that was taken ends where this one begins
  none_ends : (i : ℕ) → i < length arcs → IsFromEntry arcs numbers number entry i → (arc_at arcs i).to ≡ (arc_at arcs j).from → ⊥
  none_ends i in_graph from same =
      let low : pos number ≤ℤ number_at numbers (arc_at arcs i).from = at_least from in
      let rise = solution i in_graph in
      let one = (within i in_graph).some_least in
      let here : number_at numbers (arc_at arcs i).to ≡ pos number = ap (number_at numbers) same ∙ in_bucket in
      omega (arith, ints, low, rise, one, here)
    where
      at_least : IsFromEntry arcs numbers number entry i → pos number ≤ℤ number_at numbers (arc_at arcs i).from
      at_least (inl greater) = omega (arith, ints, greater)
      at_least (inr here) = let is = here.0 in omega (arith, ints, is)

  forth : (i : ℕ) → i < length arcs → IsFromEntry arcs numbers number entry i ⊎ (i ≡ j) → IsFromEntry arcs numbers number next i
  forth i in_graph (inl (inl greater)) = inl greater
  forth i in_graph (inl (inr before)) = inr (before.0, let behind = before.1 in omega (arith, some, behind, last.within))
  forth i in_graph (inr same) = inr (subst (λ (k : ℕ). IsInBucket arcs numbers number k) (sym same) in_bucket, omega (arith, same, last.within))

  back : (i : ℕ) → i < length arcs → IsFromEntry arcs numbers number next i → IsFromEntry arcs numbers number entry i ⊎ (i ≡ j)
  back i in_graph (inl greater) = inl (inl greater)
  back i in_graph (inr behind) = by_place (cases_lt i j) (cases_eq i j)
    where
      by_place : (i < j) ⊎ (j ≤ i) → (i ≡ j) ⊎ (i ≡ j → ⊥) → IsFromEntry arcs numbers number entry i ⊎ (i ≡ j)
      by_place (inl earlier) either = absurd (last.none_between i behind.1 earlier behind.0)
      by_place (inr later) (inl same) = inr same
      by_place (inr later) (inr other) = inl (inr (behind.0, omega (arith, some, later, other)))

  pub entry_taken : AreTaken words nodes new arcs (IsFromEntry arcs numbers number next)
  entry_taken =
      taken_alike words nodes new arcs (λ i. IsFromEntry arcs numbers number entry i ⊎ (i ≡ j)) (IsFromEntry arcs numbers number next)
      (one_more_taken words nodes j old new arcs (IsFromEntry arcs numbers number entry) are wide ends (omega (arith, some, inside)) none_ends taken)
      forth back
