-- The table of rows and columns, as it is filled.
use Rattle.std.proofs.Common.{◌≡◌, ℕ, suc, ◌+◌, ◌*◌, ◌<◌, ◌≤◌, ◌==◌, ◌&&◌, Bool, true, false, List, length, set, slice_index, slice_index_or, ◌⊎◌, inl, inr, sym, ap, ◌∙◌, arith, get_or-set_same, get_or-set_other}
use Rattle.std.specs.List.{list_any, range_with_len}
use Rattle.std.proofs.Math.ListN.{length-set}
use Rattle.std.proofs.Math.Nat.{suc-mul}
use Rattle.std.proofs.lemmas.Nat.{mul-le}
use Rattle.std.proofs.lemmas.Bool.{and_from, and_left, and_right, cases_eq, cases_lt, eq-eqb, ne_eqb, or_right}
use Rattle.bars.specs.declared.lines.Lines.{Lines}
use Rattle.bars.specs.inner.Crossings.{AreCrossings}
use Rattle.bars.proofs.MarkTables.{any_one_more, or_false}

-- the place in a table of so many columns
abbrev pub at : ℕ → ℕ → ℕ → ℕ
at across row column = row * across + column

-- the places of a row end before those of a later one
row_before : (across row column later : ℕ) → row < later → column < across → at across row column < later * across
row_before across row column later less within =
    let next : suc row * across ≡ row * across + across = suc-mul row across in
    let grows : suc row * across ≤ later * across = mul-le (suc row) across later across (omega arith) (omega arith) in
    omega (arith, next, grows, within)

-- each row and column of the table has a place in it
pub at_below : (across rows row column : ℕ) → row < rows → column < across → at across row column < rows * across
at_below across rows row column less within = row_before across row column rows less within

-- and a place of its own
at_apart : (across row column other_row other_column : ℕ) → column < across → other_column < across →
    at across row column ≡ at across other_row other_column → (row ≡ other_row) × (column ≡ other_column)
at_apart across row column other_row other_column within other_within same = by_order (cases_lt row other_row) (cases_lt other_row row)
  where
    by_order : (row < other_row) ⊎ (other_row ≤ row) → (other_row < row) ⊎ (row ≤ other_row) → (row ≡ other_row) × (column ≡ other_column)
    by_order (inl less) other =
        let before = row_before across row column other_row less within in absurd (omega (arith, before, same))
    by_order (inr le) (inl more) =
        let before = row_before across other_row other_column row more other_within in absurd (omega (arith, before, same))
    by_order (inr le) (inr ge) =
        let equal : row ≡ other_row = omega arith in
        let places : row * across ≡ other_row * across = ap (λ (r : ℕ). r * across) equal in
        (equal, omega (arith, places, same))

-- one vertex more marks its row and its column
pub crossing_more : (rows columns : Lines) (n row column across : ℕ) (table more : List Bool) → across ≡ columns.count →
    row ≡ slice_index rows.of.items n → column ≡ slice_index columns.of.items n → row < rows.count → column < columns.count →
    more ≡ set table (row * across + column) true → AreCrossings rows columns n table → AreCrossings rows columns (n + 1) more
crossing_more rows columns n row column across table more is_across is_row is_column row_within column_within is are = record {
  size = ap length is ∙ length-set table (row * across + column) true ∙ are.size;
  each = λ r c r_within c_within. each r c r_within c_within (cases_eq row r) (cases_eq column c);
}
  where
    written : (k : ℕ) → slice_index_or more k false ≡ slice_index_or (set table (at columns.count row column) true) k false
    written k =
        ap (λ (l : List Bool). slice_index_or l k false) is
        ∙ ap (λ (a : ℕ). slice_index_or (set table (row * a + column) true) k false) is_across

    here : (r c : ℕ) → row ≡ r → column ≡ c → slice_index_or more (r * columns.count + c) false
        ≡ list_any (λ v. (slice_index rows.of.items v == r) && (slice_index columns.of.items v == c)) (range_with_len 0 (n + 1))
    here r c same_row same_column =
        let below = at_below columns.count rows.count row column row_within column_within in
        written (r * columns.count + c)
        ∙ ap (λ (k : ℕ). slice_index_or (set table (at columns.count row column) true) k false)
        (sym (ap (λ (x : ℕ). x * columns.count + c) same_row) ∙ sym (ap (λ (x : ℕ). row * columns.count + x) same_column))
        ∙ get_or-set_same table (at columns.count row column) true false (omega (arith, below, are.size))
        ∙ sym (any_one_more (λ v. (slice_index rows.of.items v == r) && (slice_index columns.of.items v == c)) n
        ∙ or_right _ _ (and_from _ _ (eq-eqb _ _ (sym is_row ∙ same_row)) (eq-eqb _ _ (sym is_column ∙ same_column))))

    elsewhere : (r c : ℕ) → r < rows.count → c < columns.count → ((r * columns.count + c ≡ at columns.count row column) → ⊥) →
        ((slice_index rows.of.items n == r) && (slice_index columns.of.items n == c)) ≡ false → slice_index_or more (r * columns.count + c) false
        ≡ list_any (λ v. (slice_index rows.of.items v == r) && (slice_index columns.of.items v == c)) (range_with_len 0 (n + 1))
    elsewhere r c r_within c_within other fails =
        written (r * columns.count + c)
        ∙ get_or-set_other table (at columns.count row column) (r * columns.count + c) true false other
        ∙ are.each r c r_within c_within
        ∙ sym (any_one_more (λ v. (slice_index rows.of.items v == r) && (slice_index columns.of.items v == c)) n ∙ or_false _ _ fails)

    each : (r c : ℕ) → r < rows.count → c < columns.count → (row ≡ r) ⊎ (row ≡ r → ⊥) → (column ≡ c) ⊎ (column ≡ c → ⊥) →
        slice_index_or more (r * columns.count + c) false
        ≡ list_any (λ v. (slice_index rows.of.items v == r) && (slice_index columns.of.items v == c)) (range_with_len 0 (n + 1))
    each r c r_within c_within (inl same_row) (inl same_column) = here r c same_row same_column
    each r c r_within c_within (inr other) same_column =
        elsewhere r c r_within c_within (λ same. other (sym (at_apart columns.count r c row column c_within column_within same).0))
        (and_left _ _ (ne_eqb _ _ (λ same. other (is_row ∙ same))))
    each r c r_within c_within (inl same_row) (inr other) =
        elsewhere r c r_within c_within (λ same. other (sym (at_apart columns.count r c row column c_within column_within same).1))
        (and_right _ _ (ne_eqb _ _ (λ same. other (is_column ∙ same))))
