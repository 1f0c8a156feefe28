-- Where a row and a bit stand in the flat list.
use Rattle.std.proofs.Common.{◌≡◌, ◌↔◌, ℕ, suc, ◌+◌, ◌*◌, ◌/◌, ◌%◌, ◌<◌, ◌≤◌, ◌⊎◌, inl, inr, arith, List, length, slice_index, set, max, sym, ap, ◌∙◌}
use Rattle.std.specs.Prelude.{bit_or}
use Rattle.std.specs.Int.{bit_at}
use Rattle.std.proofs.Common.{get_or-set_same, get_or-set_other}
use Rattle.std.proofs.Math.Nat.{mul-le-mul_right}
use Rattle.std.proofs.lemmas.Nat.Bits.{bit_at_or, bit_at-lt}
use Rattle.std.proofs.lemmas.Bool.{cases_eq, cases_order}
use Rattle.reach_rows.specs.Bits.{bit_in, IsSet, IsTaken}

-- a row ends before the next begins
pub row_before : (a x words : ℕ) → a < x → a * words + words ≤ x * words
row_before a x words less = let many : (suc a) * words ≤ x * words = mul-le-mul_right words less in omega (arith, many)

-- and within the list
pub row_fits : (x words nodes n : ℕ) → x < nodes → n ≡ nodes * words → x * words + words ≤ n
row_fits x words nodes n less room = let before : x * words + words ≤ nodes * words = row_before x nodes words less in omega (arith, before, room)

-- the rows of two nodes are apart, or one
pub rows_apart : (a x words : ℕ) → (a * words ≡ x * words) ⊎ ((a * words + words ≤ x * words) ⊎ (x * words + words ≤ a * words))
rows_apart a x words = by_order (cases_order a x)
  where
    by_order : (a ≡ x) ⊎ ((a < x) ⊎ (x < a)) → (a * words ≡ x * words) ⊎ ((a * words + words ≤ x * words) ⊎ (x * words + words ≤ a * words))
    by_order (inl same) = inl (ap (λ (k : ℕ). k * words) same)
    by_order (inr (inl less)) = inr (inl (row_before a x words less))
    by_order (inr (inr more)) = inr (inr (row_before x a words more))

-- a bit of a row stands in one of its words
pub word_in_row : (c words : ℕ) → c < 64 * words → c / 64 < words
word_in_row c words within = omega arith

pub ruleset in_row = (word_in_row, rows_apart)

-- the row of one node takes that of another, and its bit
module _ (words into from : ℕ) (old mid : List ℕ) (word : ℕ) (long : length mid ≡ length old)
    (into_fits : into * words + words ≤ length old) (from_fits : from * words + words ≤ length old) (inside : from < 64 * words)
    (row : (k : ℕ) → k < words → slice_index mid (into * words + k) ≡ bit_or (slice_index old (into * words + k)) (slice_index old (from * words + k)))
    (others : (i : ℕ) → (i < into * words) ⊎ (into * words + words ≤ i) → slice_index mid i ≡ slice_index old i)
    (is_set : bit_at word (from % 64) ≡ 1)
    (is_kept : (i : ℕ) → (i ≡ from % 64 → ⊥) → bit_at word i ≡ bit_at (slice_index mid (into * words + from / 64)) i) where
  abbrev place : ℕ
  place = into * words + from / 64

  place_inside : place < length mid
  place_inside = omega (arith, long, into_fits, word_in_row from words inside)

  -- another row
  outside : (a c : ℕ) → (a ≡ into → ⊥) → c < 64 * words → (a * words + c / 64 < into * words) ⊎ (into * words + words ≤ a * words + c / 64)
  outside a c other within = by_order (cases_order a into)
    where
      by_order : (a ≡ into) ⊎ ((a < into) ⊎ (into < a)) → (a * words + c / 64 < into * words) ⊎ (into * words + words ≤ a * words + c / 64)
      by_order (inl same) = absurd (other same)
      by_order (inr (inl less)) = inl (omega (arith, row_before a into words less, word_in_row c words within))
      by_order (inr (inr more)) = inr (omega (arith, row_before into a words more))

  stays_by : (a c : ℕ) → (a * words + c / 64 < into * words) ⊎ (into * words + words ≤ a * words + c / 64) →
      slice_index (set mid place word) (a * words + c / 64) ≡ slice_index old (a * words + c / 64)
  stays_by a c (inl before) =
      get_or-set_other mid place (a * words + c / 64) word 0 (λ e. omega (arith, e, before)) ∙ others (a * words + c / 64) (inl before)
  stays_by a c (inr behind) =
      get_or-set_other mid place (a * words + c / 64) word 0 (λ e. omega (arith, e, behind, word_in_row from words inside)) ∙ others (a * words + c / 64) (inr behind)

  -- a bit of the row, but that of the other's number
  abbrev both : ℕ → ℕ
  both c = max (bit_in words old into c) (bit_in words old from c)

  joined : (c : ℕ) → c < 64 * words → bit_at (slice_index mid (into * words + c / 64)) (c % 64) ≡ both c
  joined c within =
      ap (λ (w : ℕ). bit_at w (c % 64)) (row (c / 64) (word_in_row c words within))
      ∙ bit_at_or (slice_index old (into * words + c / 64)) (slice_index old (from * words + c / 64)) (c % 64)

  bit_else : (c : ℕ) → c < 64 * words → (c ≡ from → ⊥) → bit_in words (set mid place word) into c ≡ both c
  bit_else c within other = by_word (cases_eq (c / 64) (from / 64))
    where
      by_word : (c / 64 ≡ from / 64) ⊎ (c / 64 ≡ from / 64 → ⊥) → bit_in words (set mid place word) into c ≡ both c
      by_word (inl same) =
          let bit : c % 64 ≡ from % 64 → ⊥ = λ e. other (omega (arith, e, same)) in
          let here : slice_index (set mid place word) (into * words + c / 64) ≡ word =
          ap (λ (k : ℕ). slice_index (set mid place word) (into * words + k)) same ∙ get_or-set_same mid place word 0 place_inside in
          ap (λ (w : ℕ). bit_at w (c % 64)) here ∙ is_kept (c % 64) bit
          ∙ ap (λ (k : ℕ). bit_at (slice_index mid (into * words + k)) (c % 64)) (sym same) ∙ joined c within
      by_word (inr apart) =
          ap (λ (w : ℕ). bit_at w (c % 64)) (get_or-set_other mid place (into * words + c / 64) word 0 (λ e. apart (omega (arith, e)))) ∙ joined c within

  bit_here : bit_in words (set mid place word) into from ≡ 1
  bit_here = ap (λ (w : ℕ). bit_at w (from % 64)) (get_or-set_same mid place word 0 place_inside) ∙ is_set

  bit_of_both : (x y : ℕ) → x < 2 → y < 2 → max x y ≡ 1 → (x ≡ 1) ⊎ (y ≡ 1)
  bit_of_both x y hx hy one = by_first (cases_eq x 1)
    where
      by_first : (x ≡ 1) ⊎ (x ≡ 1 → ⊥) → (x ≡ 1) ⊎ (y ≡ 1)
      by_first (inl is) = inl is
      by_first (inr not) = inr (omega (arith, one, not, hx, hy))

  bit_of_either : (x y : ℕ) → x < 2 → y < 2 → (x ≡ 1) ⊎ (y ≡ 1) → max x y ≡ 1
  bit_of_either x y hx hy (inl is) = omega (arith, is, hy)
  bit_of_either x y hx hy (inr is) = omega (arith, is, hx)

  takes : (c : ℕ) → c < 64 * words → (c ≡ from) ⊎ (c ≡ from → ⊥) →
      IsSet words (set mid place word) into c ↔ (IsSet words old into c ⊎ (IsSet words old from c ⊎ (c ≡ from)))
  takes c within (inl same) =
      (λ set. inr (inr same), λ is. ap (bit_in words (set mid place word) into) same ∙ bit_here)
  takes c within (inr other) = (forth, back)
    where
      lt_first : bit_in words old into c < 2
      lt_first = bit_at-lt (slice_index old (into * words + c / 64)) (c % 64)

      lt_second : bit_in words old from c < 2
      lt_second = bit_at-lt (slice_index old (from * words + c / 64)) (c % 64)

      to_three : IsSet words old into c ⊎ IsSet words old from c → IsSet words old into c ⊎ (IsSet words old from c ⊎ (c ≡ from))
      to_three (inl is) = inl is
      to_three (inr is) = inr (inl is)

      forth : IsSet words (set mid place word) into c → IsSet words old into c ⊎ (IsSet words old from c ⊎ (c ≡ from))
      forth is = to_three (bit_of_both (bit_in words old into c) (bit_in words old from c) lt_first lt_second (sym (bit_else c within other) ∙ is))

      back : IsSet words old into c ⊎ (IsSet words old from c ⊎ (c ≡ from)) → IsSet words (set mid place word) into c
      back (inl is) = bit_else c within other ∙ bit_of_either (bit_in words old into c) (bit_in words old from c) lt_first lt_second (inl is)
      back (inr (inl is)) = bit_else c within other ∙ bit_of_either (bit_in words old into c) (bit_in words old from c) lt_first lt_second (inr is)
      back (inr (inr same)) = absurd (other same)

  pub row_taken : IsTaken words into from old (set mid place word)
  row_taken = record {
    stay = λ a c other within. ap (λ (w : ℕ). bit_at w (c % 64)) (stays_by a c (outside a c other within));
    take = λ c within. takes c within (cases_eq c from);
  }
