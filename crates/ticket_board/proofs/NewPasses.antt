-- The passes of new callers.
use Rattle.std.proofs.Common.{◌≡◌, ◌≢◌, ◌⊎◌, inl, inr, ℕ, zero, suc, ◌+◌, ◌<◌, ◌≤◌, List, [], ◌∷◌, ◌++◌, length, sym, ap, refl, ◌∙◌, subst, arith, ne_eqb}
use Rattle.std.specs.Prelude.{cond, slice_get, Some}
use Rattle.std.proofs.lemmas.Bool.{cases_lt}
use Rattle.std.proofs.lemmas.List.{length-append}
use Rattle.board.specs.declared.entries.Entry.{Entry}
use Rattle.board.specs.Boards.{BoardView}
use Rattle.board.specs.Facts.{AreByCallers}
use Rattle.board.specs.Histories.{IsLegal, caller_of}
use Rattle.ticket_board.specs.Passes.{AreNewcomers, BoardHome, PassView, entries_by, new_pass}
use Rattle.ticket_board.specs.inner.Dealing.{IsFounded}

-- a number that was not given has no entry
none_by : (given number : ℕ) (history : List Entry) → given < number → AreByCallers given history → entries_by number history ≡ []
none_by given number [] above callers = refl
none_by given number (entry ∷ history) above callers =
    let caller = (callers zero entry (omega arith)).known in
    let apart : caller_of entry ≢ number = λ same. omega arith in
    (λ i. cond (ne_eqb (caller_of entry) number apart i) (entry ∷ entries_by number history) (entries_by number history))
    ∙ none_by given number history above (λ k d below. callers (suc k) d (omega arith))

pub founds : {P : Type 0} (board start : BoardView P) (callers : ℕ) → start ≡ record board { given = board.given + callers } → IsLegal board.entries → AreByCallers board.given board.entries → 1 ≤ callers → callers ≤ 1000 →
    IsFounded start (board.given + 1) callers
founds board start callers same legal by some few = subst (λ start. IsFounded start (board.given + 1) callers) (sym same) (record {
  some = some;
  few = few;
  positive = omega arith;
  given = omega arith;
  legal = legal;
  none_yet = λ number above. none_by board.given number board.entries (omega arith) by;
})

get_before : (passes : List PassView) (last : PassView) (k : ℕ) → k < length passes → slice_get (passes ++ last ∷ []) k ≡ slice_get passes k
get_before [] last k below = absurd (omega arith)
get_before (pass ∷ passes) last zero below = refl
get_before (pass ∷ passes) last (suc k) below = get_before passes last k (omega arith)

get_last : (passes : List PassView) (last : PassView) → slice_get (passes ++ last ∷ []) (length passes) ≡ Some last
get_last [] last = refl
get_last (pass ∷ passes) last = get_last passes last

pub no_newcomers : (home : BoardHome) (first : ℕ) (seen : List Entry) → AreNewcomers home first 0 seen []
no_newcomers home first seen = record { count = refl; each = λ k below. absurd (omega arith) }

pub newcomers_with : (home : BoardHome) (first callers : ℕ) (seen : List Entry) (passes : List PassView) (last : PassView) → AreNewcomers home first callers seen passes → last ≡ new_pass home (first + callers) seen →
    AreNewcomers home first (callers + 1) seen (passes ++ last ∷ [])
newcomers_with home first callers seen passes last are is =
    let count = are.count in
    let longer = length-append passes (last ∷ []) in record {
      count = omega arith;
      each = λ k below. by_place k below (cases_lt k callers);
    }
  where
    by_place : (k : ℕ) → k < callers + 1 → (k < callers) ⊎ (callers ≤ k) → slice_get (passes ++ last ∷ []) k ≡ Some (new_pass home (first + k) seen)
    by_place k below (inl before) = let count = are.count in get_before passes last k (omega arith) ∙ are.each k before
    by_place k below (inr at_end) =
        let count = are.count in
        let here : k ≡ length passes = omega arith in
        let number : callers ≡ k = omega arith in
        ap (slice_get (passes ++ last ∷ [])) here ∙ get_last passes last ∙ ap (λ (pass : PassView). Some pass) (is ∙ ap (λ k. new_pass home (first + k) seen) number)

pub newcomers_before : (home : BoardHome) (first callers : ℕ) (seen : List Entry) (passes : List PassView) (pass : PassView) → AreNewcomers home (first + 1) callers seen passes → pass ≡ new_pass home first seen →
    AreNewcomers home first (callers + 1) seen (pass ∷ passes)
newcomers_before home first callers seen passes pass are is = let count = are.count in record {
  count = omega arith;
  each = by_place;
}
  where
    by_place : (k : ℕ) → k < callers + 1 → slice_get (pass ∷ passes) k ≡ Some (new_pass home (first + k) seen)
    by_place zero below = let same : first ≡ first + 0 = omega arith in ap (λ (pass : PassView). Some pass) (is ∙ ap (λ number. new_pass home number seen) same)
    by_place (suc k) below =
        let same : first + 1 + k ≡ first + suc k = omega arith in
        are.each k (omega arith) ∙ ap (λ number. Some (new_pass home number seen)) same
