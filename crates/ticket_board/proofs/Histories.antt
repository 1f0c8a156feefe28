-- Histories that begin others, and the entries of one caller in them.
use Rattle.std.proofs.Common.{◌≡◌, ℕ, ◌≤◌, eqb, List, [], ◌∷◌, ◌++◌, length, sym, ap, refl, ◌∙◌, arith, get_or}
use Rattle.std.proofs.lemmas.List.{append_assoc, append-nil}
use Rattle.std.proofs.lemmas.List.Elements.{filter-append}
use Rattle.board.specs.declared.entries.Entry.{Entry}
use Rattle.board.specs.Histories.{caller_of}
use Rattle.ticket_board.specs.Passes.{Begins, entries_by}

pub begins_itself : (history : List Entry) → Begins history history
begins_itself history = record { rest = []; whole_is = sym (append-nil history) }

pub nothing_begins : (history : List Entry) → Begins [] history
nothing_begins history = record { rest = history; whole_is = refl }

pub begins_with : (front added whole : List Entry) → whole ≡ front ++ added → Begins front whole
begins_with front added whole is = record { rest = added; whole_is = is }

pub begins_longer : (front middle whole : List Entry) → Begins front middle → Begins middle whole → Begins front whole
begins_longer front middle whole first second = record {
  rest = first.rest ++ second.rest;
  whole_is = second.whole_is ∙ ap (λ list. list ++ second.rest) first.whole_is ∙ append_assoc front first.rest second.rest;
}

rest_of : List Entry → List Entry
rest_of [] = []
rest_of (entry ∷ rest) = rest

shorter : (a b r q : List Entry) → a ++ r ≡ b ++ q → length a ≤ length b → Begins a b
unfolding rest_of
shorter [] b r q same short = nothing_begins b
shorter (x ∷ a) [] r q same short = absurd (omega arith)
shorter (x ∷ a) (y ∷ b) r q same short =
    let head : x ≡ y = ap (λ list. get_or list 0 x) same in
    let tail : a ++ r ≡ b ++ q = ap rest_of same in
    let fewer : length a ≤ length b = omega arith in
    let inner = shorter a b r q tail fewer in record {
      rest = inner.rest;
      whole_is = λ i. sym head i ∷ inner.whole_is i;
    }

-- of two histories that begin one, the shorter begins the longer
pub shorter_begins : (a b whole : List Entry) → Begins a whole → Begins b whole → length a ≤ length b → Begins a b
shorter_begins a b whole first second short = shorter a b first.rest second.rest (sym first.whole_is ∙ second.whole_is) short

pub by-append : (number : ℕ) (front added : List Entry) → entries_by number (front ++ added) ≡ entries_by number front ++ entries_by number added
by-append number front added = filter-append (λ entry. eqb (caller_of entry) number) front added
