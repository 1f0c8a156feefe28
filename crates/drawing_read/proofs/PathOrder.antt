-- The order of paths, and lists of spots in the order of their paths.
use Rattle.std.proofs.Common.{◌≡◌, ℕ, ◌+◌, ◌<◌, ◌≤◌, arith, List, [], ◌∷◌, ◌++◌, get_or, inl, inr, refl, sym, ◌∙◌, subst, append_assoc, Contains, All}
use Rattle.std.proofs.lemmas.List.Elements.{All-append, Contains-get_or, Contains-append_right}
use Rattle.drawing_read.specs.declared.reading.Spot.{Spot}
use Rattle.drawing_read.specs.Coordinates.{IsPathBefore, AreInDocumentOrder}

-- of two paths with one beginning the one that goes on with the lesser place comes before
pub before_behind : (path : List ℕ) (a b : ℕ) (first second : List ℕ) → a < b → IsPathBefore (path ++ a ∷ first) (path ++ b ∷ second)
before_behind [] a b first second less = inl less
before_behind (c ∷ path) a b first second less = inr (refl, before_behind path a b first second less)

-- the path of a spot begins with this one
abbrev pub IsBehind : List ℕ → Spot → Type 0
IsBehind path spot = (rest : List ℕ) × (spot.path ≡ path ++ rest)

-- it goes on with this place or a later one
pub record IsFrom (path : List ℕ) (at : ℕ) (spot : Spot) : Type 0 where
  pub place : ℕ
  pub rest : List ℕ
  pub place_is : at ≤ place
  pub is : spot.path ≡ path ++ place ∷ rest

-- a spot behind a longer path is behind its beginning
pub behind_less : (path : List ℕ) (i : ℕ) (s : Spot) → IsBehind (path ++ i ∷ []) s → IsBehind path s
behind_less path i s behind = (i ∷ behind.0, behind.1 ∙ append_assoc path (i ∷ []) behind.0)

-- a spot behind a place is from that place or an earlier one on
pub from_behind : (path : List ℕ) (at place : ℕ) (s : Spot) → at ≤ place → IsBehind (path ++ place ∷ []) s → IsFrom path at s
from_behind path at place s within behind = record { place = place; rest = behind.0; place_is = within; is = behind.1 ∙ append_assoc path (place ∷ []) behind.0 }

-- a spot behind a place comes before those from the next place on
pub behind_before_from : (path : List ℕ) (at : ℕ) (s t : Spot) → IsBehind (path ++ at ∷ []) s → IsFrom path (at + 1) t → IsPathBefore s.path t.path
behind_before_from path at s t behind from =
    let first : s.path ≡ path ++ at ∷ behind.0 = behind.1 ∙ append_assoc path (at ∷ []) behind.0 in
    let less : at < from.place = omega (arith, from.place_is) in
    subst (λ (p : List ℕ). IsPathBefore p t.path) (sym first)
    (subst (λ (q : List ℕ). IsPathBefore (path ++ at ∷ behind.0) q) (sym from.is) (before_behind path at from.place behind.0 from.rest less))

-- what holds of each spot that is there holds of all
pub all_there : (P : Spot → Type 0) (spots : List Spot) → ((s : Spot) → Contains spots s → P s) → All P spots
all_there P spots each k d below = each (get_or spots k d) (Contains-get_or spots k d below)

-- two lists in order are in order together, where the spots of the first come before those of the second
pub in_order_together : (xs ys : List Spot) → AreInDocumentOrder xs → AreInDocumentOrder ys →
    ((s t : Spot) → Contains xs s → Contains ys t → IsPathBefore s.path t.path) → AreInDocumentOrder (xs ++ ys)
in_order_together [] ys first second before = second
in_order_together (x ∷ xs) ys first second before = (
  All-append (λ later. IsPathBefore x.path later.path) xs ys first.0
      (all_there (λ later. IsPathBefore x.path later.path) ys (λ t there. before x t (0, omega arith, refl) there)),
  in_order_together xs ys first.1 second (λ s t here there. before s t (Contains-append_right (x ∷ []) xs s here) there),
)
