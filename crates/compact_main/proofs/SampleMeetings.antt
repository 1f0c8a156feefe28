-- Where two pieces of the sample drawing share a point.
use Rattle.std.proofs.Common.{◌≡◌, ℕ, ◌+◌, ◌*◌, ◌<◌, ◌≤◌, pos, ◌⊎◌, inl, inr, refl, sym, ap, subst, ◌∙◌, arith}
use Rattle.std.proofs.lemmas.Bool.{cases_lt}
use Rattle.std.proofs.lemmas.Int.{ints}
use Rattle.compact_types.specs.declared.places.Point.{Point}
use Rattle.compact_types.specs.declared.plan.Piece.{Piece}
use Rattle.compact_types.specs.declared.plan.Way.{Way}
use Rattle.compact_types.specs.Lookups.{IsEnd, HaveSameEnds}
use Rattle.compact_types.specs.Segments.{OnSegment}
use Rattle.compact_types.specs.Ways.{HasWay}
use Rattle.compact_types.proofs.Laws.{same_point}
use Rattle.compact_main.specs.Samples.{hooked, arm_node, sample_vertices, sample_piece, sample_way}
use Rattle.compact_main.specs.Samples.{spine_place, arm_place, sample_place}
use Rattle.compact_main.specs.Samples.{spine_piece, arm_piece, hook_piece}
use Rattle.compact_main.proofs.SamplePieces.{IsKind, IsLaid, IsSpine, IsArm, IsHook, LeadsOn, spine_stands, arm_stands}
use Rattle.compact_main.proofs.SamplePieces.IsKind.{spine, arm, hook}

-- what holds of the places of the ends of a piece of the sample
abbrev pub AtEnds : (Point → Point → Type 0) → ℕ → ℕ → Type 0
AtEnds P number index = P (sample_place number (sample_piece number index).from) (sample_place number (sample_piece number index).to)

-- z lies on the piece
abbrev pub OnSample : Point → ℕ → ℕ → Type 0
OnSample z number index = AtEnds (λ a b. OnSegment a b z) number index

-- what holds of two points holds of two that are the same
pub at_same : (P : Point → Point → Type 0) {a b c d : Point} → a ≡ c → b ≡ d → P a b → P c d
at_same P {a} {b} {c} {d} first second holds =
    let moved = subst (λ (p : Point). P p b) first holds in subst (λ (p : Point). P c p) second moved

-- where the ends of a piece of the sample stand
begins : {number index : ℕ} {piece : Piece} {begin end : Point} {way : Way} → IsLaid number index piece begin end way → sample_place number (sample_piece number index).from ≡ begin
begins {number} laid = ap (λ (p : Piece). sample_place number p.from) laid.is ∙ laid.begins

ends : {number index : ℕ} {piece : Piece} {begin end : Point} {way : Way} → IsLaid number index piece begin end way → sample_place number (sample_piece number index).to ≡ end
ends {number} laid = ap (λ (p : Piece). sample_place number p.to) laid.is ∙ laid.ends

-- so a point of it lies between them, and it has its way
between : {number index : ℕ} {piece : Piece} {begin end : Point} {way : Way} (z : Point) → IsLaid number index piece begin end way → OnSample z number index → OnSegment begin end z
between z laid on = at_same (λ (a b : Point). OnSegment a b z) (begins laid) (ends laid) on

pub goes : {number index : ℕ} {piece : Piece} {begin end : Point} {way : Way} → IsLaid number index piece begin end way → HasWay way begin end →
    AtEnds (HasWay (sample_way number index)) number index
goes {number} {index} {way = way} laid has =
    let here = at_same (HasWay way) (sym (begins laid)) (sym (ends laid)) has in
    subst (λ (w : Way). AtEnds (HasWay w) number index) (sym laid.goes) here

-- z is the place of a vertex that is an end of both pieces
pub record ShareEnd (number p q : ℕ) (z : Point) : Type 0 where
  pub vertex : ℕ
  pub inside : vertex < sample_vertices number
  pub first : IsEnd vertex (sample_piece number p)
  pub second : IsEnd vertex (sample_piece number q)
  pub is : sample_place number vertex ≡ z

swapped : {number p q : ℕ} {z : Point} → ShareEnd number p q z → ShareEnd number q p z
swapped share = record { vertex = share.vertex; inside = share.inside; first = share.second; second = share.first; is = share.is }

-- a node of the spine, and an end of an arm, by its place
spine_at : (number i : ℕ) (z : Point) → i < number → z.x ≡ pos 0 → z.y ≡ pos (2 * i) → sample_place number i ≡ z
spine_at number i z inside x y = spine_stands number i inside ∙ same_point (spine_place i) z (sym x) (sym y)

arm_at : (number i : ℕ) (z : Point) → i < number → z.x ≡ pos 1 → z.y ≡ pos (2 * i) → sample_place number (arm_node number i) ≡ z
arm_at number i z inside x y = arm_stands number i inside ∙ same_point (arm_place i) z (sym x) (sym y)

-- the ends of a piece
is_begin : (vertex : ℕ) (piece same : Piece) → piece ≡ same → vertex ≡ same.from → IsEnd vertex piece
is_begin vertex piece same is end = inl (end ∙ sym (ap Piece.from is))

is_end : (vertex : ℕ) (piece same : Piece) → piece ≡ same → vertex ≡ same.to → IsEnd vertex piece
is_end vertex piece same is end = inr (end ∙ sym (ap Piece.to is))

-- the upper one of two pieces of the spine begins where the lower one ends
two_spines : (number p q i j : ℕ) (z : Point) → i < j → j + 1 < number → IsSpine number p i → IsSpine number q j → OnSample z number p → OnSample z number q →
    ShareEnd number p q z
two_spines number p q i j z order inside first second on on_too =
    let low = between z first on in
    let high = between z second on_too in
    record {
      vertex = j;
      inside = omega arith;
      first = is_end j (sample_piece number p) (spine_piece i) first.is (omega (arith, ints));
      second = is_begin j (sample_piece number q) (spine_piece j) second.is refl;
      is = spine_at number j z (omega arith) (omega (arith, ints)) (omega (arith, ints));
    }

-- an arm begins in the spine
spine_and_arm : (number p q i j : ℕ) (z : Point) → j < number → IsSpine number p i → IsArm number q j → OnSample z number p → OnSample z number q → ShareEnd number p q z
spine_and_arm number p q i j z inside first second on on_too =
    let low = between z first on in
    let high = between z second on_too in
    record {
      vertex = j;
      inside = omega arith;
      first = by (cases_lt i j) (omega (arith, ints)) (omega (arith, ints));
      second = is_begin j (sample_piece number q) (arm_piece number j) second.is refl;
      is = spine_at number j z inside (omega (arith, ints)) (omega (arith, ints));
    }
  where
    by : (i < j) ⊎ (j ≤ i) → i ≤ j → j ≤ i + 1 → IsEnd j (sample_piece number p)
    by (inl upper) low high = is_end j (sample_piece number p) (spine_piece i) first.is (omega arith)
    by (inr lower) low high = is_begin j (sample_piece number p) (spine_piece i) first.is (omega arith)

-- a hook begins at the end of its arm
arm_and_hook : (number p q i j : ℕ) (z : Point) → i < number → IsArm number p i → IsHook number q j → OnSample z number p → OnSample z number q → ShareEnd number p q z
arm_and_hook number p q i j z inside first second on on_too =
    let low = between z first on in
    let high = between z second on_too in
    let same : i ≡ hooked j = omega (arith, ints) in
    record {
      vertex = arm_node number i;
      inside = omega arith;
      first = is_end (arm_node number i) (sample_piece number p) (arm_piece number i) first.is refl;
      second = is_begin (arm_node number i) (sample_piece number q) (hook_piece number j) second.is (omega arith);
      is = arm_at number i z inside (omega (arith, ints)) (omega (arith, ints));
    }

-- two different pieces share a point only where they end
pub share_end : (number p q : ℕ) (z : Point) → (p ≡ q → ⊥) → IsKind number p → IsKind number q → OnSample z number p → OnSample z number q → ShareEnd number p q z
share_end number p q z differ (spine i inside is first) (spine j inside_too is_too second) on on_too = by (cases_lt i j)
  where
    by : (i < j) ⊎ (j ≤ i) → ShareEnd number p q z
    by (inl less) = two_spines number p q i j z less inside_too first second on on_too
    by (inr le) = swapped (two_spines number q p j i z (omega (arith, differ)) inside second first on_too on)
share_end number p q z differ (spine i inside is first) (arm j inside_too is_too second) on on_too = spine_and_arm number p q i j z inside_too first second on on_too
share_end number p q z differ (arm i inside is first) (spine j inside_too is_too second) on on_too = swapped (spine_and_arm number q p j i z inside second first on_too on)
share_end number p q z differ (arm i inside is first) (hook j inside_too is_too second) on on_too = arm_and_hook number p q i j z inside first second on on_too
share_end number p q z differ (hook i inside is first) (arm j inside_too is_too second) on on_too = swapped (arm_and_hook number q p j i z inside_too second first on_too on)
share_end number p q z differ (spine i inside is first) (hook j inside_too is_too second) on on_too =
    let low = between z first on in
    let high = between z second on_too in absurd (omega (arith, ints))
share_end number p q z differ (hook i inside is first) (spine j inside_too is_too second) on on_too =
    let low = between z first on in
    let high = between z second on_too in absurd (omega (arith, ints))
share_end number p q z differ (arm i inside is first) (arm j inside_too is_too second) on on_too =
    let low = between z first on in
    let high = between z second on_too in
    let same : i ≡ j = omega (arith, ints) in absurd (differ (omega arith))
share_end number p q z differ (hook i inside is first) (hook j inside_too is_too second) on on_too =
    let low = between z first on in
    let high = between z second on_too in
    let same : i ≡ j = omega (arith, ints) in absurd (differ (omega arith))

-- two different pieces do not have both ends in common
pub apart : (p q : ℕ) (a b : Piece) → (p ≡ q → ⊥) → LeadsOn p a → LeadsOn q b → HaveSameEnds a b → ⊥
apart p q a b differ first second (inl same) = omega arith
apart p q a b differ first second (inr turned) = omega arith
