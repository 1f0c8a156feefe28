-- The pieces of the sample drawing, by their kinds.
use Rattle.std.proofs.Common.{◌≡◌, ℕ, ◌+◌, ◌-◌, ◌*◌, ◌<◌, ◌≤◌, ◌⊎◌, inl, inr, cond, ltb, refl, ap, ◌∙◌, arith}
use Rattle.std.proofs.lemmas.Bool.{cases_lt, cond-true, cond-false, lt-ltb, le-ltb}
use Rattle.compact_types.specs.declared.places.Point.{Point}
use Rattle.compact_types.specs.declared.plan.Piece.{Piece}
use Rattle.compact_types.specs.declared.plan.Way.{Way}
use Rattle.compact_types.specs.declared.plan.Way.TheVariants.{East, High}
use Rattle.compact_main.specs.Samples.{hooked, arm_node, hook_node, sample_pieces}
use Rattle.compact_main.specs.Samples.{spine_place, arm_place, hook_place, sample_place}
use Rattle.compact_main.specs.Samples.{spine_piece, arm_piece, hook_piece, sample_piece, sample_way}

-- one of three, by the part of the numbers in which k lies
first_part : {X : Type 0} (k a b : ℕ) (x y z : X) → k < a → cond (ltb k a) x (cond (ltb k b) y z) ≡ x
first_part k a b x y z low = cond-true (ltb k a) x (cond (ltb k b) y z) (lt-ltb k a low)

second_part : {X : Type 0} (k a b : ℕ) (x y z : X) → a ≤ k → k < b → cond (ltb k a) x (cond (ltb k b) y z) ≡ y
second_part k a b x y z low high =
    cond-false (ltb k a) x (cond (ltb k b) y z) (le-ltb k a low) ∙ cond-true (ltb k b) y z (lt-ltb k b high)

third_part : {X : Type 0} (k a b : ℕ) (x y z : X) → a ≤ k → b ≤ k → cond (ltb k a) x (cond (ltb k b) y z) ≡ z
third_part k a b x y z low high =
    cond-false (ltb k a) x (cond (ltb k b) y z) (le-ltb k a low) ∙ cond-false (ltb k b) y z (le-ltb k b high)

-- where the vertices stand
pub spine_stands : (number i : ℕ) → i < number → sample_place number i ≡ spine_place i
spine_stands number i inside = first_part i number (2 * number) _ _ _ inside

pub arm_stands : (number i : ℕ) → i < number → sample_place number (arm_node number i) ≡ arm_place i
arm_stands number i inside =
    let same : number + i - number ≡ i = omega arith in
    second_part (number + i) number (2 * number) _ _ _ (omega arith) (omega arith) ∙ ap arm_place same

pub hook_stands : (number j : ℕ) → sample_place number (hook_node number j) ≡ hook_place j
hook_stands number j =
    let same : 2 * number + j - 2 * number ≡ j = omega arith in
    third_part (2 * number + j) number (2 * number) _ _ _ (omega arith) (omega arith) ∙ ap hook_place same

-- the piece of this number, where its ends stand, and its way
pub record IsLaid (number index : ℕ) (piece : Piece) (begin end : Point) (way : Way) : Type 0 where
  pub is : sample_piece number index ≡ piece
  pub begins : sample_place number piece.from ≡ begin
  pub ends : sample_place number piece.to ≡ end
  pub goes : sample_way number index ≡ way

abbrev pub IsSpine : ℕ → ℕ → ℕ → Type 0
IsSpine number index i = IsLaid number index (spine_piece i) (spine_place i) (spine_place (i + 1)) High

abbrev pub IsArm : ℕ → ℕ → ℕ → Type 0
IsArm number index i = IsLaid number index (arm_piece number i) (spine_place i) (arm_place i) East

abbrev pub IsHook : ℕ → ℕ → ℕ → Type 0
IsHook number index j = IsLaid number index (hook_piece number j) (arm_place (hooked j)) (hook_place j) High

-- a piece is one of the spine, an arm or a hook
pub data IsKind (number index : ℕ) : Type 0 where
  spine : (i : ℕ) → i + 1 < number → index ≡ i → IsSpine number index i → IsKind number index
  arm : (i : ℕ) → i < number → index ≡ (number - 1) + i → IsArm number index i → IsKind number index
  hook : (j : ℕ) → hooked j < number → index ≡ (2 * number - 1) + j → IsHook number index j → IsKind number index

spine_kind : (number index : ℕ) → index < number - 1 → IsKind number index
spine_kind number index low = spine index (omega arith) refl (record {
  is = first_part index (number - 1) (2 * number - 1) _ _ _ low;
  begins = spine_stands number index (omega arith);
  ends = spine_stands number (index + 1) (omega arith);
  goes = first_part index (number - 1) (2 * number - 1) _ _ _ low;
})

arm_kind : (number index : ℕ) → number - 1 ≤ index → index < 2 * number - 1 → IsKind number index
arm_kind number index low high =
    let i = index - (number - 1) in
    let inside : i < number = omega arith in
    arm i inside (omega arith) (record {
      is = second_part index (number - 1) (2 * number - 1) _ _ _ low high;
      begins = spine_stands number i inside;
      ends = arm_stands number i inside;
      goes = second_part index (number - 1) (2 * number - 1) _ _ _ low high;
    })

hook_kind : (number index : ℕ) → 1 ≤ number → index < sample_pieces number → 2 * number - 1 ≤ index → IsKind number index
hook_kind number index some inside high =
    let j = index - (2 * number - 1) in
    let hangs : hooked j < number = omega arith in
    hook j hangs (omega arith) (record {
      is = third_part index (number - 1) (2 * number - 1) _ _ _ (omega arith) high;
      begins = arm_stands number (hooked j) hangs;
      ends = hook_stands number j;
      goes = third_part index (number - 1) (2 * number - 1) _ _ _ (omega arith) high;
    })

pub kind_of : (number index : ℕ) → 1 ≤ number → index < sample_pieces number → IsKind number index
kind_of number index some inside = by (cases_lt index (number - 1)) (cases_lt index (2 * number - 1))
  where
    by : (index < number - 1) ⊎ (number - 1 ≤ index) → (index < 2 * number - 1) ⊎ (2 * number - 1 ≤ index) → IsKind number index
    by (inl low) second = spine_kind number index low
    by (inr low) (inl high) = arm_kind number index low high
    by (inr low) (inr high) = hook_kind number index some inside high

-- a piece leads from an earlier vertex to the next one
pub record LeadsOn (index : ℕ) (piece : Piece) : Type 0 where
  pub from : piece.from ≤ index
  pub to : piece.to ≡ index + 1

pub leads_on : (number index : ℕ) → IsKind number index → LeadsOn index (sample_piece number index)
leads_on number index (spine i inside is laid) = record { from = omega (arith, ap Piece.from laid.is); to = omega (arith, ap Piece.to laid.is) }
leads_on number index (arm i inside is laid) = record { from = omega (arith, ap Piece.from laid.is); to = omega (arith, ap Piece.to laid.is) }
leads_on number index (hook j inside is laid) = record { from = omega (arith, ap Piece.from laid.is); to = omega (arith, ap Piece.to laid.is) }
