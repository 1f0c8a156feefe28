-- What a result says when memory may be refused.
use Rattle.std.specs.Prelude.{◌≡◌, ◌⊎◌, Result, Ok, Err, IfOk}
use Rattle.compact_types.specs.declared.refusal.Refusal.{Refusal}
use Rattle.compact_types.specs.declared.refusal.Refusal.TheVariants.{Fault, NoMemory}

-- what holds of the value, of the fault, or if memory was refused
abbrev pub MatchRefusal : {T F : Type 0} →
    Result T (Refusal F) → (T → Type 0) → (F → Type 0) → Type 0 → Type 0
MatchRefusal (Ok value) P Q R = P value
MatchRefusal (Err (Fault fault)) P Q R = Q fault
MatchRefusal (Err NoMemory) P Q R = R

-- the answer is the expected one, success or fault, unless memory was refused
abbrev pub Gives : {T F : Type 0} → Result T (Refusal F) → Result T F → Type 0
Gives (Ok value) expected = expected ≡ Ok value
Gives (Err (Fault fault)) expected = expected ≡ Err fault
Gives (Err NoMemory) expected = Unit {0}

-- what holds of the fault, if there is one
abbrev pub IfFault : {T F : Type 0} → Result T (Refusal F) → (F → Type 0) → Type 0
IfFault (Ok value) P = Unit {0}
IfFault (Err (Fault fault)) P = P fault
IfFault (Err NoMemory) P = Unit {0}

-- The answer is exact: a value of which P holds or a fault of which Q holds, and if P holds of a
-- value or Q of a fault, that is the answer; unless memory was refused.
pub record Decides {T F : Type 0}
    (result : Result T (Refusal F)) (P : T → Type 0) (Q : F → Type 0) : Type 0 where
  pub value : IfOk result P
  pub fault : IfFault result Q
  pub only : (value : T) → P value → Gives result (Ok value)
  pub first : (fault : F) → Q fault → Gives result (Err fault)

-- P holds of one value and Q of no fault, or Q of one fault and P of no value
pub record HasOneAnswer {T F : Type 0} (P : T → Type 0) (Q : F → Type 0) : Type 0 where
  pub some : ((value : T) × P value) ⊎ ((fault : F) × Q fault)
  pub one_value : (a b : T) → P a → P b → a ≡ b
  pub one_fault : (a b : F) → Q a → Q b → a ≡ b
  pub not_both : (value : T) (fault : F) → P value → Q fault → ⊥
