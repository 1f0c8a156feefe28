-- Answers that are found in two stages, the second from the value of the first.
use Rattle.std.specs.Prelude.{◌≡◌, ◌⊎◌}

-- the value is made of one of the first stage and of one of the second
pub record IsMadeOf {T U V : Type 0}
    (P : T → Type 0) (R : T → U → Type 0) (made : T → U → V) (value : V) : Type 0 where
  pub first : T
  pub second : U
  pub has_first : P first
  pub has_second : R first second
  pub is : made first second ≡ value

-- the fault is that of the first stage
pub record IsFirstFault {E G : Type 0} (Q : E → Type 0) (told : E → G) (fault : G) : Type 0 where
  pub cause : E
  pub has_cause : Q cause
  pub is : told cause ≡ fault

-- the first stage gave a value, and the fault is that of the second
pub record IsSecondFault {T F G : Type 0}
    (P : T → Type 0) (S : T → F → Type 0) (told : F → G) (fault : G) : Type 0 where
  pub first : T
  pub cause : F
  pub has_first : P first
  pub has_cause : S first cause
  pub is : told cause ≡ fault

-- the fault is that of the first stage, or that of the second after a value of the first
abbrev pub IsFaultOf : {T E F G : Type 0} →
    (T → Type 0) → (E → Type 0) → (T → F → Type 0) → (E → G) → (F → G) → G → Type 0
IsFaultOf P Q S told_first told_second fault =
    IsFirstFault Q told_first fault ⊎ IsSecondFault P S told_second fault
