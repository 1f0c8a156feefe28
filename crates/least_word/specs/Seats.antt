-- What contracts see of a word and of a seat.
use Rattle.compact_types.specs.declared.plan.Shape.{Shape}
use Rattle.atomic_table.specs.Seated.{TableId}
use Rattle.least_word.specs.declared.view.View.{View}

-- which word it is, and the shape whose drawings it is about
pub record WordHome : Type 0 where
  pub table : TableId
  pub shape : Shape

-- the word to which a seat belongs, and what the seat knows
pub record SeatView : Type 0 where
  pub home : WordHome
  pub view : View
