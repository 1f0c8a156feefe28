-- The verdict by solvers that have best flows.
use Rattle.std.proofs.Common.{◌≡◌, ℤ, List, Option, Some, sym, subst}
use Rattle.std.specs.Prelude.{◌+ℤ◌, ◌<ℤ◌, ◌≤ℤ◌}
use Rattle.compact_types.specs.declared.places.Axis.TheVariants.{X, Y}
use Rattle.compact_types.specs.declared.places.Places.{Places}
use Rattle.compact_types.specs.declared.plan.Shape.{Shape}
use Rattle.compact_types.specs.declared.search.Choice.{Choice}
use Rattle.compact_types.specs.declared.search.Flows.{Flows}
use Rattle.bars.specs.Solutions.{Fit, IsSound}
use Rattle.shape_graphs.specs.declared.graph.DiffGraph.{DiffGraph}
use Rattle.shape_graphs.specs.declared.measure.Verdict.{Verdict}
use Rattle.shape_graphs.specs.declared.measure.Verdict.TheVariants.{Above, Least}
use Rattle.shape_graphs.specs.Graphs.{IsGraphOf}
use Rattle.shape_graphs.specs.Measures.{HaveNoCycle}
use Rattle.potentials.specs.Standing.{StandAt, numbers_along}
use Rattle.potentials.specs.declared.reached.Bounded.{Bounded}
use Rattle.potentials.specs.declared.solver.AxisSolver.{AxisSolver}
use Rattle.potentials.specs.inner.Solving.{AreLeastNumbers, IsBounded}
use Rattle.potentials.specs.inner.Solvers.{IsBestOn, IsSame, IsSolverFor}
use Rattle.potentials.proofs.SolverLemmas.{bounded_there, numbers_there, solvable_there}
use Rattle.potentials.proofs.SolvingLemmas.{IsFull, full_above, full_least, full_same, least_places_at, no_cycle_by_axis}

flipped : (graph other : DiffGraph) → IsSame graph other → IsSame other graph
flipped graph other same = record { nodes = sym same.nodes; arcs = sym same.arcs }

pub same_some : {A : Type 0} (a b : A) (o : Option A) → o ≡ Some a → o ≡ Some b → a ≡ b
same_some a b o is_a is_b = cc

pub still_low : (a b x y : Bounded) (stop : ℤ) → a ≡ x → b ≡ y → (a.bound +ℤ b.bound) ≤ℤ stop → (x.bound +ℤ y.bound) ≤ℤ stop
still_low a b x y stop same_x same_y low =
    subst (λ (it : Bounded). (it.bound +ℤ y.bound) ≤ℤ stop) same_x (subst (λ (it : Bounded). (a.bound +ℤ it.bound) ≤ℤ stop) same_y low)

module _ (shape : Shape) (choices : List Choice) (sound : IsSound shape) (fit : Fit shape choices) (columns rows : DiffGraph)
    (is_columns : IsGraphOf X shape choices columns) (is_rows : IsGraphOf Y shape choices rows)
    (across up : AxisSolver) (for_columns : IsSolverFor columns across) (for_rows : IsSolverFor rows up)
    (x y : Bounded) (x_best : IsBestOn across.network x) (y_best : IsBestOn up.network y) where
  x_is : IsBounded columns x.flow x.bound
  x_is = bounded_there columns across.network (flipped across.network columns for_columns.same) x.flow x.bound x_best.bounded

  y_is : IsBounded rows y.flow y.bound
  y_is = bounded_there rows up.network (flipped up.network rows for_rows.same) y.flow y.bound y_best.bounded

  none : HaveNoCycle shape choices
  none = no_cycle_by_axis shape choices columns rows is_columns is_rows
      (solvable_there columns across.network (flipped across.network columns for_columns.same) for_columns.solver_is.solvable).no_cycle
      (solvable_there rows up.network (flipped up.network rows for_rows.same) for_rows.solver_is.solvable).no_cycle

  -- the bounds pass the stop
  pub is_above : (stop : ℤ) → stop <ℤ (x.bound +ℤ y.bound) → (verdict : Verdict Flows) →
      verdict ≡ Above (x.bound +ℤ y.bound) stop (record { x = x.flow; y = y.flow }) → IsFull shape choices stop verdict
  is_above stop passed verdict is =
      full_same shape choices stop verdict _ is
      (full_above shape choices sound fit columns rows is_columns is_rows x y x_is y_is none stop passed)

  -- the places of the least numbers have the least key
  pub is_least : (stop : ℤ) → (x.bound +ℤ y.bound) ≤ℤ stop → (across_numbers up_numbers : List ℤ) (places : Places) →
      StandAt shape (numbers_along across_numbers up_numbers) places →
      AreLeastNumbers across.network x.flow across_numbers → AreLeastNumbers up.network y.flow up_numbers → (verdict : Verdict Flows) →
      verdict ≡ Least (record { worth = x.bound +ℤ y.bound; places = places }) (record { x = x.flow; y = y.flow }) → IsFull shape choices stop verdict
  is_least stop low across_numbers up_numbers places stand x_numbers y_numbers verdict is =
      let least = least_places_at shape choices sound fit columns rows is_columns is_rows (record { x = x.flow; y = y.flow }) across_numbers up_numbers places stand
      (numbers_there columns across.network (flipped across.network columns for_columns.same) x.flow across_numbers x_numbers).least
      (numbers_there rows up.network (flipped up.network rows for_rows.same) y.flow up_numbers y_numbers).least in
      full_same shape choices stop verdict _ is
      (full_least shape choices sound fit columns rows is_columns is_rows x y x_is y_is none stop low places least)
