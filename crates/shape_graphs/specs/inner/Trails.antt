-- A walk against the arcs that leaves a node once all arcs into it were passed.
use Rattle.std.specs.Prelude.{◌≡◌, ℕ, suc, ◌+◌, ◌<◌, ◌≤◌, ◌-◌, List, [], length}
use Rattle.std.specs.Prelude.{slice_index, slice_index_or, sum}
use Rattle.std.specs.List.{sum_by}
use Rattle.shape_graphs.specs.declared.graph.Arc.{Arc}
use Rattle.shape_graphs.specs.declared.trail.Mark.{Mark}
use Rattle.shape_graphs.specs.declared.trail.Mark.TheVariants.{Fresh, Walked, Left}
use Rattle.shape_graphs.specs.declared.trail.Trail.{Trail}
use Rattle.shape_graphs.specs.declared.trail.OrderOrCycle.{OrderOrCycle}
use Rattle.shape_graphs.specs.declared.trail.OrderOrCycle.TheVariants.{Order, Cycle}
use Rattle.shape_graphs.specs.Arcs.{arc_at}
use Rattle.shape_graphs.specs.Orders.{IsArcOrder}
use Rattle.shape_graphs.specs.Paths.{IsCycle, step_arc}

-- the entry names the last arc into the node of those below a bound, by its number and 1, or is 0
-- where there is none
pub record IsLastInto (arcs : List Arc) (bound node entry : ℕ) : Type 0 where
  pub within : entry ≤ bound
  pub ends : 0 < entry → (arc_at arcs (entry - 1)).to ≡ node
  pub none_between : (j : ℕ) → entry ≤ j → j < bound → (arc_at arcs j).to ≡ node → ⊥

-- for each of the first n arcs the entry of the arc before it that ends at the same node
pub record AreLinked (arcs : List Arc) (n : ℕ) (before : List ℕ) : Type 0 where
  pub one_for_each : length before ≡ n
  pub each : (i : ℕ) → i < n → IsLastInto arcs i (arc_at arcs i).to (slice_index before i)

-- for each node the entry of the last of the first n arcs that ends at it
pub record AreLast (nodes : ℕ) (arcs : List Arc) (n : ℕ) (last : List ℕ) : Type 0 where
  pub one_for_each : length last ≡ nodes
  pub each : (v : ℕ) → v < nodes → IsLastInto arcs n v (slice_index last v)

abbrev pub mark_at : List Mark → ℕ → Mark
mark_at marks v = slice_index_or marks v Fresh

-- arc i was passed
abbrev pub IsPassed : List Arc → List ℕ → ℕ → Type 0
IsPassed arcs next i = slice_index next (arc_at arcs i).to ≤ i

-- the list has exactly the arcs that were passed, in topological order
pub record ArePassed (arcs : List Arc) (next passed : List ℕ) : Type 0 where
  pub in_graph : (k : ℕ) → k < length passed → slice_index passed k < length arcs
  pub are_passed : (k : ℕ) → k < length passed → IsPassed arcs next (slice_index passed k)
  pub has_each : (i : ℕ) → i < length arcs → IsPassed arcs next i →
      (k : ℕ) × (k < length passed) × (slice_index passed k ≡ i)
  pub no_arc_twice : (k l : ℕ) → k < length passed → l < length passed →
      slice_index passed k ≡ slice_index passed l → k ≡ l
  pub ends_before : (k l : ℕ) → k < length passed → l < length passed →
      (step_arc arcs passed l).to ≡ (step_arc arcs passed k).from → l < k

-- the walk goes against arcs, has exactly the nodes that are marked so, and none twice
pub record IsWalk (nodes : ℕ) (arcs : List Arc) (next : List ℕ) (marks : List Mark) (walk : List ℕ) : Type 0 where
  pub in_graph : (k : ℕ) → k < length walk → slice_index walk k < nodes
  pub are_walked : (k : ℕ) → k < length walk → mark_at marks (slice_index walk k) ≡ Walked
  pub has_walked : (v : ℕ) → v < nodes → mark_at marks v ≡ Walked →
      (k : ℕ) × (k < length walk) × (slice_index walk k ≡ v)
  pub no_node_twice : (k l : ℕ) → k < length walk → l < length walk →
      slice_index walk k ≡ slice_index walk l → k ≡ l
  pub some_arc : (k : ℕ) → suc k < length walk → 0 < slice_index next (slice_index walk k)
  pub against : (k : ℕ) → suc k < length walk →
      (arc_at arcs (slice_index next (slice_index walk k) - 1)).from ≡ slice_index walk (suc k)

-- what holds at every step
pub record IsTrail (nodes : ℕ) (arcs : List Arc) (trail : Trail) : Type 0 where
  pub next_for_each : length trail.next ≡ nodes
  pub mark_for_each : length trail.marks ≡ nodes
  pub next_within : (v : ℕ) → v < nodes → slice_index trail.next v ≤ length arcs
  pub next_ends : (v : ℕ) → v < nodes → 0 < slice_index trail.next v →
      (arc_at arcs (slice_index trail.next v - 1)).to ≡ v
  pub left_passed : (v : ℕ) → v < nodes → mark_at trail.marks v ≡ Left →
      slice_index trail.next v ≡ 0
  pub passed_left : (i : ℕ) → i < length arcs → IsPassed arcs trail.next i →
      mark_at trail.marks (arc_at arcs i).from ≡ Left
  pub passed : ArePassed arcs trail.next trail.passed
  pub walk : IsWalk nodes arcs trail.next trail.marks trail.walk

-- how much is still to be done
abbrev pub weight_of : Mark → ℕ
weight_of Fresh = 2
weight_of Walked = 1
weight_of Left = 0

abbrev pub rest_of : Trail → ℕ
rest_of trail = sum_by weight_of trail.marks + sum trail.next

-- what was left stays so
abbrev pub StayLeft : ℕ → Trail → Trail → Type 0
StayLeft nodes before now =
    (v : ℕ) → v < nodes → mark_at before.marks v ≡ Left → mark_at now.marks v ≡ Left

-- one step further: what holds still holds, what was left stays so, and less is to be done
pub record IsTrailStep (nodes : ℕ) (arcs : List Arc) (before now : Trail) : Type 0 where
  pub trail : IsTrail nodes arcs now
  pub stay : StayLeft nodes before now
  pub met_stay : (v : ℕ) → v < nodes → mark_at now.marks v ≡ Fresh → mark_at before.marks v ≡ Fresh
  pub less : rest_of now < rest_of before

-- all nodes of the walk were left, the node at which it began among them
pub record AreLeftTo (nodes : ℕ) (arcs : List Arc) (before now : Trail) (start : ℕ) : Type 0 where
  pub trail : IsTrail nodes arcs now
  pub none : now.walk ≡ []
  pub stay : StayLeft nodes before now
  pub left : mark_at now.marks start ≡ Left

-- the arc at hand of the last node of the walk begins at a node of the walk
pub record IsMet (nodes : ℕ) (arcs : List Arc) (trail : Trail) (met : ℕ) : Type 0 where
  pub holds : IsTrail nodes arcs trail
  pub some : 0 < length trail.walk
  pub some_arc : 0 < slice_index trail.next (slice_index trail.walk (length trail.walk - 1))
  pub begins : (arc_at arcs (slice_index trail.next (slice_index trail.walk (length trail.walk - 1)) - 1)).from ≡ met
  pub walked : mark_at trail.marks met ≡ Walked
  pub is_node : met < nodes

-- a cycle that passes no node twice
pub record IsRound (arcs : List Arc) (walk : List ℕ) : Type 0 where
  pub cycle : IsCycle arcs walk
  pub no_node_twice : (k l : ℕ) → k < length walk → l < length walk →
      (step_arc arcs walk k).from ≡ (step_arc arcs walk l).from → k ≡ l

-- what was found: all arcs in topological order, or a cycle
abbrev pub IsOrderOrCycle : List Arc → OrderOrCycle → Type 0
IsOrderOrCycle arcs (Order order) = IsArcOrder arcs order
IsOrderOrCycle arcs (Cycle walk) = IsRound arcs walk
