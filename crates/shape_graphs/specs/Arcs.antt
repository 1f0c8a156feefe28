-- Arcs by their numbers.
use Rattle.std.specs.Prelude.{ℕ, ◌<◌, ◌≤◌, pos, ◌≤ℤ◌, List, length, slice_index_or}
use Rattle.shape_graphs.specs.declared.graph.Arc.{Arc}
use Rattle.shape_graphs.specs.declared.graph.TheConstants.{MOST_ARCS, GREATEST_LEAST, GREATEST_PULL}

-- the arc that stands for one that is not there
abbrev pub no_arc : Arc
no_arc = record { from = 0; to = 0; least = pos 0; pull = pos 0 }

-- the arc of a number
abbrev pub arc_at : List Arc → ℕ → Arc
arc_at arcs i = slice_index_or arcs i no_arc

-- the ends of every arc are nodes
abbrev pub EndsAreNodes : ℕ → List Arc → Type 0
EndsAreNodes nodes arcs =
    (i : ℕ) → i < length arcs → ((arc_at arcs i).from < nodes) × ((arc_at arcs i).to < nodes)

-- what an arc asks for and how it pulls is within bounds
pub record IsArcWithin (arc : Arc) : Type 0 where
  pub some_least : pos 1 ≤ℤ arc.least
  pub most_least : arc.least ≤ℤ GREATEST_LEAST
  pub some_pull : pos 0 ≤ℤ arc.pull
  pub most_pull : arc.pull ≤ℤ GREATEST_PULL

abbrev pub AreArcsWithin : List Arc → Type 0
AreArcsWithin arcs = (i : ℕ) → i < length arcs → IsArcWithin (arc_at arcs i)

-- the arcs make a graph on so many nodes
pub record AreGraph (nodes : ℕ) (arcs : List Arc) : Type 0 where
  pub ends : EndsAreNodes nodes arcs
  pub few : length arcs ≤ MOST_ARCS
  pub within : AreArcsWithin arcs

-- the arc fits a graph on so many nodes
pub record FitsGraph (nodes : ℕ) (arc : Arc) : Type 0 where
  pub begins : arc.from < nodes
  pub ends : arc.to < nodes
  pub within : IsArcWithin arc
