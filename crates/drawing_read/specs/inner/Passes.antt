-- What single passes of the reading answer.
use Rattle.std.specs.Prelude.{◌≡◌, ℕ, suc, ◌+◌, ◌<◌, ◌≤◌, List, [], ◌∷◌, Option, None}
use Rattle.std.specs.Prelude.{Some, fold, length, sum_by, All, is_some, drop, codes}
use Rattle.std.specs.List.{position}
use Rattle.gml_text.specs.declared.tree.Pair.{Pair}
use Rattle.drawing_read.specs.declared.written.Edge.{Edge}
use Rattle.drawing_read.specs.declared.written.Graph.{Graph}
use Rattle.drawing_read.specs.Lookups.{list_under, lists_under}
use Rattle.drawing_read.specs.inner.Legible.{most_pairs, AreLegible}
use Rattle.drawing_read.specs.declared.numerals.Number.{Number}
use Rattle.drawing_read.specs.declared.numerals.Numbers.{Numbers}
use Rattle.drawing_read.specs.declared.refused.RefusedNumber.{RefusedNumber}
use Rattle.drawing_read.specs.Faults.{both_numbers, refused_in, earlier}

-- the one that stands first, of what was refused so far and of one more
abbrev pub earlier_if_any : Option RefusedNumber → Option RefusedNumber → Option RefusedNumber
earlier_if_any None more = more
earlier_if_any (Some a) None = Some a
earlier_if_any (Some a) (Some b) = Some (earlier a b)

-- the same, where one more number is seen
abbrev pub with_number : Option RefusedNumber → Number → Option RefusedNumber
with_number best number = earlier_if_any best (refused_in number)

-- the same, where the numbers of one more place are seen
abbrev pub with_numbers : Option RefusedNumber → Option Numbers → Option RefusedNumber
with_numbers best numbers = fold with_number best (both_numbers numbers)

-- how many points the edges have together
abbrev pub point_count : List Edge → ℕ
point_count edges = sum_by (λ (edge : Edge). length edge.points) edges

-- what is written in a graph is not too much to be counted
pub record CanBeCounted (graph : Graph) : Type 0 where
  pub nodes : length graph.nodes ≤ most_pairs
  pub edges : length graph.edges ≤ most_pairs
  pub points : All (λ (edge : Edge). length edge.points ≤ most_pairs) graph.edges
  pub vertices : length graph.nodes + point_count graph.edges ≤ most_pairs

-- the first graph is this list, and its pair stands at this place
pub record IsFirstGraph (pairs : List Pair) (at : ℕ) (list : List Pair) : Type 0 where
  pub within : at < length pairs
  pub place : position (λ pair. is_some (list_under (codes "graph") pair)) pairs ≡ Some at
  pub lists : lists_under (codes "graph") pairs
      ≡ list ∷ lists_under (codes "graph") (drop (suc at) pairs)
  pub legible : AreLegible pairs → AreLegible list

-- and there is no other
pub record IsOnlyGraph (pairs : List Pair) (at : ℕ) (list : List Pair) : Type 0 where
  pub within : at < length pairs
  pub place : position (λ pair. is_some (list_under (codes "graph") pair)) pairs ≡ Some at
  pub only : lists_under (codes "graph") pairs ≡ list ∷ []
  pub legible : AreLegible pairs → AreLegible list
