use Rattle.std.proofs.Common.{◌≡◌, ◌≤◌, ◌++◌, drop}
use Rattle.drawing_read.specs.Spots.{graph_spots}
use Rattle.drawing_read.proofs.spots.Walk.graph.Given as goal

abbrev pub invariant-loop-at : goal.invariant-loop-at
invariant-loop-at l = record {
  path : l.self.path ≡ l.initial.self.path;
  so_far : l.self.spots ++ graph_spots l.initial.self.path l.edges l.at l.n l.e (drop l.at l.pairs)
      ≡ l.initial.self.spots ++ graph_spots l.initial.self.path l.edges 0 0 0 l.pairs;
  nodes : l.n ≤ l.at;
  edges : l.e ≤ l.at;
}
