use Rattle.std.proofs.Common.{◌≡◌, ◌≤◌, ◌++◌, drop}
use Rattle.drawing_read.specs.Spots.{point_spots}
use Rattle.drawing_read.proofs.spots.Walk.points.Given as goal

abbrev pub invariant-loop-at : goal.invariant-loop-at
invariant-loop-at l = record {
  path : l.self.path ≡ l.initial.self.path;
  so_far : l.self.spots ++ point_spots l.initial.self.path l.span l.at l.p (drop l.at l.pairs)
      ≡ l.initial.self.spots ++ point_spots l.initial.self.path l.span 0 0 l.pairs;
  few : l.p ≤ l.at;
}
