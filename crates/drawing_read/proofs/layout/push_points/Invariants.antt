use Rattle.std.proofs.Common.{◌≡◌, ◌++◌, take, map}
use Rattle.drawing_read.specs.Routes.{point_of}
use Rattle.drawing_read.proofs.layout.push_points.Given as goal

abbrev pub invariant-loop-numbers : goal.invariant-loop-numbers
invariant-loop-numbers l = l.points ≡ l.initial.points ++ map point_of (take l.numbers-index l.more)
