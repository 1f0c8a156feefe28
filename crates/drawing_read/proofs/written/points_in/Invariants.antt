use Rattle.std.proofs.Common.{◌≡◌, take}
use Rattle.std.specs.List.{filter_map}
use Rattle.drawing_read.specs.Written.{point_in}
use Rattle.drawing_read.proofs.written.points_in.Given as goal

abbrev pub invariant-loop-pair : goal.invariant-loop-pair
invariant-loop-pair l = l.points ≡ filter_map point_in (take l.pair-index l.line)
