use Rattle.std.proofs.Common.{◌≡◌, take}
use Rattle.std.specs.List.{filter_map}
use Rattle.drawing_read.specs.Written.{node_in}
use Rattle.drawing_read.proofs.written.nodes_of.Given as goal

abbrev pub invariant-loop-pair : goal.invariant-loop-pair
invariant-loop-pair l = l.nodes ≡ filter_map node_in (take l.pair-index l.pairs)
