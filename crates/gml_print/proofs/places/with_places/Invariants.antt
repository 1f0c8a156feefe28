use Rattle.std.proofs.Common.{◌≡◌, drop}
use Rattle.gml_print.specs.Places.{placed}
use Rattle.gml_print.proofs.places.with_places.Given as goal

-- the spots that are left turn the tree into the placed one
abbrev pub invariant-loop-spot : goal.invariant-loop-spot
invariant-loop-spot l = placed l.new (drop l.spot-index l.spot-items) l.places l.pitch ≡ placed l.fn.tree l.spot-items l.places l.pitch
