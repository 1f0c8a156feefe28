use Rattle.std.proofs.Common.{List, subst, sym, arith}
use Rattle.std.specs.Prelude.{Contains}
use Rattle.std.proofs.lemmas.List.Elements.{Contains-get_or}
use Rattle.drawing_read.specs.declared.reading.Spot.{Spot}
use Rattle.drawing_read.proofs.Laws.{spot_vertex_below}
use Rattle.gml_print.proofs.places.with_places.Goals as goal

pub numeral_for-requires-clause-vertex : goal.numeral_for-requires-clause-vertex
numeral_for-requires-clause-vertex c =
    let spot = c.spot-item.result in
    let spots = c.as_slice-spot-items.result.now in
    let there : Contains spots spot =
    subst (λ (s : Spot). Contains spots s) (sym c.spot-item.is) (Contains-get_or spots c.loop-spot.spot-index spot c.loop-spot-test.true) in
    let below = spot_vertex_below c.args.tree c.args.reading.now spot c.requires.read
    (subst (λ (l : List Spot). Contains l spot) c.as_slice-spot-items.ensures there) in
    omega (arith, below, c.requires.one_for_each)
