use Rattle.compact_types.proofs.CompareLemmas.{places_from_points}
use Rattle.compact_types.proofs.orders.compare_places.Goals as goal

pub returns : goal.returns
returns c =
    places_from_points c.args.a.now c.args.b.now c.as_slice.result.now c.as_slice-2.result.now c.compare_lists.result
    c.as_slice.ensures c.as_slice-2.ensures c.compare_lists.ensures
