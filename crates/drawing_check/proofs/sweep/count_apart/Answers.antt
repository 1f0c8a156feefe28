use Rattle.std.proofs.Common.{◌≡◌, ◌<◌, ◌-◌, ◌∙◌, List, length, ap, sym, subst, arith}
use Rattle.std.specs.List.{range_with_len}
use Rattle.rayon.specs.Numbers.{nat_range}
use Rattle.rayon.proofs.ToStd.{nat_range-All}
use Rattle.compact_types.specs.declared.places.Point.{Point}
use Rattle.drawing_check.specs.inner.Seats.{CanSweep}
use Rattle.drawing_check.proofs.SeatLemmas.{apart_from_least}
use Rattle.drawing_check.proofs.sweep.count_apart.Goals as goal

pub min-requires-clause-ready : goal.min-requires-clause-ready
min-requires-clause-ready g c κs within =
    let ends = c.into_par_iter.ensures in
    let inside = nat_range-All (λ i. i < length c.args.seats.now) 0 (length c.args.seats.now) (λ i low high. high) in
    let sweep = subst (λ (l : List Point). CanSweep l c.args.seats.now) (sym c.as_slice-points.ensures) c.requires.can_sweep in
    rw (c.map.ensures.base, c.map.ensures.f, c.with_min_len.ensures.base, ends.0, ends.1) (λ k d lt. ((inside k d lt, sweep), λ y p. tt))

pub returns : goal.returns
returns g c =
    let ends = c.into_par_iter.ensures in
    let whole : length c.args.seats.now - 0 ≡ length c.args.seats.now = omega arith in
    let done = c.min.ensures in
    let chain = rw (c.map.ensures.base, c.map.ensures.f, c.with_min_len.ensures.base) at done.1 in
    let listed = chain.1 ∙ (λ i. nat_range (ends.0 i) (ends.1 i)) ∙ ap (range_with_len 0) whole in
    apart_from_least c.args.plan.now c.args.places.now c.as_slice-points.result.now c.args.seats.now chain.0 done.0 c.min.result c.len-count.result
    c.unwrap_or.result c.as_slice-points.ensures c.requires listed chain.2 done.2 c.unwrap_or.ensures
