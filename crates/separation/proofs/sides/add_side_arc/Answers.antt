use Rattle.std.proofs.Common.{ap, sym, ◌∙◌}
use Rattle.compact_types.specs.declared.places.Axis.{Axis}
use Rattle.compact_types.specs.declared.places.Axis.TheVariants.{X, Y}
use Rattle.bars.specs.Lines.{is_axis}
use Rattle.separation.proofs.ReachLemmas.{side_low, side_high, rows_with, rows_without}
use Rattle.separation.proofs.sides.add_side_arc.Goals as goal

pub returns-then-side-lt2 : goal.returns-then-side-lt2
returns-then-side-lt2 c = λ choices reach. (
    let along = side_low c.args.side c.if-side-lt2.true in
    record {
      x = rows_with X c.args.bars.now choices c.args.s c.args.t c.args.side c.args.reach.now.x c.add_arc.new.self along reach.x
          (λ arcs arc from to are. c.add_arc.ensures.rows arcs arc (from ∙ sym c.side_ends-from.ensures.from) (to ∙ sym c.side_ends-from.ensures.to) are);
      y = rows_without Y c.args.bars.now choices c.args.s c.args.t c.args.side c.args.reach.now.y (ap (λ (axis : Axis). is_axis axis Y) along) reach.y;
    })

pub returns-else-side-lt2 : goal.returns-else-side-lt2
returns-else-side-lt2 c = λ choices reach. (
    let along = side_high c.args.side c.if-side-lt2.false in
    record {
      x = rows_without X c.args.bars.now choices c.args.s c.args.t c.args.side c.args.reach.now.x (ap (λ (axis : Axis). is_axis axis X) along) reach.x;
      y = rows_with Y c.args.bars.now choices c.args.s c.args.t c.args.side c.args.reach.now.y c.add_arc-else-side-lt2.new.self along reach.y
          (λ arcs arc from to are. c.add_arc-else-side-lt2.ensures.rows arcs arc (from ∙ sym c.side_ends-from.ensures.from) (to ∙ sym c.side_ends-from.ensures.to) are);
    })
