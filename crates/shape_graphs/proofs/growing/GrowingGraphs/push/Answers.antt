use Rattle.std.proofs.Common.{refl, sym, ◌∙◌}
use Rattle.compact_types.specs.declared.places.Axis.TheVariants.{X, Y}
use Rattle.shape_graphs.proofs.GrowingLemmas.{columns_stay, graph_more, grown_more, last_fits, rows_stay}
use Rattle.shape_graphs.proofs.growing.GrowingGraphs.push.Goals as goal

pub side_arc-arc-requires : goal.side_arc-arc-requires
side_arc-arc-requires c = last_fits c.args.bars.now c.args.self.now.choices c.args.choice c.requires.fit

pub push-requires-in-X : goal.push-requires-in-X
push-requires-in-X c =
    graph_more X c.args.bars.now c.args.self.now.choices c.args.choice c.args.self.now.columns c.side_arc-arc.result c.shape-what_is_known.ensures.sound
    c.requires.fit (c.requires.grown.each X) (sym c.axis_of_side.ensures ∙ c.in-X.is) c.side_arc-arc.ensures

pub push-requires-in-Y : goal.push-requires-in-Y
push-requires-in-Y c =
    graph_more Y c.args.bars.now c.args.self.now.choices c.args.choice c.args.self.now.rows c.side_arc-arc.result c.shape-what_is_known.ensures.sound
    c.requires.fit (c.requires.grown.each Y) (sym c.axis_of_side.ensures ∙ c.in-Y.is) c.side_arc-arc.ensures

pub returns-in_ok-push-in-X-clause-grown : goal.returns-in_ok-push-in-X-clause-grown
returns-in_ok-push-in-X-clause-grown c =
    grown_more c.args.bars.now c.args.self.now _ c.args.choice c.side_arc-arc.result X (sym c.axis_of_side.ensures ∙ c.in-X.is) c.side_arc-arc.ensures
    c.in_ok-push.ensures.ok
    (record { nodes = c.push-in-X.ensures.nodes; arcs = c.in_ok-push-in-X.ensures.arcs; amounts = c.in_ok-push-in-X.ensures.amounts })
    (rows_stay c.args.self.now _ refl) c.requires.grown c.requires.fit

pub returns-in_ok-push-in-Y-clause-grown : goal.returns-in_ok-push-in-Y-clause-grown
returns-in_ok-push-in-Y-clause-grown c =
    grown_more c.args.bars.now c.args.self.now _ c.args.choice c.side_arc-arc.result Y (sym c.axis_of_side.ensures ∙ c.in-Y.is) c.side_arc-arc.ensures
    c.in_ok-push.ensures.ok
    (record { nodes = c.push-in-Y.ensures.nodes; arcs = c.in_ok-push-in-Y.ensures.arcs; amounts = c.in_ok-push-in-Y.ensures.amounts })
    (columns_stay c.args.self.now _ refl) c.requires.grown c.requires.fit
