use Rattle.std.proofs.Common.{refl, sym, ◌∙◌}
use Rattle.compact_types.specs.declared.places.Axis.TheVariants.{X, Y}
use Rattle.shape_graphs.proofs.GrowingLemmas.{columns_stay, grown_less, rows_stay}
use Rattle.shape_graphs.proofs.growing.GrowingGraphs.pop.Goals as goal

pub returns-in-X-clause-grown : goal.returns-in-X-clause-grown
returns-in-X-clause-grown c = λ shape grown.
    grown_less shape c.args.self.now _ c.in-Some.choice X (sym c.axis_of_side.ensures ∙ c.in-X.is) c.in-Some.ensures
    (record { nodes = c.pop-in-X.ensures.nodes; arcs = c.pop-in-X.ensures.arcs; amounts = c.pop-in-X.ensures.amounts })
    (rows_stay c.args.self.now _ refl) grown

pub returns-in-Y-clause-grown : goal.returns-in-Y-clause-grown
returns-in-Y-clause-grown c = λ shape grown.
    grown_less shape c.args.self.now _ c.in-Some.choice Y (sym c.axis_of_side.ensures ∙ c.in-Y.is) c.in-Some.ensures
    (record { nodes = c.pop-in-Y.ensures.nodes; arcs = c.pop-in-Y.ensures.arcs; amounts = c.pop-in-Y.ensures.amounts })
    (columns_stay c.args.self.now _ refl) grown
