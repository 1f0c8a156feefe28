use Rattle.compact_types.specs.declared.places.Axis.TheVariants.{X, Y}
use Rattle.std.proofs.Common.{◌≡◌, length, arith, ◌∙◌}
use Rattle.cert_check.specs.Faults.IsBoundFault.{no_x_arc, no_y_arc}
use Rattle.cert_check.proofs.BoundLemmas.{told, other_value, other_words, off_here, on_here, flow_from_loads, flows_are, fault_from_flows, good_from_flows}
use Rattle.cert_check.proofs.bounds.check_bound.Goals as goal

pub returns-in-Some-clause-fault : goal.returns-in-Some-clause-fault
returns-in-Some-clause-fault c =
    told (Unit {0}) c.no_arc.result _ _ c.no_arc.ensures
    (no_x_arc c.in-Some.arc
    (off_here X c.args.bars.now c.args.branch.now.choices c.args.branch.now.columns.graph (c.requires.at.grown.each X).graph c.args.x.now c.in-Some.arc
    c.in-Some.ensures))

pub returns-in-Some-first_off_arcs-clause-fault : goal.returns-in-Some-first_off_arcs-clause-fault
returns-in-Some-first_off_arcs-clause-fault c =
    told (Unit {0}) c.no_arc-in-Some-first_off_arcs.result _ _ c.no_arc-in-Some-first_off_arcs.ensures
    (no_y_arc c.in-Some-first_off_arcs.arc
    (on_here X c.args.bars.now c.args.branch.now.choices c.args.branch.now.columns.graph (c.requires.at.grown.each X).graph c.args.x.now c.in_default.ensures)
    (off_here Y c.args.bars.now c.args.branch.now.choices c.args.branch.now.rows.graph (c.requires.at.grown.each Y).graph c.args.y.now c.in-Some-first_off_arcs.arc
    c.in-Some-first_off_arcs.ensures))

pub put-requires-clause-below : goal.put-requires-clause-below
put-requires-clause-below c = λ k d inside.
    let fits : length c.args.branch.now.columns.flow.amounts ≡ length c.args.branch.now.columns.graph.arcs = (c.requires.at.grown.each X).one_for_each in
    let on = c.in_default.ensures k d inside in
    omega (arith, on, fits)

pub put-requires-2-clause-below : goal.put-requires-2-clause-below
put-requires-2-clause-below c = λ k d inside.
    let fits : length c.args.branch.now.rows.flow.amounts ≡ length c.args.branch.now.rows.graph.arcs = (c.requires.at.grown.each Y).one_for_each in
    let on = c.in_default-first_off_arcs.ensures k d inside in
    omega (arith, on, fits)

pub check_flows-checked-requires-clause-flows : goal.check_flows-checked-requires-clause-flows
check_flows-checked-requires-clause-flows c = record {
  columns = (c.requires.at.grown.each X).graph;
  rows = (c.requires.at.grown.each Y).graph;
  across = flow_from_loads c.args.branch.now.columns.graph.arcs c.put.new.amounts c.args.x.now (c.put.ensures.len ∙ (c.requires.at.grown.each X).one_for_each)
      c.put.ensures.loaded c.requires.x;
  up = flow_from_loads c.args.branch.now.rows.graph.arcs c.put-2.new.amounts c.args.y.now (c.put-2.ensures.len ∙ (c.requires.at.grown.each Y).one_for_each)
      c.put-2.ensures.loaded c.requires.y;
}

pub returns-clause-fault : goal.returns-clause-fault
returns-clause-fault c =
    other_words _ _ c.check_flows-checked.result
    (fault_from_flows c.args.bars.now c.args.branch.now.choices c.args.answer.now.places.now c.args.entry c.args.x.now c.args.y.now
    (record {
      x_arcs = on_here X c.args.bars.now c.args.branch.now.choices c.args.branch.now.columns.graph (c.requires.at.grown.each X).graph c.args.x.now c.in_default.ensures;
      y_arcs = on_here Y c.args.bars.now c.args.branch.now.choices c.args.branch.now.rows.graph (c.requires.at.grown.each Y).graph c.args.y.now
          c.in_default-first_off_arcs.ensures;
    })
    _
    (flows_are c.args.bars.now c.args.branch.now.choices c.args.branch.now.columns.graph c.args.branch.now.rows.graph c.put.new.amounts c.put-2.new.amounts
    c.args.x.now c.args.y.now (c.requires.at.grown.each X).graph (c.requires.at.grown.each Y).graph (c.put.ensures.len ∙ (c.requires.at.grown.each X).one_for_each)
    (c.put-2.ensures.len ∙ (c.requires.at.grown.each Y).one_for_each) c.put.ensures.loaded c.put-2.ensures.loaded))
    c.check_flows-checked.ensures.fault

pub returns-clause-good : goal.returns-clause-good
returns-clause-good c =
    other_value _ _ c.check_flows-checked.result
    (good_from_flows c.args.bars.now c.args.branch.now.choices c.args.answer.now.places.now c.args.entry c.args.x.now c.args.y.now
    (record {
      x_arcs = on_here X c.args.bars.now c.args.branch.now.choices c.args.branch.now.columns.graph (c.requires.at.grown.each X).graph c.args.x.now c.in_default.ensures;
      y_arcs = on_here Y c.args.bars.now c.args.branch.now.choices c.args.branch.now.rows.graph (c.requires.at.grown.each Y).graph c.args.y.now
          c.in_default-first_off_arcs.ensures;
    })
    _
    (flows_are c.args.bars.now c.args.branch.now.choices c.args.branch.now.columns.graph c.args.branch.now.rows.graph c.put.new.amounts c.put-2.new.amounts
    c.args.x.now c.args.y.now (c.requires.at.grown.each X).graph (c.requires.at.grown.each Y).graph (c.put.ensures.len ∙ (c.requires.at.grown.each X).one_for_each)
    (c.put-2.ensures.len ∙ (c.requires.at.grown.each Y).one_for_each) c.put.ensures.loaded c.put-2.ensures.loaded))
    c.check_flows-checked.ensures.good
