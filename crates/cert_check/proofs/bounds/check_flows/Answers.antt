use Rattle.compact_types.specs.declared.places.Axis.TheVariants.{X, Y}
use Rattle.cert_check.specs.inner.Flowing.IsFlowFault.{columns_unbalanced, rows_unbalanced, too_weak}
use Rattle.cert_check.proofs.BoundLemmas.{told, other_words, unbalanced_here, balanced_here, both_balanced}
use Rattle.cert_check.proofs.bounds.check_flows.Goals as goal

pub returns-in-Err-clause-fault : goal.returns-in-Err-clause-fault
returns-in-Err-clause-fault c =
    told (Unit {0}) c.unbalanced.result _ _ c.unbalanced.ensures
    (columns_unbalanced c.in-Err.node
    (unbalanced_here X c.args.bars.now c.args.branch.now.choices c.args.branch.now.columns.graph c.requires.flows.columns
    c.args.branch.now.columns.flow.amounts c.in-Err.node c.in-Err.ensures))

pub returns-in-Err-balanced-clause-fault : goal.returns-in-Err-balanced-clause-fault
returns-in-Err-balanced-clause-fault c =
    told (Unit {0}) c.unbalanced-in-Err-balanced.result _ _ c.unbalanced-in-Err-balanced.ensures
    (rows_unbalanced c.in-Err-balanced.node
    (balanced_here X c.args.bars.now c.args.branch.now.choices c.args.branch.now.columns.graph c.requires.flows.columns
    c.args.branch.now.columns.flow c.requires.flows.across c.in_default.ensures)
    (unbalanced_here Y c.args.bars.now c.args.branch.now.choices c.args.branch.now.rows.graph c.requires.flows.rows
    c.args.branch.now.rows.flow.amounts c.in-Err-balanced.node c.in-Err-balanced.ensures))

pub returns-clause-fault : goal.returns-clause-fault
returns-clause-fault c =
    other_words _ _ c.check_strength.result
    (λ fault weak. too_weak fault
    (both_balanced c.args.bars.now c.args.branch.now c.requires.flows c.in_default.ensures c.in_default-balanced.ensures) weak)
    c.check_strength.ensures.fault
