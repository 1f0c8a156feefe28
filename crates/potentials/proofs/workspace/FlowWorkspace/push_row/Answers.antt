use Rattle.std.proofs.Common.{sym, subst}
use Rattle.compact_types.specs.declared.places.Axis.TheVariants.{X, Y}
use Rattle.shape_graphs.specs.Growing.{graph_on}
use Rattle.potentials.specs.declared.solver.AxisSolver.{AxisSolver}
use Rattle.potentials.specs.inner.Solvers.{IsSolverOf}
use Rattle.potentials.proofs.WorkspaceLemmas.{back_again, first_cyclic_y, follows_more, has_more, popped_choices, stays_more, y_not_x}
use Rattle.potentials.proofs.workspace.FlowWorkspace.push_row.Goals as goal

pub add-requires-clause-more : goal.add-requires-clause-more
add-requires-clause-more c =
    has_more c.args.bars.now c.args.self.now.graphs c.push.new.self c.args.choice Y c.requires.axis c.in_ok-push.ensures.choices
    c.requires.workspace.grown c.in_ok-push.ensures.grown c.args.self.now.up c.requires.workspace.up

pub returns-then-branch : goal.returns-then-branch
returns-then-branch c =
    let added = rw c.if-branch.true at c.in_ok-add.ensures in (
      record {
        grown = c.in_ok-push.ensures.grown;
        across = stays_more c.args.bars.now c.args.self.now.graphs c.push.new.self c.args.choice Y c.requires.axis c.in_ok-push.ensures.choices
            c.requires.workspace.grown c.in_ok-push.ensures.grown X y_not_x c.args.self.now.across c.requires.workspace.across;
        up = follows_more c.args.bars.now c.args.self.now.graphs c.push.new.self c.args.choice Y c.requires.axis c.in_ok-push.ensures.choices
            c.requires.workspace.grown c.in_ok-push.ensures.grown c.args.self.now.up c.requires.workspace.up c.add.new.self added.0 added.1 added.2;
      },
      c.in_ok-push.ensures.choices,
    )

pub returns : goal.returns
returns c =
    let refused = rw c.if-branch.false at c.in_ok-add.ensures in
    let choices = popped_choices c.args.self.now.graphs.choices c.push.new.self.choices c.pop-choice.new.self.choices c.args.choice c.pop-choice.result
    c.in_ok-push.ensures.choices c.pop-choice.ensures.choice in
    let grown = c.pop-choice.ensures.grown c.args.bars.now c.in_ok-push.ensures.grown in (
      record {
        grown = grown;
        across = back_again c.args.bars.now c.args.self.now.graphs c.pop-choice.new.self c.requires.workspace.grown grown choices X c.args.self.now.across c.requires.workspace.across;
        up = subst (λ (s : AxisSolver). IsSolverOf Y c.args.bars.now c.pop-choice.new.self.choices (graph_on Y c.pop-choice.new.self).graph s) (sym refused.1)
            (back_again c.args.bars.now c.args.self.now.graphs c.pop-choice.new.self c.requires.workspace.grown grown choices Y c.args.self.now.up c.requires.workspace.up);
      },
      (
        choices,
        first_cyclic_y c.args.bars.now c.args.self.now.graphs c.push.new.self c.args.choice c.requires.axis c.in_ok-push.ensures.choices
            c.requires.workspace.grown c.in_ok-push.ensures.grown c.args.self.now.across c.requires.workspace.across
            c.in_ok-cycle.cycle.arcs c.in_ok-cycle.ensures,
      ),
    )
