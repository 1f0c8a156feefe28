use Rattle.std.proofs.Common.{sym}
use Rattle.compact_types.specs.declared.places.Axis.TheVariants.{X, Y}
use Rattle.potentials.proofs.WorkspaceLemmas.{follows_less, has_less, some_level, stays_less, x_not_y, y_not_x}
use Rattle.potentials.proofs.workspace.FlowWorkspace.pop.Goals as goal

pub take_away-requires-clause-fewer : goal.take_away-requires-clause-fewer
take_away-requires-clause-fewer c =
    has_less c.args.bars.now c.pop.new.self c.args.self.now.graphs c.in-Some.choice X (sym c.in-X.ensures) c.in-Some.ensures.choice
    (c.in-Some.ensures.grown c.args.bars.now c.requires.workspace.grown) c.requires.workspace.grown c.args.self.now.across c.requires.workspace.across

pub take_away-requires-clause-some : goal.take_away-requires-clause-some
take_away-requires-clause-some c =
    some_level c.args.bars.now c.pop.new.self c.args.self.now.graphs c.in-Some.choice X (sym c.in-X.ensures) c.in-Some.ensures.choice
    (c.in-Some.ensures.grown c.args.bars.now c.requires.workspace.grown) c.requires.workspace.grown c.args.self.now.across c.requires.workspace.across

pub take_away-requires-in-Y-clause-fewer : goal.take_away-requires-in-Y-clause-fewer
take_away-requires-in-Y-clause-fewer c =
    has_less c.args.bars.now c.pop.new.self c.args.self.now.graphs c.in-Some.choice Y (sym c.in-Y.ensures) c.in-Some.ensures.choice
    (c.in-Some.ensures.grown c.args.bars.now c.requires.workspace.grown) c.requires.workspace.grown c.args.self.now.up c.requires.workspace.up

pub take_away-requires-in-Y-clause-some : goal.take_away-requires-in-Y-clause-some
take_away-requires-in-Y-clause-some c =
    some_level c.args.bars.now c.pop.new.self c.args.self.now.graphs c.in-Some.choice Y (sym c.in-Y.ensures) c.in-Some.ensures.choice
    (c.in-Some.ensures.grown c.args.bars.now c.requires.workspace.grown) c.requires.workspace.grown c.args.self.now.up c.requires.workspace.up

pub returns-in-X-clause-workspace : goal.returns-in-X-clause-workspace
returns-in-X-clause-workspace c =
    let grown = c.in-Some.ensures.grown c.args.bars.now c.requires.workspace.grown in
    record {
      grown = grown;
      across = follows_less c.args.bars.now c.pop.new.self c.args.self.now.graphs c.in-Some.choice X (sym c.in-X.ensures) c.in-Some.ensures.choice
          grown c.requires.workspace.grown c.args.self.now.across c.requires.workspace.across
          c.take_away.new.self c.take_away.ensures.solver c.take_away.ensures.network c.take_away.ensures.count;
      up = stays_less c.args.bars.now c.pop.new.self c.args.self.now.graphs c.in-Some.choice X (sym c.in-X.ensures) c.in-Some.ensures.choice
          grown c.requires.workspace.grown Y x_not_y c.args.self.now.up c.requires.workspace.up;
    }

pub returns-in-Y-clause-workspace : goal.returns-in-Y-clause-workspace
returns-in-Y-clause-workspace c =
    let grown = c.in-Some.ensures.grown c.args.bars.now c.requires.workspace.grown in
    record {
      grown = grown;
      across = stays_less c.args.bars.now c.pop.new.self c.args.self.now.graphs c.in-Some.choice Y (sym c.in-Y.ensures) c.in-Some.ensures.choice
          grown c.requires.workspace.grown X y_not_x c.args.self.now.across c.requires.workspace.across;
      up = follows_less c.args.bars.now c.pop.new.self c.args.self.now.graphs c.in-Some.choice Y (sym c.in-Y.ensures) c.in-Some.ensures.choice
          grown c.requires.workspace.grown c.args.self.now.up c.requires.workspace.up
          c.take_away-in-Y.new.self c.take_away-in-Y.ensures.solver c.take_away-in-Y.ensures.network c.take_away-in-Y.ensures.count;
    }
