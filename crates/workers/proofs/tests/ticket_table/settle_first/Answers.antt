use Rattle.std.proofs.Common.{◌∙◌, subst, sym, ap, List}
use Rattle.compact_types.specs.declared.plan.Shape.{Shape}
use Rattle.compact_types.specs.declared.search.Choice.{Choice}
use Rattle.board.specs.Histories.{choices_of, state_of}
use Rattle.board.specs.Verdicts.{IsBranchPairFor, IsSoundVerdict}
use Rattle.ticket_board.specs.Passes.{BoardHome}
use Rattle.workers.proofs.tests.ticket_table.settle_first.Goals as goal

pub settle-requires-clause-verdict : goal.settle-requires-clause-verdict
settle-requires-clause-verdict g c κs within =
    subst (λ (s : Shape). IsSoundVerdict g.M.Proof.Backing.objective g.M.Proof.Backing.backs s (choices_of (state_of c.args.pass.now.seen) 0) c.in_ok-solved.solved.verdict)
    (sym (ap (λ (home : BoardHome). home.shape) c.requires.home ∙ c.requires.shape))
    (subst (λ (cs : List Choice). IsSoundVerdict g.M.Proof.Backing.objective g.M.Proof.Backing.backs c.args.bars.now cs c.in_ok-solved.solved.verdict)
    (c.first_branch.ensures.choices ∙ sym c.requires.choices) c.in_ok-solved.ensures.sound)

pub settle-requires-clause-pair : goal.settle-requires-clause-pair
settle-requires-clause-pair g c κs within =
    subst (λ (s : Shape). IsBranchPairFor s (choices_of (state_of c.args.pass.now.seen) 0) c.in_ok-solved.solved.verdict c.in_ok-solved.solved.pair)
    (sym (ap (λ (home : BoardHome). home.shape) c.requires.home ∙ c.requires.shape))
    (subst (λ (cs : List Choice). IsBranchPairFor c.args.bars.now cs c.in_ok-solved.solved.verdict c.in_ok-solved.solved.pair)
    (c.first_branch.ensures.choices ∙ sym c.requires.choices) c.in_ok-solved.ensures.pair)
