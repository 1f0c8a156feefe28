use Rattle.std.proofs.Common.{◌≡◌, ◌∙◌, ℕ, subst, []}
use Rattle.board.specs.declared.entries.Claim.{Claim}
use Rattle.board.specs.Histories.{choices_of, state_of}
use Rattle.ticket_board.specs.Passes.{IsHolding}
use Rattle.ticket_board.specs.Turns.{IsClaimed, IsGranted}
use Rattle.workers.proofs.tests.ticket_table.claim_first.Goals as goal

pub returns-clause-holding : goal.returns-clause-holding
returns-clause-holding g c = λ is.
    let granted : IsGranted c.args.pass.now c.first_branch.result c.claim.new.pass =
    subst (λ (claim : Claim). IsClaimed c.args.pass.now c.first_branch.result claim c.claim.new.pass) is c.claim.ensures.answer in
    subst (λ (id : ℕ). IsHolding c.claim.new.pass id) c.first_branch.ensures.id granted.holding

pub returns-clause-choices : goal.returns-clause-choices
returns-clause-choices g c = λ is.
    let granted : IsGranted c.args.pass.now c.first_branch.result c.claim.new.pass =
    subst (λ (claim : Claim). IsClaimed c.args.pass.now c.first_branch.result claim c.claim.new.pass) is c.claim.ensures.answer in
    subst (λ (id : ℕ). choices_of (state_of c.claim.new.pass.seen) id ≡ []) c.first_branch.ensures.id (granted.choices ∙ c.first_branch.ensures.choices)
