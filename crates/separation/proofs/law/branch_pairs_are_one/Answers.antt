use Rattle.separation.proofs.BranchLaws.{branch_pairs_of_choices}
use Rattle.separation.proofs.BranchLaws as laws
use Rattle.separation.proofs.law.branch_pairs_are_one.Goals as goal

pub returns-clause-at_places : goal.returns-clause-at_places
returns-clause-at_places c = λ shape choices places s t u v first second. laws.branch_pairs_are_one shape choices places s t u v first second

pub returns-clause-at_least_keys : goal.returns-clause-at_least_keys
returns-clause-at_least_keys c = λ objective shape choices k l s t u v least other first second.
    branch_pairs_of_choices objective shape choices k l s t u v least other first second
