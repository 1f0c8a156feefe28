use Rattle.std.proofs.Common.{arith}
use Rattle.compact_types.proofs.GroupLemmas.{labelling_merged}
use Rattle.compact_types.proofs.groups.join_groups.Goals as goal

pub returns-then-from-to-clause-labels : goal.returns-then-from-to-clause-labels
returns-then-from-to-clause-labels c = λ labels is.
    let first = c.least_of_group-from.ensures.labels labels is in
    let second = c.least_of_group-to.ensures.labels labels first in
    let from = c.least_of_group-from.ensures.label labels is in
    let to = c.least_of_group-to.ensures.label labels first in
    labelling_merged _ labels _ _ _ _ (omega arith) (second.ends _ c.least_of_group-to.ensures.inside c.least_of_group-to.ensures.leads_to_itself)
    (first.ends _ c.least_of_group-from.ensures.inside c.least_of_group-from.ensures.leads_to_itself)
    (omega arith) (omega arith) second

pub returns-else-from-to-clause-labels : goal.returns-else-from-to-clause-labels
returns-else-from-to-clause-labels c = λ labels is.
    let first = c.least_of_group-from.ensures.labels labels is in
    let second = c.least_of_group-to.ensures.labels labels first in
    let from = c.least_of_group-from.ensures.label labels is in
    let to = c.least_of_group-to.ensures.label labels first in
    labelling_merged _ labels _ _ _ _ (omega arith) (first.ends _ c.least_of_group-from.ensures.inside c.least_of_group-from.ensures.leads_to_itself)
    (second.ends _ c.least_of_group-to.ensures.inside c.least_of_group-to.ensures.leads_to_itself)
    (omega arith) (omega arith) second
