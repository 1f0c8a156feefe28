use Rattle.std.proofs.Common.{ℕ, List, subst, sym}
use Rattle.drawing_check.specs.inner.Groups.{AreGroups}
use Rattle.drawing_check.proofs.GroupLemmas.{single, connected_or_apart}
use Rattle.drawing_check.proofs.joined.first_apart.Goals as goal

pub join_all-requires : goal.join_all-requires
join_all-requires c =
    subst (λ (l : List ℕ). AreGroups c.args.plan.now 0 l) (sym c.as_mut_slice-leads.ensures.value)
    (single c.args.plan.now c.in_ok-groups.groups.items c.in_ok-groups.ensures.len c.in_ok-groups.ensures.single)

pub returns : goal.returns
returns c = connected_or_apart c.args.plan.now c.join_all.new.leads c.join_all.ensures c.second_least.result c.second_least.ensures
