use Rattle.std.proofs.Common.{ℕ, List, subst, sym}
use Rattle.bars.specs.inner.Leads.{AreLeads}
use Rattle.bars.proofs.LineTables.{single_leads}
use Rattle.bars.proofs.lines.line_groups.Goals as goal

pub join_along-requires : goal.join_along-requires
join_along-requires c =
    subst (λ (l : List ℕ). AreLeads c.args.axis c.args.shape.now 0 l) (sym c.as_mut_slice.ensures.value)
    (single_leads c.args.axis c.args.shape.now c.in_ok-groups.groups.items c.in_ok-groups.ensures.len c.in_ok-groups.ensures.single)
