use Rattle.std.proofs.Common.{◌<◌, ◌≤◌, length, slice_index, sym, ◌∙◌, arith}
use Rattle.std.proofs.Math.ListN.{length-set}
use Rattle.compact_types.proofs.GroupLemmas.{down_after, labelling_halved}
use Rattle.compact_types.proofs.groups.least_of_group.Goals as goal

pub loop-leads-preserved : goal.loop-leads-preserved
loop-leads-preserved c =
    let leads = c.loop-leads.leads in
    let at = c.loop-leads.at in
    let before = c.loop-leads.invariant in
    let next = slice_index leads at in
    let further = slice_index leads next in
    let next_below : next ≤ at = before.down at before.inside in
    let next_inside : next < length leads = omega (arith, next_below, before.inside) in
    let further_below : further ≤ next = before.down next next_inside in
    record {
      inside = omega (arith, length-set leads at further, further_below, next_inside);
      down = down_after leads at further before.inside before.down (omega (arith, further_below, next_below));
      labels = λ labels is. labelling_halved leads labels at before.inside before.down (before.labels labels is);
      label = λ labels is.
          let here = before.labels labels is in
          before.label labels is ∙ sym (here.on at before.inside) ∙ sym (here.on next next_inside);
    }
