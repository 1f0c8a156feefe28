use Rattle.std.proofs.Common.{ℕ, List, length, ap, subst, arith}
use Rattle.compact_types.specs.declared.plan.Piece.{Piece}
use Rattle.compact_types.specs.Lookups.{piece_at}
use Rattle.compact_types.specs.Groups.{IsLabelling, merged}
use Rattle.drawing_check.proofs.GroupLemmas.{groups_one_more}
use Rattle.drawing_check.proofs.joined.join_all.Goals as goal

pub loop-i-preserved : goal.loop-i-preserved
loop-i-preserved c =
    groups_one_more c.args.plan.now c.loop-i.i c.loop-i.leads (omega (arith, ap length c.as_slice-pieces.ensures)) c.loop-i.invariant c.join_groups.new.leads
    (omega arith) c.join_groups.ensures.down
    (subst (λ (l : List Piece). (labels : ℕ → ℕ) → IsLabelling c.loop-i.leads labels →
    IsLabelling c.join_groups.new.leads (merged labels (piece_at l c.loop-i.i).from (piece_at l c.loop-i.i).to)) c.as_slice-pieces.ensures c.join_groups.ensures.labels)
