use Rattle.std.proofs.Common.{sym, ap, ◌∙◌, arith, None}
use Rattle.std.specs.Ordering.{int_eq}
use Rattle.indexmap.specs.IndexMap.{get}
use Rattle.drawing_read.specs.declared.numerals.WholeNumber.TheVariants.{Absent}
use Rattle.drawing_read.specs.declared.written.Node.{Node}
use Rattle.drawing_read.proofs.IdLemmas.{same_ids, one_more_id, repeated_here, not_repeated}
use Rattle.drawing_read.proofs.ids.ids_of.Goals.{then-has_id_of, else-has_id_of+in_ok-insert_id_of}
use Rattle.drawing_read.proofs.ids.ids_of.Goals as goal

pub loop-n-preserved : goal.loop-n-preserved
loop-n-preserved c =
    let nodes = c.args.nodes.now in
    let n = c.loop-n.n in
    let d : Node = record { id = Absent; place = None } in
    let before = get int_eq c.loop-n.first in
    let known = c.loop-n.invariant.first in
    elim c.if-has_id_of.branch [
      | then-has_id_of w ↦
          let seen = sym c.has_id_of.ensures ∙ w.if-has_id_of.true in
          record {
            first = λ q. ap (λ map. get int_eq map q) w.first-is ∙ same_ids nodes n d (omega arith) before known seen q;
            repeated = w.repeated-is ∙ w.or-repeated.ensures
                ∙ repeated_here nodes n d (omega arith) before known seen c.loop-n.repeated c.loop-n.invariant.repeated;
          }
      | else-has_id_of+in_ok-insert_id_of w ↦
          let new = sym c.has_id_of.ensures ∙ w.if-has_id_of.false in
          record {
            first = λ q. ap (λ map. get int_eq map q) w.first-is
                ∙ one_more_id nodes n d (omega arith) before known (get int_eq w.insert_id_of.new.first) w.in_ok-insert_id_of.ensures.0 new q;
            repeated = w.repeated-is ∙ not_repeated nodes n d (omega arith) before known new c.loop-n.repeated c.loop-n.invariant.repeated;
          }
    ]
