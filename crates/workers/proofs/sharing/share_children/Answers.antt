use Rattle.std.proofs.Common.{[], ◌∷◌, ◌∙◌, refl}
use Rattle.board.specs.declared.entries.Settled.TheVariants.{Split}
use Rattle.workers.specs.inner.Sharing.{child_of}
use Rattle.workers.proofs.SharingLemmas.{some_put, with_none, with_one_more}
use Rattle.workers.proofs.sharing.share_children.Goals as goal

pub returns-in_err-put_child-clause-some : goal.returns-in_err-put_child-clause-some
returns-in_err-put_child-clause-some c =
    some_put c.from_residual.result c.args.branch (Split c.args.first c.args.s c.args.t)
    []
    ((child_of c.args.branch c.args.first c.args.s c.args.t 0) ∷ (child_of c.args.branch c.args.first c.args.s c.args.t 1) ∷ (child_of c.args.branch c.args.first c.args.s c.args.t 2) ∷ [])
    c.args.lane.now c.put_child.new.lane (c.in_err-put_child.ensures.refused ∙ (with_none c.args.lane.now c.args.lane.now refl)) refl

pub returns-in_err-put_child-2-clause-some : goal.returns-in_err-put_child-2-clause-some
returns-in_err-put_child-2-clause-some c =
    some_put c.from_residual-in_err-put_child-2.result c.args.branch (Split c.args.first c.args.s c.args.t)
    ((child_of c.args.branch c.args.first c.args.s c.args.t 0) ∷ [])
    ((child_of c.args.branch c.args.first c.args.s c.args.t 1) ∷ (child_of c.args.branch c.args.first c.args.s c.args.t 2) ∷ [])
    c.args.lane.now c.put_child-2.new.lane (c.in_err-put_child-2.ensures.refused ∙ (with_one_more c.args.lane.now c.args.lane.now c.put_child.new.lane [] (child_of c.args.branch c.args.first c.args.s c.args.t 0)
    (with_none c.args.lane.now c.args.lane.now refl) c.in_ok-put_child.ensures.put)) refl

pub returns-in_err-put_child-3-clause-some : goal.returns-in_err-put_child-3-clause-some
returns-in_err-put_child-3-clause-some c =
    some_put c.from_residual-in_err-put_child-3.result c.args.branch (Split c.args.first c.args.s c.args.t)
    ((child_of c.args.branch c.args.first c.args.s c.args.t 0) ∷ (child_of c.args.branch c.args.first c.args.s c.args.t 1) ∷ [])
    ((child_of c.args.branch c.args.first c.args.s c.args.t 2) ∷ [])
    c.args.lane.now c.put_child-3.new.lane (c.in_err-put_child-3.ensures.refused ∙ (with_one_more c.args.lane.now c.put_child.new.lane c.put_child-2.new.lane ((child_of c.args.branch c.args.first c.args.s c.args.t 0) ∷ []) (child_of c.args.branch c.args.first c.args.s c.args.t 1)
    (with_one_more c.args.lane.now c.args.lane.now c.put_child.new.lane [] (child_of c.args.branch c.args.first c.args.s c.args.t 0)
    (with_none c.args.lane.now c.args.lane.now refl) c.in_ok-put_child.ensures.put) c.in_ok-put_child-2.ensures.put)) refl

pub returns-in_err-push-clause-some : goal.returns-in_err-push-clause-some
returns-in_err-push-clause-some c =
    some_put c.from_residual-in_err-push.result c.args.branch (Split c.args.first c.args.s c.args.t)
    ((child_of c.args.branch c.args.first c.args.s c.args.t 0) ∷ (child_of c.args.branch c.args.first c.args.s c.args.t 1) ∷ (child_of c.args.branch c.args.first c.args.s c.args.t 2) ∷ [])
    []
    c.args.lane.now c.put_child-3.new.lane (with_one_more c.args.lane.now c.put_child-2.new.lane c.put_child-3.new.lane ((child_of c.args.branch c.args.first c.args.s c.args.t 0) ∷ (child_of c.args.branch c.args.first c.args.s c.args.t 1) ∷ []) (child_of c.args.branch c.args.first c.args.s c.args.t 2)
    (with_one_more c.args.lane.now c.put_child.new.lane c.put_child-2.new.lane ((child_of c.args.branch c.args.first c.args.s c.args.t 0) ∷ []) (child_of c.args.branch c.args.first c.args.s c.args.t 1)
    (with_one_more c.args.lane.now c.args.lane.now c.put_child.new.lane [] (child_of c.args.branch c.args.first c.args.s c.args.t 0)
    (with_none c.args.lane.now c.args.lane.now refl) c.in_ok-put_child.ensures.put) c.in_ok-put_child-2.ensures.put) c.in_ok-put_child-3.ensures.put) refl
