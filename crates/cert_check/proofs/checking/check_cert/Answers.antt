use Rattle.std.proofs.Common.{◌≡◌, Err, false, true, inl, refl, sym, ◌∙◌}
use Rattle.compact_types.specs.declared.refusal.Refusal.TheVariants.{Fault}
use Rattle.cert_check.specs.declared.fault.CheckFault.TheVariants.{NotFromZero}
use Rattle.cert_check.proofs.DecisionLemmas.{decides_cert, decides_by_walk, best_by_walk}
use Rattle.cert_check.proofs.checking.check_cert.Goals as goal

pub returns-then-not-is_from_zero-clause-answer : goal.returns-then-not-is_from_zero-clause-answer
returns-then-not-is_from_zero-clause-answer c =
    decides_cert c.args.bars.now c.args.places.now c.args.tree.now.nodes (Err (Fault NotFromZero)) tt
    (inl ((λ zero. (let no : false ≡ true = sym c.if-not-is_from_zero.true ∙ c.is_from_zero.ensures.1 zero in cc)), refl))

pub returns-clause-answer : goal.returns-clause-answer
returns-clause-answer c =
    decides_by_walk c.args.bars.now c.args.places.now c.args.tree.now.nodes c.walk.result c.requires.drawing
    (c.is_from_zero.ensures.0 c.if-not-is_from_zero.false)
    (rw c.as_slice.ensures at c.walk.ensures.good)
    (rw c.as_slice.ensures at c.walk.ensures.fault)

pub returns-clause-best : goal.returns-clause-best
returns-clause-best c =
    best_by_walk c.args.bars.now c.args.places.now c.args.tree.now.nodes c.walk.result c.requires.drawing
    (c.is_from_zero.ensures.0 c.if-not-is_from_zero.false)
    (rw c.as_slice.ensures at c.walk.ensures.good)
    (rw c.as_slice.ensures at c.walk.ensures.fault)
    c.shape-what_is_known.ensures.sound c.requires.shallow
