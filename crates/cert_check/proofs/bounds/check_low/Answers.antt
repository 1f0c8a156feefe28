use Rattle.std.proofs.Common.{◌≡◌, Some, None, to_z, of_z, w64, arith}
use Rattle.std.proofs.lemmas.Int.{ints}
use Rattle.cert_check.specs.declared.fault.CheckFault.TheVariants.{WeakBound}
use Rattle.cert_check.proofs.BoundLemmas.{told, weak_low, weak_late}
use Rattle.cert_check.proofs.bounds.check_low.Goals as goal

pub returns-then-bound-answer-clause-fault : goal.returns-then-bound-answer-clause-fault
returns-then-bound-answer-clause-fault c =
    let same : to_z w64 (of_z w64 c.args.bound) ≡ c.args.bound = omega (arith, ints) in
    told (Unit {0}) c.weak.result (WeakBound c.args.entry c.args.bound None) _ (rw same at c.weak.ensures)
    (weak_low c.args.bars.now c.args.branch.now c.requires.flows c.args.answer.now.places.now c.args.entry c.args.bound c.requires.value
    (omega (arith, ints, c.requires.answer.length)))

pub returns-in-Some-clause-fault : goal.returns-in-Some-clause-fault
returns-in-Some-clause-fault c =
    let same : to_z w64 (of_z w64 c.args.bound) ≡ c.args.bound = omega (arith, ints) in
    told (Unit {0}) c.weak-in-Some.result (WeakBound c.args.entry c.args.bound (Some c.in-Some.vertex)) _ (rw same at c.weak-in-Some.ensures)
    (weak_late c.args.bars.now c.args.branch.now c.requires.flows c.args.answer.now.places.now c.args.entry c.args.bound c.in-Some.vertex c.requires.value
    (omega (arith, ints, c.requires.answer.length)) (rw c.in-Some.is at c.in_ok-earlier.ensures))
