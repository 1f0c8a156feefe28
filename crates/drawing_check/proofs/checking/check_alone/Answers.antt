use Rattle.std.proofs.Common.{Ok, Err, rules}
use Rattle.compact_types.specs.declared.refusal.Refusal.TheVariants.{Fault}
use Rattle.compact_types.proofs.Laws.{shape_of, decides_by_one_answer}
use Rattle.drawing_check.proofs.AnswerLemmas.{one_answer}
use Rattle.drawing_check.proofs.ShapeLemmas.{ways_found, shape_from_parts}
use Rattle.drawing_check.proofs.checking.check_alone.Goals as goal

pub returns-in_err-ways : goal.returns-in_err-ways
returns-in_err-ways c = record {
  decides = decides_by_one_answer c.from_residual.result (search rules) (search rules)
      (one_answer c.args.plan.now c.args.places.now c.requires);
}

pub returns-in-Some : goal.returns-in-Some
returns-in-Some c = record {
  decides = decides_by_one_answer (Err (Fault c.into.result)) tt (rw c.into.ensures (
    ways_found c.args.plan.now c.args.places.now _ c.in_ok-ways.ensures.ways,
    c.in_ok-ways.ensures.connected,
    c.in-Some.ensures,
  ))
      (one_answer c.args.plan.now c.args.places.now c.requires);
}

pub returns : goal.returns
returns c = record {
  decides = decides_by_one_answer (Ok (shape_of c.in_ok-plan.plan c.in_ok-ways.ways _))
      (shape_from_parts c.args.plan.now c.args.places.now c.in_ok-plan.plan _ _ c.in_ok-plan.ensures c.in_ok-ways.ensures.ways
      c.in_ok-ways.ensures.connected c.in_default.ensures c.requires.places_fit) tt
      (one_answer c.args.plan.now c.args.places.now c.requires);
}
