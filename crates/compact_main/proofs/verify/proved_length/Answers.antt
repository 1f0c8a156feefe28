use Rattle.std.proofs.Common.{◌≤◌, length, ℤ, arith}
use Rattle.gml_text.specs.declared.limits.TheConstants.{MOST_BYTES}
use Rattle.compact_main.specs.declared.status.Unproved.TheVariants.{Check}
use Rattle.compact_main.specs.Drawings.{IsFirstFlaw}
use Rattle.compact_main.specs.Outputs.{FirstUnproved}
use Rattle.compact_main.proofs.StepRefusals.{told}
use Rattle.compact_main.proofs.ProvedAnswers.{can_check, can_measure}
use Rattle.compact_main.proofs.verify.proved_length.Goals as goal

pub check-requires : goal.check-requires
check-requires c =
    let certificate = c.in-Ok.ensures.answer.value in
    let few : length c.in-Ok.found.1.nodes ≤ MOST_BYTES = omega (arith, c.in-Ok.ensures.few, c.requires.within) in
    can_check c.args.bytes.now c.args.drawing c.requires c.in-Ok.found.0 c.in-Ok.found.1.nodes c.in-Ok-grid_places.places
    certificate.pitched certificate.tree few c.in-Ok-grid_places.ensures.scaled

pub worth-requires-clause-near : goal.worth-requires-clause-near
worth-requires-clause-near c =
    (can_measure c.args.bytes.now c.args.drawing c.requires c.in-Ok.found.0 c.in-Ok-grid_places.places c.in-Ok.ensures.answer.value.pitched
    c.in-Ok-grid_places.ensures.scaled).near

pub returns-clause-unproved : goal.returns-clause-unproved
returns-clause-unproved c =
    let places = c.in-Ok-grid_places.places in
    let nodes = c.in-Ok.found.1.nodes in
    told (Unit {0}) ℤ c.in-Err-check.refusal c.map-in-Err-check.result (λ fault. Check fault)
    (IsFirstFlaw c.args.drawing places nodes) (FirstUnproved c.args.bytes.now c.args.drawing)
    (λ fault first. (c.in-Ok.found.0, nodes, c.in-Ok.ensures.answer.value, places, c.in-Ok-grid_places.ensures.scaled, first))
    c.in-Err-check.ensures.fault c.map-in-Err-check.ensures
