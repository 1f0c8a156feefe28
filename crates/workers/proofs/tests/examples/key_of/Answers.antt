use Rattle.std.proofs.Common.{◌≡◌, ◌∙◌, ap, sym, subst, rules, w64}
use mir.Val.{SFits}
use Rattle.std.proofs.lemmas.Int.{to_z-of_z}
use Rattle.compact_types.specs.declared.places.Places.{Places}
use Rattle.compact_types.specs.Bests.{worth_of}
use Rattle.compact_types.specs.Drawings.{IsDrawing}
use Rattle.compact_types.proofs.Laws.{drawing-moved}
use Rattle.workers.proofs.tests.examples.key_of.Goals as goal

pub returns : goal.returns
returns g c =
    let is = c.shift_to_zero.ensures.moved.2 in
    let dx = c.shift_to_zero.ensures.moved.0 in
    let dy = c.shift_to_zero.ensures.moved.1 in
    let worth : c.worth-worth.result ≡ worth_of g.M.Proof.Backing.objective c.args.bars.now c.shift_to_zero.new.places =
    sym (ap (λ (p : Places). worth_of g.M.Proof.Backing.objective c.args.bars.now p) is ∙ c.worth-worth.ensures.moved dx dy) in
    record {
      drawing =
          subst (λ (p : Places). IsDrawing c.args.bars.now p) (sym is) (drawing-moved c.args.bars.now c.args.places dx dy c.requires.drawing);
      from_zero = c.shift_to_zero.ensures.from_zero;
      worth = let fits : SFits w64 c.worth-worth.result = search rules in to_z-of_z w64 c.worth-worth.result fits ∙ worth;
    }
