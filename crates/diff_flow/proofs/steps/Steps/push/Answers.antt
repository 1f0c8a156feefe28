use Rattle.std.proofs.Common.{◌≡◌, ◌*◌, ◌≤◌, ◌∙◌, [], ◌∷◌, length, take, ap, refl, sym, subst, arith, pos}
use Rattle.std.specs.Prelude.{◌≤ℤ◌}
use Rattle.std.proofs.lemmas.Int.{ints}
use Rattle.std.proofs.lemmas.List.{take_at}
use Rattle.diff_flow.specs.inner.Steps.{AreStepsWithin, ArePaired}
use Rattle.diff_flow.proofs.GrownSteps.{two_more, within_grown, paired_grown, rows_grown, short_most}
use Rattle.diff_flow.proofs.steps.Steps.push.Goals as goal

pub invariant_of-self-in-Err : goal.invariant_of-self-in-Err
invariant_of-self-in-Err c =
    let self = c.args.self.now in
    let more = c.in_ok-push_steps.ensures.ok in
    let same : c.truncate.new.self.items ≡ self.list.items = c.truncate.ensures.items ∙ ap (take (2 * self.arcs)) more.grown
    ∙ take_at self.list.items (more.there ∷ more.back ∷ []) (2 * self.arcs) self.paired.two_for_each in
    record {
      few = omega (arith, ap length same, self.few);
      low = self.low;
      short = self.short;
      within = subst (AreStepsWithin self.nodes self.arcs self.reach) (sym same) self.within;
      paired = subst (ArePaired self.arcs) (sym same) self.paired;
      by_node = rw (same, c.in-Err.ensures.kept_last, c.in-Err.ensures.kept_before) self.by_node;
    }

pub invariant_of-self-in-Ok : goal.invariant_of-self-in-Ok
invariant_of-self-in-Ok c =
    let self = c.args.self.now in
    let more = c.in_ok-push_steps.ensures.ok in
    let all = self.paired.two_for_each in
    let fits = c.requires.fits in
    let higher : self.reach ≤ c.max-self.result = omega arith in
    let least : c.args.arc.least ≤ℤ pos c.max-self.result = omega (arith, ints, c.least_of.ensures.least) in
    let low : c.max-self.result ≤ 1000 = omega (arith, c.least_of.ensures.low, self.low) in
    record {
      few = omega (
        arith,
        two_more self.nodes self.arcs self.reach c.max-self.result c.args.arc self.list.items c.push_steps.new.list.items all more,
        c.requires.few,
      );
      low = low;
      short = short_most self.nodes c.max-self.result (omega arith) low;
      within = within_grown self.nodes self.arcs self.reach c.max-self.result c.args.arc self.list.items c.push_steps.new.list.items all more
          higher least fits self.within;
      paired = paired_grown self.nodes self.arcs self.reach c.max-self.result c.args.arc self.list.items c.push_steps.new.list.items all more
          fits.within self.paired;
      by_node = rows_grown self.nodes (length self.list.items) c.args.arc.from c.args.arc.to self.list.items c.push_steps.new.list.items
          self.rows.last.items self.rows.before.items _ _ more.there more.back refl more.grown more.along.from
          more.against.from fits.begins fits.ends self.by_node c.in-Ok.ensures.ok;
    }
