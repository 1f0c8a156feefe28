use Rattle.std.proofs.Common.{◌≡◌, ◌+◌, ◌<◌, ◌≤◌, slice_index, subst, sym, arith}
use Rattle.diff_flow.specs.declared.steps.ResidualArc.{ResidualArc}
use Rattle.diff_flow.specs.inner.Steps.{step_at}
use Rattle.diff_flow.specs.inner.Numbers.{height}
use Rattle.diff_flow.specs.inner.Search.{IsScanned}
use Rattle.diff_flow.proofs.TurnLemmas.{leaves_at, least_same, least_first, least_lesser, seen_next, met_step}
use Rattle.diff_flow.proofs.leaving.lesser_leaving.Goals as goal
use Rattle.diff_flow.proofs.leaving.lesser_leaving.Goals.{then-places-step-eq0-via-then-places-step-eq0, then-places-step-eq0-via-else-places-step-eq0+then-places-step-gt0}

pub returns-then-step-eq0 : goal.returns-then-step-eq0
returns-then-step-eq0 c = λ at was.
    let steps = c.args.steps.now in
    let places = c.args.places.now in
    let node = (step_at steps.list.items c.args.k).from in
    least_same steps.list.items c.args.numbers.now places c.args.k (IsScanned steps.list.items places at node (c.args.k + 1))
    (IsScanned steps.list.items places at node c.args.k) c.args.least (λ j. seen_next steps.list.items places at node c.args.k j)
    (λ slack leaves.
    let level = subst (λ (s : ResidualArc). s.up ≡ 0) c.at-step.ensures.is c.if-step-eq0.true in
    omega (arith, level, leaves.along))
    was

pub returns-then-places-step-eq0 : goal.returns-then-places-step-eq0
returns-then-places-step-eq0 c = λ at was.
    let steps = c.args.steps.now in
    let places = c.args.places.now in
    let node = (step_at steps.list.items c.args.k).from in
    least_same steps.list.items c.args.numbers.now places c.args.k (IsScanned steps.list.items places at node (c.args.k + 1))
    (IsScanned steps.list.items places at node c.args.k) c.args.least (λ j. seen_next steps.list.items places at node c.args.k j)
    (λ slack leaves. elim c.then-places-step-eq0.branch [
      | then-places-step-eq0-via-then-places-step-eq0 w ↦
          let apart = subst (λ (s : ResidualArc). slice_index places s.from ≡ 0) c.at-step.ensures.is w.if-places-step-eq0.true in
          omega (arith, apart, leaves.from)
      | then-places-step-eq0-via-else-places-step-eq0+then-places-step-gt0 w ↦
          let reached = subst (λ (s : ResidualArc). 0 < slice_index places s.to) c.at-step.ensures.is w.if-places-step-gt0.true in
          omega (arith, reached, leaves.to)
    ])
    was

pub returns-in-None : goal.returns-in-None
returns-in-None c = λ at was.
    let steps = c.args.steps.now in
    let places = c.args.places.now in
    let node = (step_at steps.list.items c.args.k).from in
    let along : 0 < c.at-step.result.up = omega (arith, c.if-step-eq0.false) in
    let along' : 0 < (step_at steps.list.items c.args.k).up = subst (λ (s : ResidualArc). 0 < s.up) c.at-step.ensures.is along in
    least_first steps.list.items c.args.numbers.now places c.args.k _ (IsScanned steps.list.items places at node (c.args.k + 1))
    (IsScanned steps.list.items places at node c.args.k) (λ j. seen_next steps.list.items places at node c.args.k j)
    (leaves_at steps.list.items c.args.numbers.now places c.args.k c.at-step.result c.at-step.ensures.is c.requires.inside along
    c.if-places-step-eq0.false c.if-places-step-gt0.false (met_step steps.arcs steps.list.items c.args.numbers.now steps.paired c.requires.met c.args.k c.requires.inside along'))
    (rw c.in-None.is at was)

pub returns-in-Some : goal.returns-in-Some
returns-in-Some c = λ at was.
    let steps = c.args.steps.now in
    let places = c.args.places.now in
    let node = (step_at steps.list.items c.args.k).from in
    let along : 0 < c.at-step.result.up = omega (arith, c.if-step-eq0.false) in
    let along' : 0 < (step_at steps.list.items c.args.k).up = subst (λ (s : ResidualArc). 0 < s.up) c.at-step.ensures.is along in
    least_lesser steps.list.items c.args.numbers.now places c.args.k _ (IsScanned steps.list.items places at node (c.args.k + 1))
    (IsScanned steps.list.items places at node c.args.k) c.in-Some.other c.lesser.result (λ j. seen_next steps.list.items places at node c.args.k j)
    (leaves_at steps.list.items c.args.numbers.now places c.args.k c.at-step.result c.at-step.ensures.is c.requires.inside along
    c.if-places-step-eq0.false c.if-places-step-gt0.false (met_step steps.arcs steps.list.items c.args.numbers.now steps.paired c.requires.met c.args.k c.requires.inside along'))
    c.lesser.ensures (rw c.in-Some.is at was)

pub overflow_sub-slack : goal.overflow_sub-slack
overflow_sub-slack c =
    let steps = c.args.steps.now in
    let along : 0 < c.at-step.result.up = omega (arith, c.if-step-eq0.false) in
    let along' : 0 < (step_at steps.list.items c.args.k).up = subst (λ (s : ResidualArc). 0 < s.up) c.at-step.ensures.is along in
    let room = subst (λ (s : ResidualArc). height c.args.numbers.now s.from + s.up ≤ height c.args.numbers.now s.to) (sym c.at-step.ensures.is)
    (met_step steps.arcs steps.list.items c.args.numbers.now steps.paired c.requires.met c.args.k c.requires.inside along') in
    omega (arith, room)

pub overflow_sub-slack-2 : goal.overflow_sub-slack-2
overflow_sub-slack-2 c =
    let steps = c.args.steps.now in
    let along : 0 < c.at-step.result.up = omega (arith, c.if-step-eq0.false) in
    let along' : 0 < (step_at steps.list.items c.args.k).up = subst (λ (s : ResidualArc). 0 < s.up) c.at-step.ensures.is along in
    let room = subst (λ (s : ResidualArc). height c.args.numbers.now s.from + s.up ≤ height c.args.numbers.now s.to) (sym c.at-step.ensures.is)
    (met_step steps.arcs steps.list.items c.args.numbers.now steps.paired c.requires.met c.args.k c.requires.inside along') in
    omega (arith, room)
