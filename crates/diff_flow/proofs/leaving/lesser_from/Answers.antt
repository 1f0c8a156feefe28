use Rattle.std.proofs.Common.{◌≡◌, ◌+◌, ◌-◌, ◌<◌, length, arith, ◌∙◌, subst, sym}
use Rattle.std.proofs.lemmas.List.{get_or_read}
use Rattle.diff_flow.specs.inner.Steps.{step_at}
use Rattle.diff_flow.specs.inner.Search.{IsLeastLeaving, IsScanned}
use Rattle.diff_flow.proofs.TurnLemmas.{least_begun, least_next}
use Rattle.diff_flow.proofs.leaving.lesser_from.Goals as goal

pub loop-entry-init : goal.loop-entry-init
loop-entry-init c =
    let steps = c.args.steps.now in
    let rows = steps.by_node in
    let places = c.args.places.now in
    let read = get_or_read steps.rows.last.items c.args.node c.index-entry.result.now (omega (arith, c.requires.node, rows.last_for_each))
    c.index-entry.ensures 0 in
    record {
      most = omega (arith, read, rows.last_most c.args.node c.requires.node);
      from = subst (λ e. 0 < e → (step_at steps.list.items (e - 1)).from ≡ c.args.node) (sym read) (rows.last_from c.args.node c.requires.node);
      least = λ at was. subst (λ e. IsLeastLeaving (IsScanned steps.list.items places at c.args.node e) steps.list.items c.args.numbers.now
          places c.args.least) (sym read)
          (least_begun steps.nodes steps.list.items c.args.numbers.now places steps.rows.last.items steps.rows.before.items at
          c.args.node c.args.least rows was);
    }

pub loop-entry-preserved : goal.loop-entry-preserved
loop-entry-preserved c =
    let steps = c.args.steps.now in
    let rows = steps.by_node in
    let places = c.args.places.now in
    let k_in : c.loop-entry.entry - 1 < length steps.list.items = omega (arith, c.loop-entry.invariant.most) in
    let before_in : c.loop-entry.entry - 1 < length steps.rows.before.items = omega (arith, k_in, rows.before_for_each) in
    let read = get_or_read steps.rows.before.items (c.loop-entry.entry - 1) c.index-entry-in-loop-entry.result.now before_in
    c.index-entry-in-loop-entry.ensures 0 in
    let node = c.loop-entry.invariant.from (omega arith) in
    let next : c.loop-entry.entry ≡ c.loop-entry.entry - 1 + 1 = omega arith in
    record {
      most = omega (arith, read, k_in, rows.before_most (c.loop-entry.entry - 1) k_in);
      from = subst (λ e. 0 < e → (step_at steps.list.items (e - 1)).from ≡ c.args.node) (sym read)
          (λ some. rows.before_from (c.loop-entry.entry - 1) k_in some ∙ node);
      least = λ at was.
          let here = subst (λ e. IsLeastLeaving (IsScanned steps.list.items places at c.args.node e) steps.list.items c.args.numbers.now
          places c.loop-entry.lesser) next (c.loop-entry.invariant.least at was) in
          let there = subst (λ v. IsLeastLeaving (IsScanned steps.list.items places at v (c.loop-entry.entry - 1 + 1)) steps.list.items
          c.args.numbers.now places c.loop-entry.lesser) (sym node) here in
          subst (λ e. IsLeastLeaving (IsScanned steps.list.items places at c.args.node e) steps.list.items c.args.numbers.now
          places c.lesser_leaving-lesser.result) (sym read)
          (least_next steps.nodes steps.list.items c.args.numbers.now places steps.rows.last.items steps.rows.before.items at
          c.args.node (c.loop-entry.entry - 1) c.lesser_leaving-lesser.result rows k_in node
          (c.lesser_leaving-lesser.ensures at there));
    }

pub returns : goal.returns
returns c = λ at was.
    let steps = c.args.steps.now in
    let places = c.args.places.now in
    let none : c.loop-entry.entry ≡ 0 = omega arith in
    subst (λ e. IsLeastLeaving (IsScanned steps.list.items places at c.args.node e) steps.list.items c.args.numbers.now
    places c.loop-entry.lesser) none (c.loop-entry.invariant.least at was)
