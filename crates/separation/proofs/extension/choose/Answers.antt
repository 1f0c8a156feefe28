use Rattle.std.proofs.Common.{◌<◌, ◌+◌, ℕ, List, subst, sym, refl, arith}
use Rattle.std.proofs.lemmas.Bool.{both_ways}
use Rattle.compact_types.specs.declared.search.Choice.{Choice}
use Rattle.compact_types.specs.declared.plan.Shape.{Shape}
use Rattle.bars.specs.Segments.{segment_count, IsPair, ShareVertex}
use Rattle.separation.specs.inner.Choosing.{AreChosen, AreLeast}
use Rattle.separation.proofs.ChoosingLemmas.{passed_over, one_chosen, chosen_fit, least_with, least_at}
use Rattle.separation.proofs.extension.choose.Goals as goal

-- two segments that share no vertex are a pair
pair_of : (shape : Shape) (s t : ℕ) → s < t → t < segment_count shape → (ShareVertex shape s t → ⊥) → IsPair shape s t
pair_of shape s t less within apart = record { in_order = less; in_shape = within; apart = apart }

pub returns-then-share_vertex-clause-chosen : goal.returns-then-share_vertex-clause-chosen
returns-then-share_vertex-clause-chosen c =
    passed_over c.args.bars.now c.args.reach.now c.args.extension.now.choices c.args.s c.args.t (c.args.t + 1) refl c.requires.chosen
    (λ pair. absurd (pair.apart (c.share_vertex.ensures.0 c.if-share_vertex.true)))

pub is_separated-requires-clause-reach : goal.is_separated-requires-clause-reach
is_separated-requires-clause-reach c = (
  c.args.extension.now.choices,
  chosen_fit c.args.bars.now c.args.reach.now c.args.extension.now.choices c.args.s c.args.t c.requires.few c.requires.chosen,
  c.requires.chosen.reach_of,
)

pub returns-then-is_separated-clause-chosen : goal.returns-then-is_separated-clause-chosen
returns-then-is_separated-clause-chosen c =
    passed_over c.args.bars.now c.args.reach.now c.args.extension.now.choices c.args.s c.args.t (c.args.t + 1) refl c.requires.chosen
    (λ pair. (c.is_separated.ensures c.args.extension.now.choices c.requires.chosen.reach_of).0 c.if-is_separated.true)

pub add_side_arc-requires-clause-reach : goal.add_side_arc-requires-clause-reach
add_side_arc-requires-clause-reach c = (
  c.args.extension.now.choices,
  chosen_fit c.args.bars.now c.args.reach.now c.args.extension.now.choices c.args.s c.args.t c.requires.few c.requires.chosen,
  c.requires.chosen.reach_of,
)

pub returns-clause-chosen : goal.returns-clause-chosen
returns-clause-chosen c =
    subst (λ (choices : List Choice). AreChosen c.args.bars.now c.add_side_arc.new.reach choices c.args.s (c.args.t + 1)) (sym c.in_ok-push.ensures.ok)
    (one_chosen c.args.bars.now c.args.reach.now c.args.extension.now.choices c.args.s c.args.t (c.args.t + 1) refl c.requires.chosen
    c.add_side_arc.new.reach c.least_side-side.result
    (pair_of c.args.bars.now c.args.s c.args.t c.requires.s c.requires.t (λ share. both_ways c.share_vertex.result c.if-share_vertex.false (c.share_vertex.ensures.1 share)))
    c.least_side-side.ensures.below
    (λ separated. both_ways c.is_separated.result c.if-is_separated.false ((c.is_separated.ensures c.args.extension.now.choices c.requires.chosen.reach_of).1 separated))
    (c.add_side_arc.ensures c.args.extension.now.choices c.requires.chosen.reach_of))

pub returns-clause-least : goal.returns-clause-least
returns-clause-least c = λ places drawing are own least.
    subst (λ (choices : List Choice). AreLeast c.args.bars.now places choices) (sym c.in_ok-push.ensures.ok)
    (least_with c.args.bars.now places c.args.extension.now.choices c.args.s c.args.t c.least_side-side.result
    (least_at c.args.bars.now places c.args.extents.now c.args.s c.args.t c.least_side-side.result drawing are own
    (let less = c.requires.s in let below = c.requires.t in let fits = c.requires.one_for_each in omega (arith, less, below, fits))
    (let below = c.requires.t in let fits = c.requires.one_for_each in omega (arith, below, fits))
    (pair_of c.args.bars.now c.args.s c.args.t c.requires.s c.requires.t (λ share. both_ways c.share_vertex.result c.if-share_vertex.false (c.share_vertex.ensures.1 share)))
    c.least_side-side.ensures.side) least)
