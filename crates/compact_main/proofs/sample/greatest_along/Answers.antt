use Rattle.std.proofs.Common.{rules, ℕ, List, length, ap, ◌∙◌, arith}
use Rattle.std.proofs.lemmas.Int.{to_z-of_z}
use mir.Syntax.{w64}
use mir.Val.{SFits}
use Rattle.compact_types.specs.declared.places.Point.{Point}
use Rattle.compact_types.specs.Lookups.{place, along}
use Rattle.compact_main.proofs.SampleSizes.{greatest_more, is_greatest}
use Rattle.compact_main.proofs.sample.greatest_along.Goals as goal

pub loop-v-preserved : goal.loop-v-preserved
loop-v-preserved c =
    let fits : SFits w64 c.max-greatest.result = search rules in
    let next_fits : SFits w64 c.coordinate.result = search rules in
    let next = c.coordinate.ensures ∙ ap (λ (l : List Point). along c.args.axis (place l c.loop-v.v)) c.as_slice-points.ensures in
    let most = simp to_z-of_z at c.max-greatest.ensures.value in
    simp to_z-of_z (most ∙ greatest_more (λ (v : ℕ). along c.args.axis (place c.args.places.now.xy v)) c.loop-v.v _ _ c.loop-v.auto.v c.loop-v.invariant next)

pub returns-clause-greatest : goal.returns-clause-greatest
returns-clause-greatest c =
    is_greatest c.args.axis c.args.places.now c.loop-v.v _ c.requires (omega (arith, ap length c.as_slice-points.ensures)) c.loop-v.invariant
