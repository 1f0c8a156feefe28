use Rattle.std.proofs.Common.{◌≡◌, ◌-◌}
use Rattle.compact_types.specs.Lookups.{place, along}
use Rattle.compact_main.specs.Samples.{greatest_to}
use Rattle.compact_main.proofs.sample.greatest_along.Given as goal

abbrev pub invariant-loop-v : goal.invariant-loop-v
invariant-loop-v l = l.greatest ≡ greatest_to (λ v. along l.axis (place l.places.xy v)) (l.v - 1)
