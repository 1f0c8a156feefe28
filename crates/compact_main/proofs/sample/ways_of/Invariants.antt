use Rattle.compact_types.specs.declared.plan.Way.TheVariants.{East}
use Rattle.compact_main.specs.Samples.{IsTable, sample_way}
use Rattle.compact_main.proofs.sample.ways_of.Given as goal

abbrev pub invariant-loop-index : goal.invariant-loop-index
invariant-loop-index l = IsTable East (sample_way l.number) l.index l.ways
