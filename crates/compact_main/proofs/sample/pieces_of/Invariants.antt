use Rattle.compact_types.specs.Lookups.{no_piece}
use Rattle.compact_main.specs.Samples.{IsTable, sample_piece}
use Rattle.compact_main.proofs.sample.pieces_of.Given as goal

abbrev pub invariant-loop-index : goal.invariant-loop-index
invariant-loop-index l = IsTable no_piece (sample_piece l.number) l.index l.pieces
