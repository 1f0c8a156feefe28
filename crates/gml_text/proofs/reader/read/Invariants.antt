use Rattle.std.proofs.Common.{◌≡◌, ◌-◌, ◌≤◌, length, drop}
use Rattle.gml_text.specs.inner.Reading.{run, reader_state, answer_of}
use Rattle.gml_text.proofs.reader.read.Given as goal

abbrev pub invariant-loop-reader : goal.invariant-loop-reader
invariant-loop-reader l =
    (l.reader.at ≤ length l.bytes) × (run 0 (reader_state l.reader) (drop l.reader.at l.bytes) ≡ answer_of l.bytes)

abbrev pub decreases-loop-reader : goal.decreases-loop-reader
decreases-loop-reader l = length l.bytes - l.reader.at
