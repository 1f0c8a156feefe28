use Rattle.std.proofs.Common.{◌<◌, ◌∙◌, sym, arith}
use Rattle.std.proofs.lemmas.Result.{err_from_is_err_and}
use Rattle.gml_text.specs.inner.Reading.{reader_state}
use Rattle.gml_text.proofs.ReaderRuns.{run-step, Gives-refusal}
use Rattle.gml_text.proofs.reader.read.Goals as goal

pub loop-reader-preserved : goal.loop-reader-preserved
loop-reader-preserved c =
    let bytes = c.args.bytes.now in
    let forward : c.loop-reader.reader.at < c.in_ok-reader.reader.at = omega (arith, c.in_ok-reader.ensures.forward) in
    let step = rw c.split_at.ensures.back at c.in_ok-reader.ensures.step in (
      omega (arith, c.in_ok-reader.ensures.forward, c.split_at.ensures.back_len),
      sym (run-step bytes (reader_state c.loop-reader.reader) (reader_state c.in_ok-reader.reader) (omega arith) step forward) ∙ c.loop-reader.invariant.1,
    )

pub returns-in_err-reader : goal.returns-in_err-reader
returns-in_err-reader c =
    let bytes = c.args.bytes.now in
    let step = rw c.split_at.ensures.back at c.in_err-reader.ensures.step in
    let handed = err_from_is_err_and c.from_residual.result c.from_residual.ensures.1 in
    rw (handed.1, handed.2) (Gives-refusal bytes (reader_state c.loop-reader.reader) c.in_err-reader.field-0.0 (omega arith) step c.loop-reader.invariant.1)
