use Rattle.compact_main.proofs.RunEnds.{failed_run, long_run, fault_run, written_run}
use Rattle.compact_main.proofs.RunReadings.{gave_too_much}
use Rattle.compact_main.proofs.run.run_command.Goals as goal

pub returns-in-Ok-answer : goal.returns-in-Ok-answer
returns-in-Ok-answer g c =
    written_run c.args.command g.S.Source.left g.S.Source.faults c.args.source.now c.read_input.new.source
    g.K.Sink.held g.K.Sink.faults c.args.out.now c.write_output.new.out
    c.as_slice.result.now c.as_slice-in-Ok-answer.result.now
    (rw c.as_slice.ensures c.in-Ok.ensures.all) c.in-Ok.ensures.end
    (rw c.as_slice-in-Ok-answer.ensures c.in-Ok-answer.ensures.output) c.in-Ok.ensures.counted
    c.write_output.result c.write_output.ensures

pub returns-in-Err-Fault : goal.returns-in-Err-Fault
returns-in-Err-Fault g c =
    rw c.status.ensures
    (failed_run c.args.command g.S.Source.left g.S.Source.faults c.args.source.now c.read_input.new.source
    g.K.Sink.held g.K.Sink.faults c.args.out.now c.as_slice.result.now
    (rw c.as_slice.ensures c.in-Ok.ensures.all) c.in-Ok.ensures.end c.in-Ok.ensures.counted c.in-Err-Fault.failure
    (rw c.in-Err-Fault.field-0-is at c.in-Err-Fault.ensures.fault))

pub returns-in-Err-TooLong : goal.returns-in-Err-TooLong
returns-in-Err-TooLong g c =
    let gave = gave_too_much g.S.Source.left g.S.Source.faults c.args.source.now c.read_input.new.source c.args.command
    (rw c.in-Err-TooLong.field-0-is at c.in-Err-TooLong.ensures.given) in
    long_run c.args.command g.S.Source.left g.S.Source.faults c.args.source.now c.read_input.new.source
    g.K.Sink.held g.K.Sink.faults c.args.out.now gave.0 gave.1 gave.2
    (rw c.in-Err-TooLong.field-0-is at c.in-Err-TooLong.ensures.counted)

pub returns-in-Err-ReadFault : goal.returns-in-Err-ReadFault
returns-in-Err-ReadFault g c =
    fault_run c.args.command g.S.Source.left g.S.Source.faults c.args.source.now c.read_input.new.source
    g.K.Sink.held g.K.Sink.faults c.args.out.now
    (rw c.in-Err-ReadFault.field-0-is at c.in-Err-ReadFault.ensures.given)
    (rw c.in-Err-ReadFault.field-0-is at c.in-Err-ReadFault.ensures.counted)
