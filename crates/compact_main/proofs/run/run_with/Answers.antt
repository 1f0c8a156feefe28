use Rattle.compact_main.specs.Commands.{texts_of}
use Rattle.compact_main.proofs.CommandWords.{number_asked}
use Rattle.compact_main.proofs.RunEnds.{asked_run}
use Rattle.compact_main.proofs.run.run_with.Goals as goal

pub returns-then-ne-clause-run : goal.returns-then-ne-clause-run
returns-then-ne-clause-run g c =
    asked_run (texts_of c.args.words.now) c.in-Some.request.command
    g.S.Source.left g.S.Source.faults c.args.source.now c.run_command-status.new.source
    g.K.Sink.held g.K.Sink.faults c.args.out.now c.run_command-status.new.out
    c.run_command-status.result c.in-Some.ensures.some c.run_command-status.ensures

pub returns-else-ne-clause-run : goal.returns-else-ne-clause-run
returns-else-ne-clause-run g c =
    asked_run (texts_of c.args.words.now) c.in-Some.request.command
    g.S.Source.left g.S.Source.faults c.args.source.now c.run_command-status.new.source
    g.K.Sink.held g.K.Sink.faults c.args.out.now c.run_command-status.new.out
    c.run_command-status.result c.in-Some.ensures.some c.run_command-status.ensures

pub run_command-status-requires-clause-number : goal.run_command-status-requires-clause-number
run_command-status-requires-clause-number g c κs within =
    number_asked (texts_of c.args.words.now) c.in-Some.request.command c.in-Some.ensures.some
