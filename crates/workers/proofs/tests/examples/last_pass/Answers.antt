use Rattle.std.proofs.Common.{◌≡◌}
use Rattle.ticket_board.specs.Passes.{PassView}
use Rattle.workers.proofs.CrewLemmas.{popped_front, popped_last}
use Rattle.workers.proofs.tests.examples.last_pass.Goals as goal

pub returns-clause-last : goal.returns-clause-last
returns-clause-last g c = popped_last (λ (pass : PassView). pass.home ≡ c.args.board.now) c.args.passes.now c.pop.new.self c.pop.result c.pop.ensures c.requires

pub returns-clause-others : goal.returns-clause-others
returns-clause-others g c = popped_front (λ (pass : PassView). pass.home ≡ c.args.board.now) c.args.passes.now c.pop.new.self c.pop.result c.pop.ensures c.requires
