use Rattle.shape_graphs.proofs.PathLemmas.{cycle_is_one, no_cycle_in_order}
use Rattle.shape_graphs.proofs.SolutionLemmas.{cycle_decided}
use Rattle.shape_graphs.proofs.SimpleLemmas.{simple_cycle}
use Rattle.shape_graphs.proofs.law.cycles_and_walks.Goals as goal

pub returns-clause-walk : goal.returns-clause-walk
returns-clause-walk c = cycle_is_one

pub returns-clause-none : goal.returns-clause-none
returns-clause-none c = no_cycle_in_order

pub returns-clause-decided : goal.returns-clause-decided
returns-clause-decided c = cycle_decided

pub returns-clause-simple : goal.returns-clause-simple
returns-clause-simple c = simple_cycle
