use Rattle.shape_graphs.proofs.PathLemmas.{joined_paths}
use Rattle.shape_graphs.proofs.SolutionLemmas.{path_decided, same_paths, path_by_first, path_through_first}
use Rattle.shape_graphs.proofs.law.paths_of_arcs.Goals as goal

pub returns-clause-joined : goal.returns-clause-joined
returns-clause-joined c = joined_paths

pub returns-clause-decided : goal.returns-clause-decided
returns-clause-decided c = path_decided

pub returns-clause-same : goal.returns-clause-same
returns-clause-same c = same_paths

pub returns-clause-with_one_more : goal.returns-clause-with_one_more
returns-clause-with_one_more c = λ arc arcs a b. (path_by_first arc arcs a b, path_through_first arc arcs a b)
