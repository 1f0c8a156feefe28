-- The answers of a steal, case by case.
use Rattle.compact_types.specs.declared.search.Branch.{Branch}
use Rattle.steal_lanes.specs.declared.thieves.Stolen.{Stolen}
use Rattle.steal_lanes.specs.declared.thieves.Stolen.TheVariants.{Got, Empty, Again}

abbrev pub MatchStolen : Stolen → (Branch → Type 0) → Type 0 → Type 0 → Type 0
MatchStolen (Got branch) got empty again = got branch
MatchStolen Empty got empty again = empty
MatchStolen Again got empty again = again
