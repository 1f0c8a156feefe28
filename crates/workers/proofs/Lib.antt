mod BranchLemmas
mod CrewLemmas
mod EndLemmas
mod FirstLemmas
mod HandLemmas
mod SharingLemmas
mod StartLemmas
mod TurnLemmas
