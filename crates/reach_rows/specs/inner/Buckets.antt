-- Arcs in buckets, by the number of the node at which they begin.
use Rattle.std.specs.Prelude.{◌≡◌, ℕ, ◌<◌, ◌≤◌, ◌-◌, pos, ℤ, ◌≤ℤ◌, ◌<ℤ◌, List, length, slice_index}
use Rattle.shape_graphs.specs.declared.graph.Arc.{Arc}
use Rattle.shape_graphs.specs.Arcs.{arc_at}
use Rattle.shape_graphs.specs.Flows.{number_at}

-- each number is one of 0, 1, .. below how many there are
abbrev pub HaveBuckets : List ℤ → Type 0
HaveBuckets numbers =
    (node : ℕ) → node < length numbers → (pos 0 ≤ℤ number_at numbers node) × (number_at numbers node <ℤ pos (length numbers))

-- arc i begins at a node with this number
abbrev pub IsInBucket : List Arc → List ℤ → ℕ → ℕ → Type 0
IsInBucket arcs numbers bucket i = number_at numbers (arc_at arcs i).from ≡ pos bucket

-- the entry names the last of the arcs below a bound that are in the bucket, by its number and 1,
-- or is 0 where there is none
pub record IsLastIn (arcs : List Arc) (numbers : List ℤ) (bound bucket entry : ℕ) : Type 0 where
  pub within : entry ≤ bound
  pub inside : 0 < entry → IsInBucket arcs numbers bucket (entry - 1)
  pub none_between : (i : ℕ) → entry ≤ i → i < bound → IsInBucket arcs numbers bucket i → ⊥

-- the first n arcs are in buckets: the last of each bucket, and for each arc the one before it
pub record AreFirstIn (n : ℕ) (arcs : List Arc) (numbers : List ℤ) (last before : List ℕ) : Type 0 where
  pub one_for_each_number : length last ≡ length numbers
  pub one_for_each_arc : length before ≡ length arcs
  pub last_of : (bucket : ℕ) → bucket < length numbers →
      IsLastIn arcs numbers n bucket (slice_index last bucket)
  pub before_of : (i bucket : ℕ) → i < n → IsInBucket arcs numbers bucket i →
      IsLastIn arcs numbers i bucket (slice_index before i)

-- all arcs are in buckets
abbrev pub AreInBuckets : List Arc → List ℤ → List ℕ → List ℕ → Type 0
AreInBuckets arcs numbers last before = AreFirstIn (length arcs) arcs numbers last before
