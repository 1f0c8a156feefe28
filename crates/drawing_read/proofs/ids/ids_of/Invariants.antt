use Rattle.std.proofs.Common.{◌≡◌, ℤ, take}
use Rattle.std.specs.List.{find, range_with_len}
use Rattle.std.specs.Ordering.{int_eq}
use Rattle.indexmap.specs.IndexMap.{get}
use Rattle.drawing_read.specs.Ids.{number_of_id, ids_of, repeats_id}
use Rattle.drawing_read.proofs.ids.ids_of.Given as goal

abbrev pub invariant-loop-n : goal.invariant-loop-n
invariant-loop-n l = record {
  first : (id : ℤ) → get int_eq l.first id ≡ number_of_id (take l.n (ids_of l.nodes)) id;
  repeated : l.repeated ≡ find (repeats_id (ids_of l.nodes)) (range_with_len 0 l.n);
}
