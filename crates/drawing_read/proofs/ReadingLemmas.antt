-- A tree has exactly one reading or exactly one first fault.
use Rattle.std.proofs.Common.{◌≡◌, ℕ, List, [], ◌∷◌, length, inl, inr, ◌⊎◌, Option, None, Some, Result, Ok, Err, IfOk, unwrap_or, refl, sym, ap, ◌∙◌, subst}
use Rattle.std.specs.Prelude.{codes}
use Rattle.std.specs.List.{position}
use Rattle.std.proofs.lemmas.Option.{same_Some}
use Rattle.compact_types.specs.Refusals.{HasOneAnswer, IfFault}
use Rattle.compact_types.specs.declared.refusal.Refusal.{Refusal}
use Rattle.compact_types.specs.declared.refusal.Refusal.TheVariants.{Fault, NoMemory}
use Rattle.compact_types.proofs.Laws.{plan_of, same_plan}
use Rattle.gml_text.specs.declared.tree.Tree.{Tree, out-Tree}
use Rattle.gml_text.specs.declared.tree.Pair.{Pair}
use Rattle.drawing_read.specs.declared.fault.DrawFault.{DrawFault}
use Rattle.drawing_read.specs.declared.reading.Reading.{Reading}
use Rattle.drawing_read.specs.declared.fault.DrawFault.TheVariants.{NoGraph, TwoGraphs}
use Rattle.drawing_read.specs.Spans.{points_in, spans_in, pieces_in}
use Rattle.drawing_read.specs.Spots.{graph_spots}
use Rattle.drawing_read.specs.Written.{graph_of}
use Rattle.drawing_read.specs.Faults.{graph_fault, graphs_of, fault_of, FirstDrawFault}
use Rattle.drawing_read.specs.Readings.{IsGraphReading, IfOne, IsReading, graph_place}
use Rattle.drawing_read.specs.Lookups.{lists_under}
use Rattle.drawing_read.specs.inner.Passes.{IsOnlyGraph}
use Rattle.drawing_read.proofs.GraphLemmas.{is_graph}
use Rattle.drawing_read.proofs.EndLemmas.{pieces_join_vertices}
use Rattle.drawing_read.proofs.FaultlessGraphs.{has_no_fault}

same_reading : (r s : Reading) → r.plan ≡ s.plan → r.places.xy ≡ s.places.xy → r.spots ≡ s.spots → r ≡ s
same_reading r s plan places spots = λ i. record { plan = plan i; places = record { xy = places i }; spots = spots i }

one_reading : (at : ℕ) (pairs : List Pair) (r s : Reading) → IsGraphReading at pairs r → IsGraphReading at pairs s → r ≡ s
one_reading at pairs r s a b =
    same_reading r s (same_plan r.plan s.plan (a.vertices ∙ sym b.vertices) (a.pieces ∙ sym b.pieces)) (a.places ∙ sym b.places) (a.spots ∙ sym b.spots)

one_of : (at : ℕ) (graphs : List (List Pair)) (r s : Reading) → IfOne graphs (λ pairs. IsGraphReading at pairs r) → IfOne graphs (λ pairs. IsGraphReading at pairs s) → r ≡ s
one_of at [] r s a b = absurd a
one_of at (pairs ∷ []) r s a b = one_reading at pairs r s a b
one_of at (pairs ∷ other ∷ more) r s a b = absurd a

no_fault_of : (at : ℕ) (graphs : List (List Pair)) (r : Reading) (fault : DrawFault) → IfOne graphs (λ pairs. IsGraphReading at pairs r) → fault_of graphs ≡ Some fault → ⊥
no_fault_of at [] r fault a is = a
no_fault_of at (pairs ∷ []) r fault a is = let none : graph_fault (graph_of pairs) ≡ None = a.faultless in cc
no_fault_of at (pairs ∷ other ∷ more) r fault a is = a

-- a tree has one reading at most
pub only_one : (tree : Tree) (r s : Reading) → IsReading tree r → IsReading tree s → r ≡ s
only_one tree r s a b = one_of (graph_place tree) (graphs_of tree) r s a b

-- and no reading beside a fault
pub not_both : (tree : Tree) (r : Reading) (fault : DrawFault) → IsReading tree r → FirstDrawFault tree fault → ⊥
not_both tree r fault a is = no_fault_of (graph_place tree) (graphs_of tree) r fault a is

-- a graph without a fault has a reading
graph_has_reading : (at : ℕ) (pairs : List Pair) → graph_fault (graph_of pairs) ≡ None → (reading : Reading) × IsGraphReading at pairs reading
graph_has_reading at pairs none =
    let graph = graph_of pairs in
    let ends = pieces_join_vertices graph (has_no_fault graph none).some_node in (
      record {
        plan = plan_of (length (points_in graph)) (pieces_in graph) ends;
        places = record { xy = points_in graph };
        spots = graph_spots (at ∷ []) (spans_in graph) 0 0 0 pairs;
      },
      record { faultless = none; vertices = refl; pieces = refl; places = refl; spots = refl },
    )

-- a graph has a reading or a first fault
graph_some : (at : ℕ) (pairs : List Pair) →
    ((reading : Reading) × IsGraphReading at pairs reading) ⊎ ((fault : DrawFault) × (graph_fault (graph_of pairs) ≡ Some fault))
graph_some at pairs = by (graph_fault (graph_of pairs)) refl
  where
    by : (o : Option DrawFault) → graph_fault (graph_of pairs) ≡ o →
        ((reading : Reading) × IsGraphReading at pairs reading) ⊎ ((fault : DrawFault) × (graph_fault (graph_of pairs) ≡ Some fault))
    by None is = inl (graph_has_reading at pairs is)
    by (Some fault) is = inr (fault, is)

some_of : (at : ℕ) (graphs : List (List Pair)) →
    ((reading : Reading) × IfOne graphs (λ pairs. IsGraphReading at pairs reading)) ⊎ ((fault : DrawFault) × (fault_of graphs ≡ Some fault))
some_of at [] = inr (NoGraph, refl)
some_of at (pairs ∷ []) = graph_some at pairs
some_of at (pairs ∷ other ∷ more) = inr (TwoGraphs, refl)

-- a tree has exactly one reading or exactly one first fault
pub one_answer : (tree : Tree) → HasOneAnswer (IsReading tree) (FirstDrawFault tree)
one_answer tree = record {
  some = some_of (graph_place tree) (graphs_of tree);
  one_value = only_one tree;
  one_fault = λ a b first second. same_Some a b (sym first ∙ second);
  not_both = not_both tree;
}

-- what a graph decides, a tree decides whose only graph it is
module _ (tree : Tree) (pairs : List Pair) (at : ℕ) (graph : List Pair) (whole : pairs ≡ (out-Tree tree).pairs) (only : IsOnlyGraph pairs at graph) where
  one_there : graphs_of tree ≡ graph ∷ []
  one_there = ap (lists_under (codes "graph")) (sym whole) ∙ only.only

  place_there : graph_place tree ≡ at
  place_there =
      ap (λ (pairs : List Pair). unwrap_or (position is_graph pairs) 0) (sym whole) ∙ ap (λ (o : Option ℕ). unwrap_or o 0) only.place

  of_tree : (reading : Reading) → IsGraphReading at graph reading → IsReading tree reading
  of_tree reading is =
      subst (λ (graphs : List (List Pair)). IfOne graphs (λ pairs. IsGraphReading (graph_place tree) pairs reading)) (sym one_there)
      (subst (λ (at : ℕ). IsGraphReading at graph reading) (sym place_there) is)

  -- the reading of the only graph
  pub reading_of_only : (r : Result Reading (Refusal DrawFault)) → IfOk r (λ reading. IsGraphReading at graph reading) → IfOk r (IsReading tree)
  reading_of_only (Ok reading) is = of_tree reading is
  reading_of_only (Err refusal) is = is

  -- its first fault
  pub fault_of_only : (r : Result Reading (Refusal DrawFault)) → IfFault r (λ fault. graph_fault (graph_of graph) ≡ Some fault) → IfFault r (FirstDrawFault tree)
  fault_of_only (Ok reading) is = is
  fault_of_only (Err (Fault fault)) is = ap fault_of one_there ∙ is
  fault_of_only (Err NoMemory) is = is

-- the first fault of a tree without a graph or with more than one
pub fault_of_graphs : (tree : Tree) (pairs : List Pair) (fault : DrawFault) → pairs ≡ (out-Tree tree).pairs →
    fault_of (lists_under (codes "graph") pairs) ≡ Some fault → FirstDrawFault tree fault
fault_of_graphs tree pairs fault whole is = ap (λ (pairs : List Pair). fault_of (lists_under (codes "graph") pairs)) (sym whole) ∙ is

-- what holds of every reading holds of an answer
pub if_reading : (tree : Tree) (r : Result Reading (Refusal DrawFault)) (P : Reading → Type 0) → ((reading : Reading) → IsReading tree reading → P reading) →
    IfOk r (IsReading tree) → IfOk r P
if_reading tree (Ok reading) P all is = all reading is
if_reading tree (Err refusal) P all is = is
