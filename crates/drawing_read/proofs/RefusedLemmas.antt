-- The refused number with the least offset, number by number.
use Rattle.std.proofs.Common.{◌≡◌, List, [], ◌∷◌, Option, None, Some, fold, refl, sym, ap, ◌∙◌}
use Rattle.std.specs.List.{flat_map, filter_map, cons_option, reduce}
use Rattle.std.proofs.lemmas.List.Sums.{fold-append}
use Rattle.drawing_read.specs.declared.numerals.Number.{Number}
use Rattle.drawing_read.specs.declared.refused.RefusedNumber.{RefusedNumber}
use Rattle.drawing_read.specs.declared.written.Node.{Node}
use Rattle.drawing_read.specs.declared.written.Edge.{Edge}
use Rattle.drawing_read.specs.declared.written.Graph.{Graph}
use Rattle.drawing_read.specs.Faults.{both_numbers, refused_in, earlier, first_refused, numbers_in_graph}
use Rattle.drawing_read.specs.inner.Passes.{earlier_if_any, with_number, with_numbers}

fold-flat_map : {A B C : Type 0} (s : B → C → B) (f : A → List C) (b : B) (xs : List A) → fold (λ b x. fold s b (f x)) b xs ≡ fold s b (flat_map f xs)
fold-flat_map s f b [] = refl
fold-flat_map s f b (x ∷ xs) = fold-flat_map s f (fold s b (f x)) xs ∙ sym (fold-append s b (f x) (flat_map f xs))

one_more : (a : RefusedNumber) (ns : List Number) → ((a : RefusedNumber) → fold with_number (Some a) ns ≡ Some (fold earlier a (filter_map refused_in ns))) →
    (o : Option RefusedNumber) → fold with_number (earlier_if_any (Some a) o) ns ≡ Some (fold earlier a (cons_option o (filter_map refused_in ns)))
one_more a ns rest None = rest a
one_more a ns rest (Some b) = rest (earlier a b)

from_one : (a : RefusedNumber) (ns : List Number) → fold with_number (Some a) ns ≡ Some (fold earlier a (filter_map refused_in ns))
from_one a [] = refl
from_one a (n ∷ ns) = one_more a ns (λ b. from_one b ns) (refused_in n)

first_one : (ns : List Number) → fold with_number None ns ≡ first_refused ns →
    (o : Option RefusedNumber) → fold with_number (earlier_if_any None o) ns ≡ reduce earlier (cons_option o (filter_map refused_in ns))
first_one ns rest None = rest
first_one ns rest (Some b) = from_one b ns

from_none : (ns : List Number) → fold with_number None ns ≡ first_refused ns
from_none [] = refl
from_none (n ∷ ns) = first_one ns (from_none ns) (refused_in n)

edges_flat : (b : Option RefusedNumber) (edges : List Edge) →
    fold (λ b edge. fold with_numbers b edge.points) b edges ≡ fold with_number b (flat_map (λ (edge : Edge). flat_map both_numbers edge.points) edges)
edges_flat b [] = refl
edges_flat b (edge ∷ edges) =
    edges_flat (fold with_numbers b edge.points) edges
    ∙ ap (λ b. fold with_number b (flat_map (λ (edge : Edge). flat_map both_numbers edge.points) edges)) (fold-flat_map with_number both_numbers b edge.points)
    ∙ sym (fold-append with_number b (flat_map both_numbers edge.points) (flat_map (λ (edge : Edge). flat_map both_numbers edge.points) edges))

-- over the nodes and then the edges
pub refused_so_far : (graph : Graph) (a b : Option RefusedNumber) → a ≡ fold (λ best node. with_numbers best node.place) None graph.nodes →
    b ≡ fold (λ best edge. fold with_numbers best edge.points) a graph.edges → b ≡ first_refused (numbers_in_graph graph)
refused_so_far graph a b nodes edges =
    edges ∙ edges_flat a graph.edges
    ∙ ap (λ a. fold with_number a (flat_map (λ (edge : Edge). flat_map both_numbers edge.points) graph.edges))
    (nodes ∙ fold-flat_map with_number (λ (node : Node). both_numbers node.place) None graph.nodes)
    ∙ sym (fold-append with_number None (flat_map (λ (node : Node). both_numbers node.place) graph.nodes) (flat_map (λ (edge : Edge). flat_map both_numbers edge.points) graph.edges))
    ∙ from_none (numbers_in_graph graph)
