use Rattle.std.proofs.Common.{◌≡◌, Some, [], sym, ap, ◌∙◌, subst, List, rules}
use Rattle.std.specs.Prelude.{codes}
use Rattle.std.proofs.lemmas.List.Quantifiers.{position-Some}
use Rattle.gml_text.specs.declared.tree.Pair.{Pair}
use Rattle.drawing_read.specs.Lookups.{lists_under}
use Rattle.drawing_read.specs.inner.Legible.{AreLegible}
use Rattle.drawing_read.proofs.GraphLemmas.{no_graph, graph_there, first_graph_is, list_there, is_graph}
use Rattle.drawing_read.proofs.LegibleLemmas.{legible_at}
use Rattle.drawing_read.proofs.read.first_graph.Goals as goal

pub returns-in_err-place : goal.returns-in_err-place
returns-in_err-place c =
    let none : lists_under (codes "graph") c.args.pairs.now ≡ [] = no_graph c.args.pairs.now (sym c.in_err-place.ensures) in
    search rules

pub returns-in_err-list : goal.returns-in_err-list
returns-in_err-list c =
    let pair = c.index-pairs-place.result in
    let some = graph_there c.args.pairs.now c.in_ok-place.place pair (sym c.in_ok-place.ensures) c.index-pairs-place.is in
    absurd (list_there pair some c.in_err-list.ensures.list)

pub returns : goal.returns
returns c =
    let pair = c.index-pairs-place.result in
    let first = sym c.in_ok-place.ensures in
    let within = (position-Some is_graph c.args.pairs.now c.in_ok-place.place pair first).0 in
    first_graph_is c.args.pairs.now c.in_ok-place.place pair c.as_slice.result.now first c.index-pairs-place.is
    (ap Some c.as_slice.ensures ∙ c.in_ok-list.ensures.list)
    (λ legible. subst (λ (list : List Pair). AreLegible list) (sym c.as_slice.ensures)
    (c.in_ok-list.ensures.legible (legible_at c.args.pairs.now c.in_ok-place.place pair legible within c.index-pairs-place.is)))
