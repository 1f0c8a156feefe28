use Rattle.std.proofs.Common.{◌≡◌, None, Some, sym, ap, ◌∙◌, rules}
use Rattle.drawing_read.specs.Lookups.{first_list}
use Rattle.drawing_read.proofs.LookupLemmas.{no_list, first_list_is, list_at}
use Rattle.drawing_read.proofs.lookups.first_list.Goals as goal

pub returns-in_err-place-clause-list : goal.returns-in_err-place-clause-list
returns-in_err-place-clause-list c =
    let none : first_list c.args.key.now c.args.pairs.now ≡ None =
    no_list c.args.key.now c.args.pairs.now (sym c.in_err-place.ensures.place) in
    search rules

pub returns-in_err-list-clause-list : goal.returns-in_err-list-clause-list
returns-in_err-list-clause-list c =
    let pair = c.index-pairs-place.result in
    let none : first_list c.args.key.now c.args.pairs.now ≡ None =
    first_list_is c.args.key.now c.args.pairs.now c.in_ok-place.place pair (sym c.in_ok-place.ensures.place) c.index-pairs-place.is
    ∙ sym c.in_err-list.ensures.list in
    search rules

pub returns-clause-list : goal.returns-clause-list
returns-clause-list c =
    let pair = c.index-pairs-place.result in
    list_at c.args.key.now c.args.pairs.now c.in_ok-place.place pair (sym c.in_ok-place.ensures.place) c.index-pairs-place.is
    c.as_slice.result.now (sym c.in_ok-list.ensures.list ∙ ap Some (sym c.as_slice.ensures))
