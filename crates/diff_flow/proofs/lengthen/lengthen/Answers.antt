use Rattle.std.proofs.Common.{◌≡◌, ◌∙◌, ℕ, length, ap, sym, subst, arith}
use Rattle.std.proofs.lemmas.List.{length-replicate}
use Rattle.diff_flow.specs.inner.Numbers.{NoneLate}
use Rattle.diff_flow.specs.inner.Lengthening.{Lengthens}
use Rattle.diff_flow.proofs.SetLemmas.{written_whole}
use Rattle.diff_flow.proofs.LengthenLemmas.{lengthens_begun}
use Rattle.diff_flow.proofs.lengthen.lengthen.Goals as goal

pub lengthen_all-requires-clause-lengthens : goal.lengthen_all-requires-clause-lengthens
lengthen_all-requires-clause-lengthens c =
    let steps = c.args.steps.now in
    let zeros = c.in_ok-waits.ensures.items_if_clones_equal (λ y is. is) in
    let flags = c.in_ok-wait.ensures.waits.lists.flags in
    let all : length c.as_mut_slice.result.now ≡ steps.nodes = ap length (c.as_mut_slice.ensures.value ∙ zeros) ∙ length-replicate {A = ℕ} steps.nodes 0 in
    let whole = c.as_mut_slice-2.ensures.value ∙ written_whole c.wait.new.waits c.in_ok-waits.waits.items c.in_ok-waits.waits.len
    (omega (arith, flags, c.as_mut_slice.ensures.len)) in
    let more = rw all at c.in_ok-wait.ensures.waits in
    subst (λ xs. Lengthens steps.nodes steps.list.items c.limit_of.result c.args.start c.args.numbers.now xs c.wait.new.queue.items NoneLate) (sym whole)
    (lengthens_begun steps.nodes steps.list.items c.limit_of.result c.args.start c.args.numbers.now c.as_mut_slice.result.now c.new-queue.result.items
    c.wait.new.waits c.wait.new.queue.items c.requires.one_for_each
    (λ v inside. rw c.limit_of.ensures.value (c.requires.inside v inside)) c.requires.met c.new-queue.ensures.items more c.in_ok-wait.ensures.only)
