-- The branch at hand: what is to come after it, and its graphs with a choice more or less.
use Rattle.std.specs.Prelude.{replicate, if◌then◌else◌}
use Rattle.std.proofs.Common.{◌≡◌, Bool, true, false, ℕ, zero, suc, ◌+◌, ◌-◌, ◌<◌, ◌≤◌, List, [], ◌∷◌, ◌++◌, length, take, Option, Some, None, MatchOption, ◌⊎◌, inl, inr, refl, sym, ap, subst, ◌∙◌, arith, append_assoc}
use Rattle.std.proofs.lemmas.List.{append-nil, length_push, length-take, get_or_append_left, get_or_push, get_or-replicate, get_or-take}
use Rattle.std.proofs.lemmas.Bool.{cases_lt}
use Rattle.compact_types.specs.declared.places.Axis.{Axis}
use Rattle.compact_types.specs.declared.places.Axis.TheVariants.{X, Y}
use Rattle.compact_types.specs.declared.plan.Shape.{Shape}
use Rattle.compact_types.specs.declared.search.Choice.{Choice}
use Rattle.bars.specs.Lines.{is_axis}
use Rattle.bars.specs.Sides.{side_axis}
use Rattle.bars.specs.Solutions.{Fit, with_choice}
use Rattle.shape_graphs.specs.declared.growing.GrowingGraphs.{GrowingGraphs}
use Rattle.shape_graphs.specs.Flows.{amount_at}
use Rattle.shape_graphs.specs.Growing.{AreGrown, amounts_on, graph_on, with_nothing, without_last}
use Rattle.shape_graphs.proofs.Laws.{fit_less, fit_more, last_fits}
use Rattle.board.specs.Histories.{children_of}
use Rattle.cert_check.specs.inner.Branches.{IsAt, later, later_from, later_sides}
use Rattle.cert_check.specs.inner.Loading.{HaveLoads}

-- what comes after a branch with one choice more
pub later_from_more : (front choices : List Choice) (choice : Choice) →
    later_from front (choices ++ choice ∷ []) ≡ later_sides (front ++ choices) choice.s choice.t choice.side ++ later_from front choices
later_from_more front [] choice =
    let nothing = append-nil front in
    let sides : later_sides front choice.s choice.t choice.side ≡ later_sides (front ++ []) choice.s choice.t choice.side =
    ap (λ (l : List Choice). later_sides l choice.s choice.t choice.side) (sym nothing) in
    sides ∙ sym (append-nil (later_sides (front ++ []) choice.s choice.t choice.side))
later_from_more front (first ∷ choices) choice =
    let rest = later_from_more (front ++ first ∷ []) choices choice in
    let whole : (front ++ first ∷ []) ++ choices ≡ front ++ first ∷ choices = append_assoc front (first ∷ []) choices in
    let sides = later_sides front first.s first.t first.side in
    let after = later_from (front ++ first ∷ []) choices in
    ap (λ (l : List (List Choice)). l ++ sides) rest
    ∙ append_assoc (later_sides ((front ++ first ∷ []) ++ choices) choice.s choice.t choice.side) after sides
    ∙ ap (λ (l : List Choice). later_sides l choice.s choice.t choice.side ++ (after ++ sides)) whole

pub later_more : (choices : List Choice) (choice : Choice) →
    later (choices ++ choice ∷ []) ≡ later_sides choices choice.s choice.t choice.side ++ later choices
later_more choices choice = later_from_more [] choices choice

-- the first branch of a split is next, and its other three come after it
pub split_next : (choices : List Choice) (s t : ℕ) →
    children_of choices s t ++ later choices ≡ with_choice choices s t 0 ∷ later (with_choice choices s t 0)
split_next choices s t =
    ap (λ (l : List (List Choice)). with_choice choices s t 0 ∷ l) (sym (later_more choices (record { s = s; t = t; side = 0 })))

-- after a branch of a side below the last comes that of the next side
pub side_next : (choices : List Choice) (s t side : ℕ) → side < 3 →
    later (with_choice choices s t side) ≡ with_choice choices s t (side + 1) ∷ later (with_choice choices s t (side + 1))
side_next choices s t zero below =
    later_more choices (record { s = s; t = t; side = 0 })
    ∙ ap (λ (l : List (List Choice)). with_choice choices s t 1 ∷ l) (sym (later_more choices (record { s = s; t = t; side = 1 })))
side_next choices s t (suc zero) below =
    later_more choices (record { s = s; t = t; side = 1 })
    ∙ ap (λ (l : List (List Choice)). with_choice choices s t 2 ∷ l) (sym (later_more choices (record { s = s; t = t; side = 2 })))
side_next choices s t (suc (suc zero)) below =
    later_more choices (record { s = s; t = t; side = 2 })
    ∙ ap (λ (l : List (List Choice)). with_choice choices s t 3 ∷ l) (sym (later_more choices (record { s = s; t = t; side = 3 })))
side_next choices s t (suc (suc (suc side))) below = absurd (omega (arith, below))

-- and after the last side comes what comes after the pair
pub last_side : (choices : List Choice) (choice : Choice) → 3 ≤ choice.side → later (choices ++ choice ∷ []) ≡ later choices
last_side choices choice last = later_more choices choice ∙ ap (λ (l : List (List Choice)). l ++ later choices) (none choice.side last)
  where
    none : (side : ℕ) → 3 ≤ side → later_sides choices choice.s choice.t side ≡ []
    none zero last = absurd (omega (arith, last))
    none (suc zero) last = absurd (omega (arith, last))
    none (suc (suc zero)) last = absurd (omega (arith, last))
    none (suc (suc (suc side))) last = refl

-- the same for the choices before and after
pub next_first : (front old new : List Choice) (choice other : Choice) → old ≡ front ++ choice ∷ [] → choice.side < 3 →
    other ≡ record { s = choice.s; t = choice.t; side = choice.side + 1 } → new ≡ front ++ other ∷ [] → later old ≡ new ∷ later new
next_first front old new choice other is_old below is_other is_new =
    let there : new ≡ with_choice front choice.s choice.t (choice.side + 1) = is_new ∙ ap (λ (c : Choice). front ++ c ∷ []) is_other in
    ap later is_old ∙ side_next front choice.s choice.t choice.side below ∙ ap (λ (l : List Choice). l ∷ later l) (sym there)

-- the next side of a choice that was the last
pub next_fits : (shape : Shape) (choices : List Choice) (choice : Choice) → Fit shape (choices ++ choice ∷ []) → choice.side < 3 →
    Fit shape (choices ++ record { s = choice.s; t = choice.t; side = choice.side + 1 } ∷ [])
next_fits shape choices choice fit below =
    let is = last_fits shape choices choice fit in
    let most = fit.few in
    fit_more shape choices (record { s = choice.s; t = choice.t; side = choice.side + 1 }) (fit_less shape choices choice fit)
    (omega (arith, most, length_push choices choice)) (record { pair = is.pair; side = omega (arith, below) })

-- where nothing is on the arcs, nothing is on them with one arc more or less
more : (amounts : List ℕ) → HaveLoads amounts [] → HaveLoads (amounts ++ 0 ∷ []) []
more amounts none i inside = by_place (cases_lt i (length amounts))
  where
    by_place : (i < length amounts) ⊎ (length amounts ≤ i) → amount_at (amounts ++ 0 ∷ []) i ≡ 0
    by_place (inl before) = get_or_append_left amounts (0 ∷ []) 0 i before ∙ none i before
    by_place (inr after) = get_or_push amounts 0 0 i (omega (arith, inside, after, length_push amounts 0))

less : (amounts : List ℕ) → HaveLoads amounts [] → HaveLoads (take (length amounts - 1) amounts) []
less amounts none i inside =
    let below : i < length amounts - 1 = omega (arith, inside, length-take (length amounts - 1) amounts) in
    get_or-take (length amounts - 1) amounts i 0 below ∙ none i (omega (arith, below))

nothing_more : (axis : Axis) (choice : Choice) (amounts : List ℕ) → HaveLoads amounts [] → HaveLoads (with_nothing axis choice amounts) []
nothing_more axis choice amounts none = by_test (is_axis (side_axis choice.side) axis)
  where
    by_test : (along : Bool) → HaveLoads (if along then amounts ++ 0 ∷ [] else amounts) []
    by_test true = more amounts none
    by_test false = none

nothing_less : (axis : Axis) (choice : Choice) (amounts : List ℕ) → HaveLoads amounts [] → HaveLoads (without_last axis choice amounts) []
nothing_less axis choice amounts none = by_test (is_axis (side_axis choice.side) axis)
  where
    by_test : (along : Bool) → HaveLoads (if along then take (length amounts - 1) amounts else amounts) []
    by_test true = less amounts none
    by_test false = none

-- the branch with no choice, with one choice more, and without the last
pub at_root : (shape : Shape) (branch : GrowingGraphs) → AreGrown shape branch →
    ((axis : Axis) → amounts_on axis branch ≡ replicate (length (graph_on axis branch).graph.arcs) 0) → IsAt shape branch
at_root shape branch grown are = record { grown = grown; columns = zeros X; rows = zeros Y }
  where
    zeros : (axis : Axis) → HaveLoads (amounts_on axis branch) []
    zeros axis i inside =
        let arcs = (grown.each axis).one_for_each in
        ap (λ (amounts : List ℕ). amount_at amounts i) (are axis)
        ∙ get_or-replicate (length (graph_on axis branch).graph.arcs) i 0 0 (omega (arith, inside, arcs))

pub at_pushed : (shape : Shape) (old new : GrowingGraphs) (choice : Choice) → IsAt shape old → AreGrown shape new →
    ((axis : Axis) → amounts_on axis new ≡ with_nothing axis choice (amounts_on axis old)) → IsAt shape new
at_pushed shape old new choice at grown are = record {
  grown = grown;
  columns = subst (λ (amounts : List ℕ). HaveLoads amounts []) (sym (are X)) (nothing_more X choice old.columns.flow.amounts at.columns);
  rows = subst (λ (amounts : List ℕ). HaveLoads amounts []) (sym (are Y)) (nothing_more Y choice old.rows.flow.amounts at.rows);
}

pub at_popped : (shape : Shape) (old new : GrowingGraphs) (choice : Choice) → IsAt shape old → AreGrown shape new →
    ((axis : Axis) → amounts_on axis new ≡ without_last axis choice (amounts_on axis old)) → IsAt shape new
at_popped shape old new choice at grown are = record {
  grown = grown;
  columns = subst (λ (amounts : List ℕ). HaveLoads amounts []) (sym (are X)) (nothing_less X choice old.columns.flow.amounts at.columns);
  rows = subst (λ (amounts : List ℕ). HaveLoads amounts []) (sym (are Y)) (nothing_less Y choice old.rows.flow.amounts at.rows);
}
