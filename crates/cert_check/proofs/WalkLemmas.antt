-- A walk over the entries: what is shown from here on is shown from the start.
use Rattle.std.specs.Prelude.{MatchBool}
use Rattle.std.proofs.Common.{◌≡◌, Bool, true, false, ℕ, suc, ◌+◌, ◌<◌, List, [], ◌∷◌, ◌++◌, length, drop, Some, None, inl, inr, refl, sym, ap, subst, ◌∙◌, arith, slice_index_or}
use Rattle.std.proofs.Math.Seq.{drop-cons, drop-length}
use Rattle.std.proofs.lemmas.List.{length_push}
use Rattle.compact_types.specs.declared.limits.TheConstants.{MOST_CHOICES}
use Rattle.compact_types.specs.declared.places.Places.{Places}
use Rattle.compact_types.specs.declared.plan.Shape.{Shape}
use Rattle.compact_types.specs.declared.search.Choice.{Choice}
use Rattle.cert_text.specs.declared.tree.CertNode.{CertNode}
use Rattle.cert_text.specs.declared.tree.CertNode.TheVariants.{Split, Bound, Cycle}
use Rattle.cert_text.specs.Accepting.{AreGood, IsGoodEntry, opened_by}
use Rattle.cert_text.specs.Trees.{AreShallow, IsShallow, IsWhole, depths_opened, left_after}
use Rattle.cert_text.proofs.Laws.{opened_count}
use Rattle.cert_check.specs.declared.fault.CheckFault.{CheckFault}
use Rattle.cert_check.specs.Faults.{IsEntryFault, IsFirstIn}
use Rattle.cert_check.specs.inner.Branches.{HasRoomToSplit, IsNext}
use Rattle.shape_graphs.specs.declared.growing.GrowingGraphs.{GrowingGraphs}

-- how many choices each branch has
abbrev pub depths_of : List (List Choice) → List ℕ
depths_of [] = []
depths_of (choices ∷ branches) = length choices ∷ depths_of branches

-- The entries from here on are whole and shallow for the branches to come; and what they show, or
-- their first fault, is what the whole certificate shows, or its first fault.
pub record IsOnTheWay (shape : Shape) (places : Places) (nodes : List CertNode) (entry : ℕ)
    (branches : List (List Choice)) (rest : List CertNode) : Type 0 where
  pub whole : left_after (length branches) rest ≡ Some 0
  pub shallow : AreShallow MOST_CHOICES (depths_of branches) rest
  pub good : AreGood shape places branches rest → AreGood shape places ([] ∷ []) nodes
  pub fault : (fault : CheckFault) → IsFirstIn shape places entry branches rest fault → IsFirstIn shape places 0 ([] ∷ []) nodes fault

-- at the start
pub at_start : (shape : Shape) (places : Places) (nodes : List CertNode) → IsWhole nodes → IsShallow MOST_CHOICES nodes →
    IsOnTheWay shape places nodes 0 ([] ∷ []) nodes
at_start shape places nodes whole shallow = record {
  whole = whole;
  shallow = shallow;
  good = λ good. good;
  fault = λ fault first. first;
}

opened_depths : (node : CertNode) (choices : List Choice) (branches : List (List Choice)) →
    depths_of (opened_by node choices ++ branches) ≡ depths_opened node (length choices) ++ depths_of branches
opened_depths (Split s t) choices branches =
    let zeroth = length_push choices (record { s = s; t = t; side = 0 }) in
    let first = length_push choices (record { s = s; t = t; side = 1 }) in
    let second = length_push choices (record { s = s; t = t; side = 2 }) in
    let third = length_push choices (record { s = s; t = t; side = 3 }) in
    let one : length choices + 1 ≡ suc (length choices) = omega arith in
    cc
opened_depths (Bound x y) choices branches = refl
opened_depths (Cycle axis arcs) choices branches = refl

-- a good entry is passed
pub after_good : (shape : Shape) (places : Places) (nodes : List CertNode) (entry : ℕ) (choices : List Choice) (branches : List (List Choice))
    (node : CertNode) (rest : List CertNode) → IsOnTheWay shape places nodes entry (choices ∷ branches) (node ∷ rest) →
    IsGoodEntry shape choices places node → IsOnTheWay shape places nodes (suc entry) (opened_by node choices ++ branches) rest
after_good shape places nodes entry choices branches node rest before good_entry = record {
  whole = ap (λ (n : ℕ). left_after n rest) (opened_count node choices branches) ∙ before.whole;
  shallow = subst (λ (depths : List ℕ). AreShallow MOST_CHOICES depths rest) (sym (opened_depths node choices branches)) before.shallow.1;
  good = λ good. before.good (good_entry, good);
  fault = λ fault first. before.fault fault (inr (good_entry, first));
}

-- a faulty entry has the first fault
pub at_fault : (shape : Shape) (places : Places) (nodes : List CertNode) (entry : ℕ) (choices : List Choice) (branches : List (List Choice))
    (node : CertNode) (rest : List CertNode) (fault : CheckFault) → IsOnTheWay shape places nodes entry (choices ∷ branches) (node ∷ rest) →
    IsEntryFault shape choices places entry node fault → IsFirstIn shape places 0 ([] ∷ []) nodes fault
at_fault shape places nodes entry choices branches node rest fault before wrong = before.fault fault (inl wrong)

-- where no branch is to come, all is shown
pub at_end : (shape : Shape) (places : Places) (nodes : List CertNode) (entry : ℕ) (branches : List (List Choice)) (rest : List CertNode) →
    branches ≡ [] → IsOnTheWay shape places nodes entry branches rest → AreGood shape places ([] ∷ []) nodes
at_end shape places nodes entry [] [] none before = before.good tt
at_end shape places nodes entry [] (node ∷ rest) none before = absurd (let no : None ≡ Some 0 = before.whole in cc)
at_end shape places nodes entry (choices ∷ branches) rest none before = absurd (let no : choices ∷ branches ≡ [] = none in cc)

-- and a branch to come has an entry
pub some_entry : (shape : Shape) (places : Places) (nodes : List CertNode) (entry : ℕ) (choices : List Choice) (branches : List (List Choice)) →
    IsOnTheWay shape places nodes entry (choices ∷ branches) [] → ⊥
some_entry shape places nodes entry choices branches before =
    let left : Some (suc (length branches)) ≡ Some 0 = before.whole in
    let none : suc (length branches) ≡ 0 = cc in
    absurd (omega (arith, none))

-- the branches of a split have room
pub has_room : (shape : Shape) (places : Places) (nodes : List CertNode) (entry : ℕ) (choices : List Choice) (branches : List (List Choice))
    (node : CertNode) (rest : List CertNode) → IsOnTheWay shape places nodes entry (choices ∷ branches) (node ∷ rest) → HasRoomToSplit node choices
has_room shape places nodes entry choices branches (Split s t) [] before =
    let left : Some (4 + length branches) ≡ Some 0 = before.whole in
    let none : 4 + length branches ≡ 0 = cc in
    absurd (omega (arith, none))
has_room shape places nodes entry choices branches (Split s t) (node ∷ rest) before =
    let deep = before.shallow.1.0 in
    omega (arith, deep)
has_room shape places nodes entry choices branches (Bound x y) rest before = tt
has_room shape places nodes entry choices branches (Cycle axis arcs) rest before = tt

-- the same for the entries by their numbers
abbrev pub IsAtEntry : Shape → Places → List CertNode → ℕ → List (List Choice) → Type 0
IsAtEntry shape places nodes entry branches = IsOnTheWay shape places nodes entry branches (drop entry nodes)

pub entry_first : (shape : Shape) (places : Places) (nodes : List CertNode) (entry : ℕ) (branches : List (List Choice)) (other : CertNode) →
    entry < length nodes → IsAtEntry shape places nodes entry branches →
    IsOnTheWay shape places nodes entry branches (slice_index_or nodes entry other ∷ drop (suc entry) nodes)
entry_first shape places nodes entry branches other inside before =
    subst (λ (rest : List CertNode). IsOnTheWay shape places nodes entry branches rest) (drop-cons nodes entry other inside) before

pub way_more : (shape : Shape) (places : Places) (nodes : List CertNode) (entry next : ℕ) (choices : List Choice) (branches : List (List Choice))
    (node : CertNode) → next ≡ entry + 1 → entry < length nodes → node ≡ slice_index_or nodes entry node →
    IsAtEntry shape places nodes entry (choices ∷ branches) → IsGoodEntry shape choices places node →
    IsAtEntry shape places nodes next (opened_by node choices ++ branches)
way_more shape places nodes entry next choices branches node is inside at before good =
    let first = entry_first shape places nodes entry (choices ∷ branches) node inside before in
    let here = subst (λ (n : CertNode). IsOnTheWay shape places nodes entry (choices ∷ branches) (n ∷ drop (suc entry) nodes)) (sym at) first in
    let number : suc entry ≡ next = omega (arith, is) in
    let after = after_good shape places nodes entry choices branches node (drop (suc entry) nodes) here good in
    subst (λ (n : ℕ). IsAtEntry shape places nodes n (opened_by node choices ++ branches)) number after

pub fault_here : (shape : Shape) (places : Places) (nodes : List CertNode) (entry : ℕ) (choices : List Choice) (branches : List (List Choice))
    (node : CertNode) → entry < length nodes → node ≡ slice_index_or nodes entry node →
    IsAtEntry shape places nodes entry (choices ∷ branches) → (fault : CheckFault) → IsEntryFault shape choices places entry node fault →
    IsFirstIn shape places 0 ([] ∷ []) nodes fault
fault_here shape places nodes entry choices branches node inside at before fault wrong =
    let first = entry_first shape places nodes entry (choices ∷ branches) node inside before in
    let here = subst (λ (n : CertNode). IsOnTheWay shape places nodes entry (choices ∷ branches) (n ∷ drop (suc entry) nodes)) (sym at) first in
    at_fault shape places nodes entry choices branches node (drop (suc entry) nodes) fault here wrong

pub room_here : (shape : Shape) (places : Places) (nodes : List CertNode) (entry : ℕ) (choices : List Choice) (branches : List (List Choice))
    (node : CertNode) → entry < length nodes → node ≡ slice_index_or nodes entry node →
    IsAtEntry shape places nodes entry (choices ∷ branches) → HasRoomToSplit node choices
room_here shape places nodes entry choices branches node inside at before =
    let first = entry_first shape places nodes entry (choices ∷ branches) node inside before in
    let here = subst (λ (n : CertNode). IsOnTheWay shape places nodes entry (choices ∷ branches) (n ∷ drop (suc entry) nodes)) (sym at) first in
    has_room shape places nodes entry choices branches node (drop (suc entry) nodes) here

pub not_past_the_end : (shape : Shape) (places : Places) (nodes : List CertNode) (entry : ℕ) (choices : List Choice) (branches : List (List Choice)) →
    entry ≡ length nodes → IsAtEntry shape places nodes entry (choices ∷ branches) → ⊥
not_past_the_end shape places nodes entry choices branches last before =
    let none : drop entry nodes ≡ [] = ap (λ (n : ℕ). drop n nodes) last ∙ drop-length nodes in
    some_entry shape places nodes entry choices branches (subst (λ (rest : List CertNode). IsOnTheWay shape places nodes entry (choices ∷ branches) rest) none before)

-- the branch that is next, where there is one, and the end
pub next_is : (shape : Shape) (branches : List (List Choice)) (branch : GrowingGraphs) (more : Bool) → more ≡ true →
    MatchBool more (IsNext shape branches branch) (branches ≡ []) → IsNext shape branches branch
next_is shape branches branch true is says = says
next_is shape branches branch false is says = absurd (let no : false ≡ true = is in cc)

pub none_is_next : (shape : Shape) (branches : List (List Choice)) (branch : GrowingGraphs) (more : Bool) → more ≡ false →
    MatchBool more (IsNext shape branches branch) (branches ≡ []) → branches ≡ []
none_is_next shape branches branch true is says = absurd (let no : true ≡ false = is in cc)
none_is_next shape branches branch false is says = says
