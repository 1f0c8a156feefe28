-- Chains of choices: what forks make of them, and the walk up from a branch.
use Rattle.std.proofs.Common.{◌≡◌, ◌↔◌, ℕ, zero, suc, ◌+◌, ◌*◌, ◌-◌, ◌/◌, ◌%◌, ◌<◌, ◌≤◌, List, [], ◌∷◌, ◌++◌, length, get_or, take, reverse, refl, sym, ap, ◌∙◌, ◌⊎◌, inl, inr, arith, append-nil, length-append}
use Rattle.std.proofs.lemmas.List.{get_or_append_left, get_or-append-add, reverse-append, take_all}
use Rattle.std.proofs.lemmas.Bool.{cases_lt}
use Rattle.std.proofs.Math.Seq.{get_or-append_seam, take-suc, append_snoc}
use Rattle.compact_types.specs.declared.search.Choice.{Choice}
use Rattle.bars.specs.Solutions.{with_choice}
use Rattle.board.specs.declared.chains.Fork.{Fork}
use Rattle.board.specs.declared.chains.StepUp.{StepUp}
use Rattle.board.specs.Histories.{children_of}
use Rattle.board.specs.inner.Chains.{chain_at, fork_at, grown, lists_of, HaveParents, IsStepUp, IsChainWalk, IsGathered}

-- lists with one more value at the end are equal only by both parts
pub snoc_equal : {A : Type 0} (xs ys : List A) (a b : A) → xs ++ a ∷ [] ≡ ys ++ b ∷ [] → (xs ≡ ys) × (a ≡ b)
snoc_equal [] [] a b e = (refl, cc)
snoc_equal [] (y ∷ ys) a b e = let lengths = ap length e in absurd (omega (arith, lengths, length-append ys (b ∷ [])))
snoc_equal (x ∷ xs) [] a b e = let lengths = ap length e in absurd (omega (arith, lengths, length-append xs (a ∷ [])))
snoc_equal (x ∷ xs) (y ∷ ys) a b e =
    let tails : xs ++ a ∷ [] ≡ ys ++ b ∷ [] = cc in
    let rest = snoc_equal xs ys a b tails in
    let front : xs ≡ ys = rest.0 in
    let head : x ≡ y = cc in
    (cc, rest.1)

-- within a list the default of a look-up does not matter
pub any_default : {A : Type 0} (xs : List A) (i : ℕ) (d e : A) → i < length xs → get_or xs i d ≡ get_or xs i e
any_default [] i d e below = absurd (omega arith)
any_default (x ∷ xs) zero d e below = refl
any_default (x ∷ xs) (suc i) d e below = any_default xs i d e (omega arith)

pub child_at : (parent : List Choice) (s t j : ℕ) → j < 4 → get_or (children_of parent s t) j [] ≡ with_choice parent s t j
child_at parent s t zero below = refl
child_at parent s t (suc zero) below = refl
child_at parent s t (suc (suc zero)) below = refl
child_at parent s t (suc (suc (suc zero))) below = refl
child_at parent s t (suc (suc (suc (suc n)))) below = absurd (omega arith)

pub grown-append : (lists : List (List Choice)) (forks more : List Fork) →
    grown lists (forks ++ more) ≡ grown (grown lists forks) more
grown-append lists [] more = refl
grown-append lists (fork ∷ forks) more = grown-append (lists ++ children_of (chain_at lists fork.parent) fork.s fork.t) forks more

pub length-grown : (lists : List (List Choice)) (forks : List Fork) → length (grown lists forks) ≡ length lists + 4 * length forks
length-grown lists [] = omega arith
length-grown lists (fork ∷ forks) =
    let kids = children_of (chain_at lists fork.parent) fork.s fork.t in
    let rest = length-grown (lists ++ kids) forks in
    let both : length (lists ++ kids) ≡ length lists + 4 = length-append lists kids in
    omega (arith, rest, both)

pub grown_keeps : (lists : List (List Choice)) (forks : List Fork) (i : ℕ) → i < length lists →
    get_or (grown lists forks) i [] ≡ get_or lists i []
grown_keeps lists [] i below = refl
grown_keeps lists (fork ∷ forks) i below =
    let kids = children_of (chain_at lists fork.parent) fork.s fork.t in
    let both : length (lists ++ kids) ≡ length lists + 4 = length-append lists kids in
    let still : i < length (lists ++ kids) = omega arith in
    grown_keeps (lists ++ kids) forks i still ∙ get_or_append_left lists kids [] i below

-- each child has the choices of its fork's parent and one more
pub grown_at : (lists : List (List Choice)) (forks : List Fork) (k j i : ℕ) →
    ((m : ℕ) → m < length forks → (fork_at forks m).parent < 4 * m + length lists) →
    k < length forks → j < 4 → i ≡ length lists + 4 * k + j →
    get_or (grown lists forks) i []
    ≡ with_choice (get_or (grown lists forks) (fork_at forks k).parent []) (fork_at forks k).s (fork_at forks k).t j
grown_at lists [] k j i parents below side at = absurd (omega arith)
grown_at lists (fork ∷ forks) zero j i parents below side at =
    let kids = children_of (chain_at lists fork.parent) fork.s fork.t in
    let both : length (lists ++ kids) ≡ length lists + 4 = length-append lists kids in
    let parent = parents 0 (omega arith) in
    let known : fork.parent < length lists = omega (arith, parent) in
    let still : fork.parent < length (lists ++ kids) = omega arith in
    let first = grown_keeps (lists ++ kids) forks fork.parent still ∙ get_or_append_left lists kids [] fork.parent known in
    let where_is : i ≡ length lists + j = omega arith in
    let inside : i < length (lists ++ kids) = omega arith in
    let second = grown_keeps (lists ++ kids) forks i inside in
    let third : get_or (lists ++ kids) i [] ≡ get_or kids j [] = rw where_is (get_or-append-add lists kids j []) in
    rw first (second ∙ third ∙ child_at (chain_at lists fork.parent) fork.s fork.t j side)
grown_at lists (fork ∷ forks) (suc k) j i parents below side at =
    let kids = children_of (chain_at lists fork.parent) fork.s fork.t in
    let both : length (lists ++ kids) ≡ length lists + 4 = length-append lists kids in
    let less : k < length forks = omega arith in
    let index : i ≡ length (lists ++ kids) + 4 * k + j = omega arith in
    grown_at (lists ++ kids) forks k j i
    (λ m h. let parent = parents (suc m) (omega arith) in
    let bound : (fork_at forks m).parent < 4 * suc m + length lists = parent in omega (arith, bound, both))
    less side index

pub length-lists : (forks : List Fork) → length (lists_of forks) ≡ 4 * length forks + 1
length-lists forks = let grows = length-grown ([] ∷ []) forks in omega (arith, grows)

pub root_empty : (forks : List Fork) → chain_at (lists_of forks) 0 ≡ []
root_empty forks = grown_keeps ([] ∷ []) forks 0 (omega arith)

pub fork_below : (forks : List Fork) (id : ℕ) → 0 < id → id < length (lists_of forks) → (id - 1) / 4 < length forks
fork_below forks id positive below = let all = length-lists forks in omega (arith, all)

choice_by : (choice : Choice) (s t side : ℕ) → choice.s ≡ s → choice.t ≡ t → choice.side ≡ side →
    choice ≡ record { s = s; t = t; side = side }
choice_by choice s t side p q r = rw (← p, ← q, ← r) refl

-- the step up from a branch to the parent of its fork
pub step_is : (forks : List Fork) (id : ℕ) (step : StepUp) → HaveParents forks → 0 < id → id < length (lists_of forks) →
    step.parent ≡ (fork_at forks ((id - 1) / 4)).parent → step.choice.s ≡ (fork_at forks ((id - 1) / 4)).s →
    step.choice.t ≡ (fork_at forks ((id - 1) / 4)).t → step.choice.side ≡ (id - 1) % 4 → IsStepUp (lists_of forks) id step
step_is forks id step parents positive below parent s t side =
    let k = (id - 1) / 4 in
    let inside = fork_below forks id positive below in
    let known = parents k inside in
    let at : id ≡ 1 + 4 * k + (id - 1) % 4 = omega arith in
    let chain = grown_at ([] ∷ []) forks k ((id - 1) % 4) id (λ m h. parents m h) inside (omega arith) at in
    record {
      before = omega (arith, known, parent);
      chain = rw (parent, choice_is) chain;
    }
  where
    choice_is : step.choice ≡ record { s = (fork_at forks ((id - 1) / 4)).s; t = (fork_at forks ((id - 1) / 4)).t; side = (id - 1) % 4 }
    choice_is = choice_by step.choice _ _ _ s t side

pub parents_with : (forks : List Fork) (fork : Fork) → HaveParents forks → fork.parent < length (lists_of forks) → HaveParents (forks ++ fork ∷ [])
parents_with forks fork parents known k below = by_place (cases_lt k (length forks))
  where
    by_place : (k < length forks) ⊎ (length forks ≤ k) → (fork_at (forks ++ fork ∷ []) k).parent < 4 * k + 1
    by_place (inr last) =
        let all = length-lists forks in
        let one = length-append forks (fork ∷ []) in
        let index : k ≡ length forks = omega (arith, one) in
        let here : fork_at (forks ++ fork ∷ []) k ≡ fork = rw index (get_or-append_seam forks fork [] _) in
        rw here (omega (arith, all, index))
    by_place (inl less) = rw (get_or_append_left forks (fork ∷ []) _ k less) (parents k less)

pub lists_with : (forks : List Fork) (fork : Fork) →
    lists_of (forks ++ fork ∷ []) ≡ lists_of forks ++ children_of (chain_at (lists_of forks) fork.parent) fork.s fork.t
lists_with forks fork = grown-append ([] ∷ []) forks (fork ∷ [])

-- the walk up that compares
take_back : (choices : List Choice) (n : ℕ) → n < length choices → (d : Choice) →
    take (suc n) choices ≡ take n choices ++ get_or choices n d ∷ []
take_back choices n below d = take-suc choices n d below

pub walk_start : (lists : List (List Choice)) (id : ℕ) (choices : List Choice) → id < length lists →
    IsChainWalk lists id choices id (length choices)
walk_start lists id choices below = record {
  below = below;
  within = omega arith;
  same = let whole = take_all (length choices) choices (omega arith) in rw whole ((λ e. e), (λ e. e));
}

pub walk_end : (lists : List (List Choice)) (id : ℕ) (choices : List Choice) (at left : ℕ) → IsChainWalk lists id choices at left →
    chain_at lists at ≡ [] → (chain_at lists id ≡ choices) ↔ (left ≡ 0)
walk_end lists id choices at left walk root = (
  (λ e. let taken = walk.same.0 e in empty_taken left choices walk.within (sym root ∙ taken)),
  (λ e. walk.same.1 (root ∙ sym (ap (λ n. take n choices) e))),
)
  where
    empty_taken : (n : ℕ) (xs : List Choice) → n ≤ length xs → [] ≡ take n xs → n ≡ 0
    empty_taken zero xs within e = refl
    empty_taken (suc n) [] within e = absurd (omega arith)
    empty_taken (suc n) (x ∷ xs) within e = cc

-- the choices that are left end in the last choice of the branch that is reached
walk_last : (lists : List (List Choice)) (id : ℕ) (choices : List Choice) (at left : ℕ) (step : StepUp) (d : Choice) →
    IsChainWalk lists id choices at left → IsStepUp lists at step → 0 < left →
    (chain_at lists id ≡ choices)
    ↔ (chain_at lists step.parent ++ step.choice ∷ [] ≡ take (left - 1) choices ++ get_or choices (left - 1) d ∷ [])
walk_last lists id choices at left step d walk up positive =
    let within = walk.within in
    let inside : left - 1 < length choices = omega arith in
    let one : suc (left - 1) ≡ left = omega arith in
    let taken : take left choices ≡ take (left - 1) choices ++ get_or choices (left - 1) d ∷ [] =
    ap (λ n. take n choices) (sym one) ∙ take_back choices (left - 1) inside d in
    ((λ e. sym up.chain ∙ walk.same.0 e ∙ taken), (λ e. walk.same.1 (up.chain ∙ e ∙ sym taken)))

pub walk_step : (lists : List (List Choice)) (id : ℕ) (choices : List Choice) (at left : ℕ) (step : StepUp) (d : Choice) →
    IsChainWalk lists id choices at left → IsStepUp lists at step → 0 < left → get_or choices (left - 1) d ≡ step.choice →
    IsChainWalk lists id choices step.parent (left - 1)
walk_step lists id choices at left step d walk up positive equal =
    let below = walk.below in
    let before = up.before in
    let within = walk.within in
    let last = walk_last lists id choices at left step d walk up positive in
    record {
      below = omega arith;
      within = omega arith;
      same = (
        (λ e. (snoc_equal (chain_at lists step.parent) (take (left - 1) choices) step.choice _ (last.0 e)).0),
        (λ e. last.1 (rw (e, equal) refl)),
      );
    }

pub walk_short : (lists : List (List Choice)) (id : ℕ) (choices : List Choice) (at left : ℕ) (step : StepUp) →
    IsChainWalk lists id choices at left → IsStepUp lists at step → left ≡ 0 → chain_at lists id ≡ choices → ⊥
walk_short lists id choices at left step walk up none same =
    let taken = sym up.chain ∙ walk.same.0 same ∙ ap (λ n. take n choices) none in
    let lengths = ap length taken in
    omega (arith, lengths, length-append (chain_at lists step.parent) (step.choice ∷ []))

pub walk_other : (lists : List (List Choice)) (id : ℕ) (choices : List Choice) (at left : ℕ) (step : StepUp) (d : Choice) →
    IsChainWalk lists id choices at left → IsStepUp lists at step → 0 < left →
    (get_or choices (left - 1) d ≡ step.choice → ⊥) → chain_at lists id ≡ choices → ⊥
walk_other lists id choices at left step d walk up positive other same =
    let last = walk_last lists id choices at left step d walk up positive in
    other (sym (snoc_equal (chain_at lists step.parent) (take (left - 1) choices) step.choice _ (last.0 same)).1)

-- the walk up that gathers
pub gather_start : (lists : List (List Choice)) (id : ℕ) → id < length lists → IsGathered lists id id []
gather_start lists id below = record { below = below; chain = sym (append-nil (chain_at lists id)) }

pub gather_step : (lists : List (List Choice)) (id at : ℕ) (gathered : List Choice) (step : StepUp) →
    IsGathered lists id at gathered → IsStepUp lists at step → IsGathered lists id step.parent (gathered ++ step.choice ∷ [])
gather_step lists id at gathered step so_far up =
    let below = so_far.below in
    let before = up.before in
    let turned : reverse (gathered ++ step.choice ∷ []) ≡ step.choice ∷ reverse gathered = reverse-append gathered (step.choice ∷ []) in
    record {
      below = omega arith;
      chain = so_far.chain ∙ ap (λ front. front ++ reverse gathered) up.chain
          ∙ append_snoc (chain_at lists step.parent) step.choice (reverse gathered)
          ∙ ap (λ back. chain_at lists step.parent ++ back) (sym turned);
    }

pub gather_end : (lists : List (List Choice)) (id at : ℕ) (gathered : List Choice) → IsGathered lists id at gathered →
    chain_at lists at ≡ [] → reverse gathered ≡ chain_at lists id
gather_end lists id at gathered so_far root = sym (so_far.chain ∙ ap (λ front. front ++ reverse gathered) root)
