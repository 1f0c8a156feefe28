-- What is accepted is best: a drawing that would come before the answer solves the choices of some
-- branch that is still to come, from the first entry to the last.
use Rattle.std.proofs.Common.{◌≡◌, ℕ, zero, suc, ◌<◌, ◌≤◌, List, [], ◌∷◌, ◌++◌, length, ◌⊎◌, inl, inr, refl, sym, subst, arith, length-append}
use Rattle.std.proofs.lemmas.Bool.{cases_lt}
use Rattle.std.proofs.lemmas.List.{get_or_append_left, get_or_push}
use Rattle.compact_types.specs.declared.limits.TheConstants.{MOST_CHOICES}
use Rattle.compact_types.specs.declared.places.Places.{Places}
use Rattle.compact_types.specs.declared.plan.Shape.{Shape}
use Rattle.compact_types.specs.declared.search.Choice.{Choice}
use Rattle.compact_types.specs.Bests.{IsBest, key_of}
use Rattle.compact_types.specs.Bests.Objective.{total_length}
use Rattle.compact_types.specs.Drawings.{IsDrawing, IsFromZero}
use Rattle.compact_types.specs.Orders.{IsBefore}
use Rattle.bars.specs.Segments.{IsPair}
use Rattle.bars.specs.Solutions.{IsSound, IsChoice, Fit, Solves, choice_at, with_choice}
use Rattle.separation.proofs.Laws.{side_in_drawing, solves_one_more}
use Rattle.board.specs.Histories.{children_of}
use Rattle.cert_text.specs.declared.tree.CertNode.{CertNode}
use Rattle.cert_text.specs.declared.tree.CertNode.TheVariants.{Split, Bound, Cycle}
use Rattle.cert_text.specs.Accepting.{Accepts, AreGood, IsGoodEntry, opened_by, flows_of}
use Rattle.cert_text.specs.Trees.{AreShallow, IsShallow, depths_opened}
use Rattle.cert_text.specs.declared.trimming.TheConstants.{MOST_SPLITS}
use Rattle.cert_text.proofs.EntryLemmas.{none_at_cycle, none_at_bound}
use Rattle.cert_text.proofs.TreeLaws.{shallower_from}

-- the choices of a branch that lies under so many splits: one for each split, and each is a choice
pub record AreChoicesAt (shape : Shape) (choices : List Choice) (depth : ℕ) : Type 0 where
  pub long : length choices ≡ depth
  pub each : (i : ℕ) → i < length choices → IsChoice shape (choice_at choices i)

-- the branches lie under these numbers of splits
abbrev pub LieAt : Shape → List (List Choice) → List ℕ → Type 0
LieAt shape [] [] = Unit {0}
LieAt shape [] (depth ∷ depths) = ⊥
LieAt shape (choices ∷ branches) [] = ⊥
LieAt shape (choices ∷ branches) (depth ∷ depths) = AreChoicesAt shape choices depth × LieAt shape branches depths

-- the places solve the choices of one of the branches
abbrev pub SolveOne : Shape → Places → List (List Choice) → Type 0
SolveOne shape places [] = ⊥
SolveOne shape places (choices ∷ branches) = Solves shape choices places ⊎ SolveOne shape places branches

-- one more choice
one_deeper : (shape : Shape) (choices : List Choice) (depth s t side : ℕ) → AreChoicesAt shape choices depth →
    IsPair shape s t → side < 4 → AreChoicesAt shape (with_choice choices s t side) (suc depth)
one_deeper shape choices depth s t side at pair few = record {
  long = let long = length-append choices (record { s = s; t = t; side = side } ∷ []) in let is = at.long in omega (arith, long, is);
  each = λ i inside. by_order i inside (cases_lt i (length choices));
}
  where
    by_order : (i : ℕ) → i < length (with_choice choices s t side) → (i < length choices) ⊎ (length choices ≤ i) →
        IsChoice shape (choice_at (with_choice choices s t side) i)
    by_order i inside (inl before) =
        subst (λ (choice : Choice). IsChoice shape choice)
        (sym (get_or_append_left choices (record { s = s; t = t; side = side } ∷ []) (record { s = 0; t = 0; side = 0 }) i before)) (at.each i before)
    by_order i inside (inr behind) =
        let long = length-append choices (record { s = s; t = t; side = side } ∷ []) in
        let is : i ≡ length choices = omega (arith, inside, behind, long) in
        subst (λ (choice : Choice). IsChoice shape choice)
        (sym (get_or_push choices (record { s = s; t = t; side = side }) (record { s = 0; t = 0; side = 0 }) i (sym is))) (record { pair = pair; side = few })

module _ (shape : Shape) (places drawn : Places) where
  -- one of the four sides of a pair is solved
  one_of_four : (choices : List Choice) (branches : List (List Choice)) (s t side : ℕ) → side < 4 →
      Solves shape (with_choice choices s t side) drawn → SolveOne shape drawn (children_of choices s t ++ branches)
  one_of_four choices branches s t zero few solves = inl solves
  one_of_four choices branches s t (suc zero) few solves = inr (inl solves)
  one_of_four choices branches s t (suc (suc zero)) few solves = inr (inr (inl solves))
  one_of_four choices branches s t (suc (suc (suc zero))) few solves = inr (inr (inr (inl solves)))
  one_of_four choices branches s t (suc (suc (suc (suc side)))) few solves = absurd (omega arith)

  -- a later branch stays when the entry at hand opens some
  later : (node : CertNode) (choices : List Choice) (branches : List (List Choice)) → SolveOne shape drawn branches →
      SolveOne shape drawn (opened_by node choices ++ branches)
  later (Split s t) choices branches rest = inr (inr (inr (inr rest)))
  later (Bound x y) choices branches rest = rest
  later (Cycle axis arcs) choices branches rest = rest

  -- the branches that an entry opens lie one split deeper
  lie_deeper : (node : CertNode) (choices : List Choice) (branches : List (List Choice)) (depth : ℕ) (depths : List ℕ) →
      IsGoodEntry shape choices places node → AreChoicesAt shape choices depth → LieAt shape branches depths →
      LieAt shape (opened_by node choices ++ branches) (depths_opened node depth ++ depths)
  lie_deeper (Split s t) choices branches depth depths pair at rest = (
    one_deeper shape choices depth s t 0 at pair (omega arith),
    (
      one_deeper shape choices depth s t 1 at pair (omega arith),
      (one_deeper shape choices depth s t 2 at pair (omega arith), (one_deeper shape choices depth s t 3 at pair (omega arith), rest)),
    ),
  )
  lie_deeper (Bound x y) choices branches depth depths good at rest = rest
  lie_deeper (Cycle axis arcs) choices branches depth depths good at rest = rest

  module _ (sound : IsSound shape) (fits : length places.xy ≡ shape.plan.vertices) (drawing : IsDrawing shape drawn) (from_zero : IsFromZero drawn)
      (before : IsBefore (key_of total_length shape drawn) (key_of total_length shape places)) where
    -- a drawing that comes before the answer solves the choices of no bound and of no cycle, and takes a side of a split
    goes_on : (node : CertNode) (choices : List Choice) (branches : List (List Choice)) → IsGoodEntry shape choices places node →
        Fit shape choices → Solves shape choices drawn → SolveOne shape drawn (opened_by node choices ++ branches)
    goes_on (Split s t) choices branches pair fit solves =
        let side = side_in_drawing shape drawn s t drawing pair in
        one_of_four choices branches s t side.0 side.1 (solves_one_more shape choices drawn s t side.0 solves side.2)
    goes_on (Bound x y) choices branches good fit solves =
        absurd (none_at_bound shape choices sound fit (flows_of shape choices x y) good.balanced places fits good.bounds drawn solves from_zero before)
    goes_on (Cycle axis arcs) choices branches good fit solves =
        absurd (none_at_cycle shape choices sound fit axis arcs good drawn solves)

    none_left : (nodes : List CertNode) (branches : List (List Choice)) (depths : List ℕ) → LieAt shape branches depths →
        AreShallow MOST_CHOICES depths nodes → AreGood shape places branches nodes → SolveOne shape drawn branches → ⊥
    none_left [] [] depths lie shallow good solves = solves
    none_left [] (choices ∷ branches) depths lie shallow good solves = good
    none_left (node ∷ nodes) [] depths lie shallow good solves = good
    none_left (node ∷ nodes) (choices ∷ branches) [] lie shallow good solves = lie
    none_left (node ∷ nodes) (choices ∷ branches) (depth ∷ depths) lie shallow good (inl solves) =
        let fit : Fit shape choices = record { few = (let is = lie.0.long in let low = shallow.0 in omega (arith, is, low)); each = lie.0.each } in
        none_left nodes (opened_by node choices ++ branches) (depths_opened node depth ++ depths)
        (lie_deeper node choices branches depth depths good.0 lie.0 lie.1) shallow.1 good.1
        (goes_on node choices branches good.0 fit solves)
    none_left (node ∷ nodes) (choices ∷ branches) (depth ∷ depths) lie shallow good (inr rest) =
        none_left nodes (opened_by node choices ++ branches) (depths_opened node depth ++ depths)
        (lie_deeper node choices branches depth depths good.0 lie.0 lie.1) shallow.1 good.1
        (later node choices branches rest)

-- every drawing with the ways of the pieces solves no choices at all
solves_none : (shape : Shape) (drawn : Places) → IsDrawing shape drawn → Solves shape [] drawn
solves_none shape drawn drawing = record {
  places_fit = drawing.crossing_free.places_fit;
  ways = drawing.crossing_free.ways;
  sides = λ i inside. absurd (omega (arith, inside));
}

pub accepted_best : (shape : Shape) (places : Places) (nodes : List CertNode) → IsSound shape →
    IsShallow MOST_CHOICES nodes → Accepts shape places nodes → IsBest total_length shape places
accepted_best shape places nodes sound shallow accepts = record {
  drawing = accepts.drawing;
  from_zero = accepts.from_zero;
  none_before = λ other drawing from_zero before.
      none_left shape places other sound accepts.drawing.crossing_free.places_fit drawing from_zero before nodes ([] ∷ []) (0 ∷ [])
      (record { long = refl; each = λ i inside. absurd (omega (arith, inside)) }, tt) shallow accepts.entries
      (inl (solves_none shape other drawing));
}

-- and what is no deeper than a certificate that is made
pub made_best : (shape : Shape) (places : Places) (nodes : List CertNode) → IsSound shape →
    IsShallow MOST_SPLITS nodes → Accepts shape places nodes → IsBest total_length shape places
made_best shape places nodes sound shallow accepts =
    accepted_best shape places nodes sound (shallower_from MOST_SPLITS MOST_CHOICES nodes (0 ∷ []) (omega arith) shallow) accepts
