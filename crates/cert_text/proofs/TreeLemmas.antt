-- A certificate whose entries are all right.
use Rattle.std.proofs.Common.{◌≡◌, ℕ, suc, ◌+◌, List, [], ◌∷◌, ◌++◌, length, refl, ap, sym, ◌∙◌, subst, arith, length-append}
use Rattle.std.specs.Prelude.{All, Some}
use Rattle.std.proofs.lemmas.List.{append-nil}
use Rattle.std.proofs.lemmas.List.Elements.{All-cons, All-nil}
use Rattle.compact_types.specs.declared.places.Places.{Places}
use Rattle.compact_types.specs.declared.plan.Shape.{Shape}
use Rattle.compact_types.specs.declared.search.Choice.{Choice}
use Rattle.compact_types.specs.declared.search.Flows.{Flows}
use Rattle.board.specs.Boards.{BoardView}
use Rattle.cert_text.specs.declared.tree.CertNode.{CertNode}
use Rattle.cert_text.specs.declared.tree.CertNode.TheVariants.{Split, Bound, Cycle}
use Rattle.cert_text.specs.declared.trimming.TheConstants.{MOST_SPLITS}
use Rattle.cert_text.specs.Accepting.{Accepts, AreGood, IsGoodEntry, opened_by}
use Rattle.cert_text.specs.Loads.{HasArc, IsCertTree, IsInRange}
use Rattle.cert_text.specs.Trees.{AreShallow, IsShallow, branches_of, depths_opened, left_after}
use Rattle.cert_text.specs.Trims.{AreEntriesOf}
use Rattle.cert_text.specs.inner.Outlines.{AreRight, BeginsCertificate}

-- the branches have so many choices
abbrev HaveDepths : List (List Choice) → List ℕ → Type 0
HaveDepths [] [] = Unit {0}
HaveDepths [] (depth ∷ depths) = ⊥
HaveDepths (choices ∷ branches) [] = ⊥
HaveDepths (choices ∷ branches) (depth ∷ depths) = (length choices ≡ depth) × HaveDepths branches depths

opened_deeper : (node : CertNode) (choices : List Choice) (branches : List (List Choice)) (depth : ℕ) (depths : List ℕ) →
    length choices ≡ depth → HaveDepths branches depths → HaveDepths (opened_by node choices ++ branches) (depths_opened node depth ++ depths)
opened_deeper (Split s t) choices branches depth depths is rest =
    (one_more 0, (one_more 1, (one_more 2, (one_more 3, rest))))
  where
    one_more : (side : ℕ) → length (choices ++ record { s = s; t = t; side = side } ∷ []) ≡ suc depth
    one_more side = let long = length-append choices (record { s = s; t = t; side = side } ∷ []) in omega (arith, long, is)
opened_deeper (Bound x y) choices branches depth depths is rest = rest
opened_deeper (Cycle axis arcs) choices branches depth depths is rest = rest

pub opened_count : (node : CertNode) (choices : List Choice) (branches : List (List Choice)) →
    length (opened_by node choices ++ branches) ≡ branches_of node + length branches
opened_count (Split s t) choices branches = omega arith
opened_count (Bound x y) choices branches = omega arith
opened_count (Cycle axis arcs) choices branches = omega arith

good_arc : (shape : Shape) (choices : List Choice) (places : Places) (node : CertNode) → IsGoodEntry shape choices places node → HasArc node
good_arc shape choices places (Split s t) good = tt
good_arc shape choices places (Bound x y) good = tt
good_arc shape choices places (Cycle axis arcs) good = good.some

module _ (shape : Shape) (places : Places) where
  are_good : (branches : List (List Choice)) (nodes : List CertNode) → AreRight shape places branches nodes → AreGood shape places branches nodes
  are_good [] [] right = tt
  are_good [] (node ∷ nodes) right = right
  are_good (choices ∷ branches) [] right = right
  are_good (choices ∷ branches) (node ∷ nodes) right = (right.0.good, are_good (opened_by node choices ++ branches) nodes right.1)

  none_left : (branches : List (List Choice)) (nodes : List CertNode) → AreRight shape places branches nodes → left_after (length branches) nodes ≡ Some 0
  none_left [] [] right = refl
  none_left [] (node ∷ nodes) right = absurd right
  none_left (choices ∷ branches) [] right = absurd right
  none_left (choices ∷ branches) (node ∷ nodes) right =
      ap (λ (n : ℕ). left_after n nodes) (sym (opened_count node choices branches)) ∙ none_left (opened_by node choices ++ branches) nodes right.1

  are_shallow : (branches : List (List Choice)) (depths : List ℕ) (nodes : List CertNode) → HaveDepths branches depths → AreRight shape places branches nodes →
      AreShallow MOST_SPLITS depths nodes
  are_shallow branches depths [] have right = tt
  are_shallow branches [] (node ∷ nodes) have right = tt
  are_shallow [] (depth ∷ depths) (node ∷ nodes) have right = absurd right
  are_shallow (choices ∷ branches) (depth ∷ depths) (node ∷ nodes) have right = (
    let few = right.0.few in let is = have.0 in omega (arith, few, is),
    are_shallow (opened_by node choices ++ branches) (depths_opened node depth ++ depths) nodes
        (opened_deeper node choices branches depth depths have.0 have.1) right.1,
  )

  are_in_range : (branches : List (List Choice)) (nodes : List CertNode) → AreRight shape places branches nodes → All IsInRange nodes
  are_in_range branches [] right = All-nil IsInRange
  are_in_range [] (node ∷ nodes) right = absurd right
  are_in_range (choices ∷ branches) (node ∷ nodes) right =
      All-cons IsInRange node nodes right.0.in_range (are_in_range (opened_by node choices ++ branches) nodes right.1)

  have_arcs : (branches : List (List Choice)) (nodes : List CertNode) → AreRight shape places branches nodes → All HasArc nodes
  have_arcs branches [] right = All-nil HasArc
  have_arcs [] (node ∷ nodes) right = absurd right
  have_arcs (choices ∷ branches) (node ∷ nodes) right =
      All-cons HasArc node nodes (good_arc shape choices places node right.0.good) (have_arcs (opened_by node choices ++ branches) nodes right.1)

-- where no branch is to come, the certificate is finished
finished : (board : BoardView Flows) (nodes : List CertNode) (waiting : List ℕ) → length waiting ≡ 0 → BeginsCertificate board nodes waiting →
    AreRight board.shape board.incumbent.places ([] ∷ []) nodes
finished board nodes [] none begun =
    subst (λ (l : List CertNode). AreRight board.shape board.incumbent.places ([] ∷ []) l) (append-nil nodes) (begun.goes_on [] tt)
finished board nodes (id ∷ waiting) none begun = absurd (omega (arith, none))

-- and it has the entries of all branches
pub made_entries : (board : BoardView Flows) (nodes : List CertNode) (waiting : List ℕ) → length waiting ≡ 0 → BeginsCertificate board nodes waiting →
    AreEntriesOf board (0 ∷ []) nodes
made_entries board nodes [] none begun =
    subst (λ (l : List CertNode). AreEntriesOf board (0 ∷ []) l) (append-nil nodes) (begun.entries_go_on [] tt)
made_entries board nodes (id ∷ waiting) none begun = absurd (omega (arith, none))

module _ (board : BoardView Flows) (nodes : List CertNode) (waiting : List ℕ) (none : length waiting ≡ 0) (begun : BeginsCertificate board nodes waiting) where
  all_right : AreRight board.shape board.incumbent.places ([] ∷ []) nodes
  all_right = finished board nodes waiting none begun

  -- the certificate of an empty stack is accepted
  pub made_accepted : (shape : Shape) → board.shape ≡ shape → Accepts shape board.incumbent.places nodes
  made_accepted shape same =
      subst (λ (s : Shape). Accepts s board.incumbent.places nodes) same
      (record {
        drawing = begun.facts.incumbent.drawing;
        from_zero = begun.facts.incumbent.from_zero;
        entries = are_good board.shape board.incumbent.places ([] ∷ []) nodes all_right;
      })

  -- its text can be written
  pub made_tree : IsCertTree nodes
  made_tree = record {
    whole = none_left board.shape board.incumbent.places ([] ∷ []) nodes all_right;
    in_range = are_in_range board.shape board.incumbent.places ([] ∷ []) nodes all_right;
    arcs = have_arcs board.shape board.incumbent.places ([] ∷ []) nodes all_right;
  }

  -- and its entries are shallow
  pub made_shallow : IsShallow MOST_SPLITS nodes
  made_shallow = are_shallow board.shape board.incumbent.places ([] ∷ []) (0 ∷ []) nodes (refl, tt) all_right
