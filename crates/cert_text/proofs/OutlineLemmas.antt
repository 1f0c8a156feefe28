-- A certificate goes on, entry by entry.
use Rattle.std.proofs.Common.{◌≡◌, ℕ, suc, ◌+◌, ◌-◌, ◌*◌, ◌^◌, ◌<◌, ◌≤◌, List, [], ◌∷◌, ◌++◌, length, refl, ap, sym, ◌∙◌, subst, arith, append_assoc, length-append}
use Rattle.std.specs.Prelude.{All}
use Rattle.std.proofs.Math.Nat.{one-le-pow, pow-le-pow_right, pow-succ'}
use Rattle.std.proofs.lemmas.List.{append-nil, get_or_append_left, get_or_push}
use Rattle.std.proofs.lemmas.List.Elements.{All-append, All-cons, All-nil}
use Rattle.compact_types.specs.declared.search.Choice.{Choice}
use Rattle.compact_types.specs.declared.search.Flows.{Flows}
use Rattle.compact_types.specs.Bests.Objective.{total_length}
use Rattle.bars.specs.Segments.{IsPair}
use Rattle.bars.specs.Solutions.{with_choice}
use Rattle.bars.proofs.Laws.{few_segments}
use Rattle.shape_graphs.specs.Backings.{DoBack}
use Rattle.board.specs.declared.entries.Settled.TheVariants as settled
use Rattle.board.specs.declared.standings.Standing.TheVariants.{Done}
use Rattle.board.specs.Boards.{BoardView, board_state}
use Rattle.board.specs.Facts.{AreFacts}
use Rattle.board.specs.Histories.{State, HasChildren, branch_count, children_of, choices_of, open_count_of, standing_of}
use Rattle.board.proofs.Laws.{few_choices_of, first_choices, some_branch, splits_have_children, splits_name_a_pair}
use Rattle.cert_text.specs.declared.tree.CertNode.{CertNode}
use Rattle.cert_text.specs.declared.tree.CertNode.TheVariants.{Split}
use Rattle.cert_text.specs.declared.trimming.TheConstants.{MOST_SPLITS}
use Rattle.cert_text.specs.Accepting.{opened_by}
use Rattle.cert_text.specs.Trims.{AreEntriesOf, IsSplitStill}
use Rattle.cert_text.specs.inner.Outlines.{AreRight, BeginsCertificate, IsFurther, IsRightEntry, ids_to_come, to_come, work_waiting}

-- the last branches of a stack are to come before the others
to_come-append : (state : State) (front ids : List ℕ) (later : List (List Choice)) →
    to_come state (front ++ ids) later ≡ to_come state ids (to_come state front later)
to_come-append state [] ids later = refl
to_come-append state (id ∷ front) ids later = to_come-append state front ids (choices_of state id ∷ later)

ids_to_come-append : (front ids later : List ℕ) → ids_to_come (front ++ ids) later ≡ ids_to_come ids (ids_to_come front later)
ids_to_come-append [] ids later = refl
ids_to_come-append (id ∷ front) ids later = ids_to_come-append front ids (id ∷ later)

work-append : (count : ℕ) (front ids : List ℕ) → work_waiting count (front ++ ids) ≡ work_waiting count front + work_waiting count ids
work-append count [] ids = omega arith
work-append count (id ∷ front) ids = let rest = work-append count front ids in omega (arith, rest)

-- four branches with greater numbers are less to do
four_less : (count id a b c d : ℕ) → id < count → id < a → id < b → id < c → id < d →
    work_waiting count (a ∷ b ∷ c ∷ d ∷ []) < 5 ^ (count - id)
four_less count id a b c d below to_a to_b to_c to_d =
    let next : count - id ≡ suc (count - suc id) = omega (arith, below) in
    let power : 5 ^ (count - id) ≡ 5 * 5 ^ (count - suc id) = ap (λ (n : ℕ). 5 ^ n) next ∙ pow-succ' 5 (count - suc id) in
    let some = one-le-pow (count - suc id) 5 (omega arith) in
    let at_a = low a to_a in
    let at_b = low b to_b in
    let at_c = low c to_c in
    let at_d = low d to_d in
    omega (arith, power, some, at_a, at_b, at_c, at_d)
  where
    low : (x : ℕ) → id < x → 5 ^ (count - x) ≤ 5 ^ (count - suc id)
    low x behind = pow-le-pow_right {n = 5} (omega arith) (omega (arith, behind))

-- the branch that is last on a stack is one of those before the count
last_inside : (count : ℕ) (front : List ℕ) (id : ℕ) → All (λ (n : ℕ). n < count) (front ++ id ∷ []) → (id < count) × All (λ (n : ℕ). n < count) front
last_inside count front id all = (
  (
      let long = length_front in
      let is = get_or_push front id 0 (length front) refl in
      let here = all (length front) 0 (omega (arith, long)) in
      omega (arith, is, here)
      ),
  λ k d inside. (
      let long = length_front in
      let is = get_or_append_left front (id ∷ []) d k inside in
      let here = all k d (omega (arith, long, inside)) in
      omega (arith, is, here)
      ),
)
  where
    length_front : length (front ++ id ∷ []) ≡ length front + 1
    length_front = length-append front (id ∷ [])

module _ (board : BoardView Flows) (nodes : List CertNode) (waiting : List ℕ) (id : ℕ) (begun : BeginsCertificate board nodes (waiting ++ id ∷ [])) where
  abbrev state : State
  state = board_state board

  pub below : id < branch_count state
  below = (last_inside (branch_count state) waiting id begun.inside).0

  pub few : length (choices_of state id) ≤ MOST_SPLITS
  few = few_choices_of board.shape (choices_of state id) begun.facts.shape (begun.facts.choices id below)

  -- with a right entry and right ones for what it opens the certificate goes on
  goes_on_by : (node : CertNode) (ids : List ℕ) → IsRightEntry board.shape (choices_of state id) board.incumbent.places node →
      to_come state ids (to_come state waiting []) ≡ opened_by node (choices_of state id) ++ to_come state waiting [] →
      (rest : List CertNode) → AreRight board.shape board.incumbent.places (to_come state (waiting ++ ids) []) rest →
      AreRight board.shape board.incumbent.places ([] ∷ []) ((nodes ++ node ∷ []) ++ rest)
  goes_on_by node ids entry opens rest right =
      subst (λ (l : List CertNode). AreRight board.shape board.incumbent.places ([] ∷ []) l) (sym (append_assoc nodes (node ∷ []) rest))
      (begun.goes_on (node ∷ rest)
      (subst (λ (branches : List (List Choice)). AreRight board.shape board.incumbent.places branches (node ∷ rest))
      (sym (to_come-append state waiting (id ∷ []) [])) (
        entry,
        subst (λ (branches : List (List Choice)). AreRight board.shape board.incumbent.places branches rest)
            (to_come-append state waiting ids [] ∙ opens) right,
      )))

  -- with this entry of the branch and those of the branches to come, the certificate has those of all branches
  entries_go_on_by : (node : CertNode) (rest : List CertNode) → AreEntriesOf board (id ∷ ids_to_come waiting []) (node ∷ rest) →
      AreEntriesOf board (0 ∷ []) ((nodes ++ node ∷ []) ++ rest)
  entries_go_on_by node rest entries =
      subst (λ (l : List CertNode). AreEntriesOf board (0 ∷ []) l) (sym (append_assoc nodes (node ∷ []) rest))
      (begun.entries_go_on (node ∷ rest)
      (subst (λ (ids : List ℕ). AreEntriesOf board ids (node ∷ rest)) (sym (ids_to_come-append waiting (id ∷ []) [])) entries))

  -- the branch is closed
  pub closed_further : (node : CertNode) → IsRightEntry board.shape (choices_of state id) board.incumbent.places node →
      opened_by node (choices_of state id) ≡ [] →
      ((ids : List ℕ) (rest : List CertNode) → AreEntriesOf board ids rest → AreEntriesOf board (id ∷ ids) (node ∷ rest)) →
      IsFurther board (nodes ++ node ∷ []) waiting (waiting ++ id ∷ [])
  closed_further node entry none closes = record {
    begun = record {
      facts = begun.facts;
      none_open = begun.none_open;
      inside = (last_inside (branch_count state) waiting id begun.inside).1;
      goes_on = λ rest right.
          goes_on_by node [] entry (ap (λ (o : List (List Choice)). o ++ to_come state waiting []) (sym none)) rest
          (subst (λ (l : List ℕ). AreRight board.shape board.incumbent.places (to_come state l []) rest) (sym (append-nil waiting)) right);
      entries_go_on = λ rest entries. entries_go_on_by node rest (closes (ids_to_come waiting []) rest entries);
    };
    less =
        let some = one-le-pow (branch_count state - id) 5 (omega arith) in
        let work = work-append (branch_count state) waiting (id ∷ []) in
        omega (arith, some, work);
  }

  module _ (first s t : ℕ) (done : standing_of state id ≡ Done (settled.Split first s t)) where
    abbrev four : List ℕ
    four = (first + 3) ∷ (first + 2) ∷ (first + 1) ∷ first ∷ []

    children : HasChildren state id first s t
    children = splits_have_children board.entries id first s t begun.facts.legal below done

    pair : IsPair board.shape s t
    pair = (splits_name_a_pair total_length DoBack board id first s t begun.facts below done 0 (omega arith)).pair

    split_right : IsRightEntry board.shape (choices_of state id) board.incumbent.places (Split s t)
    split_right =
        let in_order = pair.in_order in
        let in_shape = pair.in_shape in
        let segments = few_segments board.shape begun.facts.shape.drawable in
        let vertices = begun.facts.shape.few_vertices in
        record {
          good = pair;
          in_range = (omega (arith, in_order, in_shape, segments, vertices), omega (arith, in_shape, segments, vertices));
          few = few;
        }

    side_zero : choices_of state first ≡ with_choice (choices_of state id) s t 0
    side_zero =
        let here : first ≡ first + 0 = omega arith in
        ap (choices_of state) here ∙ children.choices 0 (omega arith)

    opens : (later : List (List Choice)) → to_come state four later ≡ children_of (choices_of state id) s t ++ later
    opens later =
        let one = children.choices 1 (omega arith) in
        let two = children.choices 2 (omega arith) in
        let three = children.choices 3 (omega arith) in
        let zeroth = side_zero in
        λ i. zeroth i ∷ one i ∷ two i ∷ three i ∷ later

    -- the branch is split
    pub split_further : IsSplitStill board id first s t → IsFurther board (nodes ++ Split s t ∷ []) (waiting ++ four) (waiting ++ id ∷ [])
    split_further still =
        let behind = children.behind in
        let within = children.within in
        let inside : ℕ → Type 0 = λ n. n < branch_count state in
        record {
          begun = record {
            facts = begun.facts;
            none_open = begun.none_open;
            inside = All-append inside waiting four (last_inside (branch_count state) waiting id begun.inside).1
                (All-cons inside (first + 3) ((first + 2) ∷ (first + 1) ∷ first ∷ []) (omega (arith, within))
                (All-cons inside (first + 2) ((first + 1) ∷ first ∷ []) (omega (arith, within))
                (All-cons inside (first + 1) (first ∷ []) (omega (arith, within)) (All-cons inside first [] (omega (arith, within)) (All-nil inside)))));
            goes_on = goes_on_by (Split s t) four split_right (opens (to_come state waiting []));
            entries_go_on = λ rest entries. entries_go_on_by (Split s t) rest
                (first, (still, subst (λ (ids : List ℕ). AreEntriesOf board ids rest) (ids_to_come-append waiting four []) entries));
          };
          less =
              let here = below in
              let work = work-append (branch_count state) waiting (id ∷ []) in
              let now = work-append (branch_count state) waiting four in
              let less = four_less (branch_count state) id (first + 3) (first + 2) (first + 1) first here
              (omega (arith, behind)) (omega (arith, behind)) (omega (arith, behind)) behind in
              omega (arith, work, now, less);
        }

-- the same of lists that are equal to these
pub further_at : (board : BoardView Flows) (nodes nodes' : List CertNode) (waiting waiting' : List ℕ) (id : ℕ) → BeginsCertificate board nodes (waiting ++ id ∷ []) →
    (first s t : ℕ) → IsSplitStill board id first s t → nodes' ≡ nodes ++ Split s t ∷ [] →
    waiting' ≡ waiting ++ (first + 3) ∷ (first + 2) ∷ (first + 1) ∷ first ∷ [] → IsFurther board nodes' waiting' (waiting ++ id ∷ [])
further_at board nodes nodes' waiting waiting' id begun first s t still is_nodes is_waiting =
    subst (λ (l : List CertNode). IsFurther board l waiting' (waiting ++ id ∷ [])) (sym is_nodes)
    (subst (λ (l : List ℕ). IsFurther board (nodes ++ Split s t ∷ []) l (waiting ++ id ∷ [])) (sym is_waiting)
    (split_further board nodes waiting id begun first s t still.split still))

-- the certificate begins with branch 0, which has no choices
begun_first : (board : BoardView Flows) → AreFacts total_length DoBack board → open_count_of (board_state board) ≡ 0 → BeginsCertificate board [] (0 ∷ [])
begun_first board facts none = record {
  facts = facts;
  none_open = none;
  inside = All-cons (λ (n : ℕ). n < branch_count (board_state board)) 0 [] (some_branch board.entries) (All-nil (λ (n : ℕ). n < branch_count (board_state board)));
  goes_on = λ rest right.
      subst (λ (choices : List Choice). AreRight board.shape board.incumbent.places (choices ∷ []) rest) (first_choices board.entries) right;
  entries_go_on = λ rest entries. entries;
}

-- the same of lists that are equal to these
pub begun_at : (board : BoardView Flows) → AreFacts total_length DoBack board → open_count_of (board_state board) ≡ 0 → (nodes : List CertNode) →
    nodes ≡ [] → (waiting : List ℕ) → waiting ≡ 0 ∷ [] → BeginsCertificate board nodes waiting
begun_at board facts none nodes is_nodes waiting is_waiting =
    subst (λ (l : List CertNode). BeginsCertificate board l waiting) (sym is_nodes)
    (subst (λ (l : List ℕ). BeginsCertificate board [] l) (sym is_waiting) (begun_first board facts none))
