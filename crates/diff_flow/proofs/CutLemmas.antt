-- Marked nodes of a graph, and what crosses from the others to them.
use Rattle.std.proofs.Common.{◌≡◌, ℕ, zero, suc, ◌<◌, ◌≤◌, inl, inr, ℤ, pos, refl, sym, ap, ◌∙◌, arith, min}
use Rattle.std.specs.Prelude.{◌+ℤ◌, ◌*ℤ◌, ◌≤ℤ◌, ◌-ℤ◌}
use Rattle.std.proofs.lemmas.Int.{ints}
use Rattle.std.proofs.lemmas.Bool.{cases_lt}
use lib.IntN.{*ℤ-zero, zero-*ℤ}
use Rattle.compact_types.specs.Sums.{sum_to}
use Rattle.compact_types.proofs.Laws.{sum_to-same, sum_to-scale, sum_to-exchange, sum_to-not_greater, sum_to-add}
use Rattle.shape_graphs.specs.Flows.{at_node}
use Rattle.compact_types.proofs.Laws.{times-le_pos}
use Rattle.diff_flow.proofs.SignedLemmas.{times_suc, same_terms}
use Rattle.diff_flow.proofs.Duality.{arc_share}

-- what comes in at a node minus what goes out, by the ends of so many arcs
abbrev pub net_of : (ℕ → ℕ) → (ℕ → ℕ) → ℕ → (ℕ → ℕ) → ℕ → ℤ
net_of from to m x node = sum_to (λ i. at_node (to i) node (pos (x i)) -ℤ at_node (from i) node (pos (x i))) m

-- 1 where marked, else 0
abbrev one : ℕ → ℤ
one mark = pos (min 1 mark)

times_none : (x : ℕ) (d : ℤ) → d ≡ pos 0 → pos x *ℤ d ≡ pos 0
times_none x d e = ap (λ (z : ℤ). pos x *ℤ z) e ∙ *ℤ-zero (pos x)

times_one : (x : ℕ) (d : ℤ) → d ≡ pos 1 → pos x *ℤ d ≡ pos x
times_one zero d e = zero-*ℤ d
times_one (suc x) d e = omega (arith, ints, times_suc x d, times_one x d e, e)

one_none : (k : ℕ) (z : ℤ) → k ≡ 0 → one k *ℤ z ≡ pos 0
one_none k z e = let f : one k ≡ pos 0 = omega (arith, ints, e) in ap (λ (y : ℤ). y *ℤ z) f ∙ zero-*ℤ z

one_some : (k : ℕ) (z : ℤ) → 0 < k → one k *ℤ z ≡ z
one_some k z some =
    let f : one k ≡ pos 1 = omega (arith, ints, some) in
    ap (λ (y : ℤ). y *ℤ z) f ∙ single z
  where
    single : (z : ℤ) → pos 1 *ℤ z ≡ z
    single z = omega (arith, ints, times_suc 0 z, zero-*ℤ z)

times_minus : (x : ℕ) (d : ℤ) → d ≡ pos 0 -ℤ pos 1 → pos x *ℤ d ≡ pos 0 -ℤ pos x
times_minus zero d e = omega (arith, ints, zero-*ℤ d)
times_minus (suc x) d e = omega (arith, ints, times_suc x d, times_minus x d e, e)

-- what the arc adds where the marks of its ends differ
arc_term : (x y a b : ℕ) → (0 < a → b ≡ 0 → y ≤ x) → (a ≡ 0 → 0 < b → x ≤ y) → (pos x *ℤ (one b -ℤ one a)) ≤ℤ (pos y *ℤ (one b -ℤ one a))
arc_term x y a b leaves enters =
    elim (cases_lt 0 a) [
      | inl some ↦ elim (cases_lt 0 b) [
        | inl both ↦
            let d : one b -ℤ one a ≡ pos 0 = omega (arith, ints, some, both) in
            omega (arith, ints, times_none x _ d, times_none y _ d)
        | inr no_b ↦
            let d : one b -ℤ one a ≡ pos 0 -ℤ pos 1 = omega (arith, ints, some, no_b) in
            let less = leaves some (omega arith) in
            omega (arith, ints, times_minus x _ d, times_minus y _ d, less)
      ]
      | inr none ↦ elim (cases_lt 0 b) [
        | inl in_b ↦
            let d : one b -ℤ one a ≡ pos 1 = omega (arith, ints, none, in_b) in
            let less = enters (omega arith) in_b in
            omega (arith, ints, times_one x _ d, times_one y _ d, less)
        | inr no_b ↦
            let d : one b -ℤ one a ≡ pos 0 = omega (arith, ints, none, no_b) in
            omega (arith, ints, times_none x _ d, times_none y _ d)
      ]
    ]

arc_none : (x a b : ℕ) → (0 < a → 0 < b) → pos 0 ≤ℤ (pos x *ℤ (one b -ℤ one a))
arc_none x a b leaves =
    let least = arc_term 0 x a b (λ some none. absurd (omega (arith, leaves some, none))) (λ none some. omega arith) in
    omega (arith, ints, least, zero-*ℤ (one b -ℤ one a))

arc_most : (x a b : ℕ) → (pos x *ℤ (one b -ℤ one a)) ≤ℤ pos x
arc_most x a b =
    let d : (one b -ℤ one a) ≤ℤ pos 1 = omega (arith, ints) in
    omega (arith, ints, times-le_pos x _ _ d, times_one x (pos 1) refl)

node_term : (k : ℕ) (a b : ℤ) → (0 < k → a ≤ℤ b) → (one k *ℤ a) ≤ℤ (one k *ℤ b)
node_term k a b less =
    elim (cases_lt 0 k) [
      | inl some ↦ omega (arith, ints, one_some k a some, one_some k b some, less some)
      | inr none ↦ let e : k ≡ 0 = omega arith in omega (arith, ints, one_none k a e, one_none k b e)
    ]

node_more : (k c : ℕ) (a b : ℤ) → a ≤ℤ (b +ℤ pos c) → (one k *ℤ a) ≤ℤ (one k *ℤ b +ℤ pos c)
node_more k c a b less =
    elim (cases_lt 0 k) [
      | inl some ↦ omega (arith, ints, one_some k a some, one_some k b some, less)
      | inr none ↦ let e : k ≡ 0 = omega arith in omega (arith, ints, one_none k a e, one_none k b e)
    ]

-- a term of a sum without negative terms
one_term : (f : ℕ → ℤ) (n i : ℕ) → i < n → ((j : ℕ) → j < n → pos 0 ≤ℤ f j) → (f i) ≤ℤ (sum_to f n)
one_term f zero i inside least = absurd (omega arith)
one_term f (suc n) i inside least =
    let here = least n (omega arith) in
    elim (cases_lt i n) [
      | inl before ↦ omega (arith, ints, here, one_term f n i before (λ j below. least j (omega arith)))
      | inr beyond ↦
          let place : i ≡ n = omega arith in
          rw place (omega (arith, ints, not_negative f n (λ j below. least j (omega arith))))
    ]
  where
    not_negative : (f : ℕ → ℤ) (n : ℕ) → ((j : ℕ) → j < n → pos 0 ≤ℤ f j) → pos 0 ≤ℤ sum_to f n
    not_negative f zero least = omega (arith, ints)
    not_negative f (suc n) least = omega (arith, ints, least n (omega arith), not_negative f n (λ j below. least j (omega arith)))

module _ (nodes m : ℕ) (from to : ℕ → ℕ) (ends : (i : ℕ) → i < m → (from i < nodes) × (to i < nodes)) where
  -- the sum over the arcs is the sum over the nodes
  gather_ends : (p c : ℕ → ℤ) → sum_to (λ i. c i *ℤ (p (to i) -ℤ p (from i))) m
      ≡ sum_to (λ v. p v *ℤ sum_to (λ i. at_node (to i) v (c i) -ℤ at_node (from i) v (c i)) m) nodes
  gather_ends p c =
      sym
      (sum_to-same _ _ nodes (λ v inside. sym (sum_to-scale (p v) (share v) m))
      ∙ sum_to-exchange (λ v i. p v *ℤ share v i) m nodes
      ∙ sum_to-same _ _ m (λ i inside. arc_share p (to i) (from i) (c i) nodes (ends i inside).1 (ends i inside).0))
    where
      share : ℕ → ℕ → ℤ
      share v i = at_node (to i) v (c i) -ℤ at_node (from i) v (c i)

  -- Excess among the marked nodes, none of which lacks, leaves them: some arc out of them carries less than it could, or
  -- some arc into them more.
  pub cut_by : (x y over want mark : ℕ → ℕ) (start : ℕ) →
      ((v : ℕ) → v < nodes → net_of from to m x v +ℤ pos (want v) ≡ net_of from to m y v +ℤ pos (over v)) →
      start < nodes → 0 < mark start → 0 < over start →
      ((v : ℕ) → v < nodes → 0 < mark v → want v ≡ 0) →
      ((i : ℕ) → i < m → 0 < mark (from i) → mark (to i) ≡ 0 → y i ≤ x i) →
      ((i : ℕ) → i < m → mark (from i) ≡ 0 → 0 < mark (to i) → x i ≤ y i) → ⊥
  cut_by x y over want mark start balance start_in marked some lacks leaves enters =
      let by_x = gather_ends (λ v. one (mark v)) (λ i. pos (x i)) in
      let by_y = gather_ends (λ v. one (mark v)) (λ i. pos (y i)) in
      let arcs_less = sum_to-not_greater _ _ m (λ i inside.
      arc_term (x i) (y i) (mark (from i)) (mark (to i)) (leaves i inside) (enters i inside)) in
      let nodes_less = sum_to-not_greater _ _ nodes each in
      let equal : sum_to (λ v. one (mark v) *ℤ net_of from to m y v) nodes ≡ sum_to (λ v. one (mark v) *ℤ net_of from to m x v) nodes =
      omega (arith, ints, by_x, by_y, arcs_less, nodes_less) in
      let here = same_terms _ _ nodes each equal start start_in in
      let a = one_some (mark start) (net_of from to m x start) marked in
      let b = one_some (mark start) (net_of from to m y start) marked in
      let none = lacks start start_in marked in
      let is = balance start start_in in
      omega (arith, ints, here, a, b, none, is, some)
    where
      each : (v : ℕ) → v < nodes → (one (mark v) *ℤ net_of from to m y v) ≤ℤ (one (mark v) *ℤ net_of from to m x v)
      each v inside = node_term (mark v) _ _ (λ some. let is = balance v inside in let none = lacks v inside some in omega (arith, ints, is, none))

  -- Excess among the marked nodes, none of which lacks, leaves over an arc or came over one into them.
  pub cut : (x y over want mark : ℕ → ℕ) (start : ℕ) →
      ((v : ℕ) → v < nodes → net_of from to m x v +ℤ pos (want v) ≡ net_of from to m y v +ℤ pos (over v)) →
      start < nodes → 0 < mark start → 0 < over start →
      ((v : ℕ) → v < nodes → 0 < mark v → want v ≡ 0) →
      ((i : ℕ) → i < m → 0 < mark (from i) → 0 < mark (to i)) →
      ((i : ℕ) → i < m → 0 < x i → 0 < mark (to i) → 0 < mark (from i)) → ⊥
  cut x y over want mark start balance start_in marked some lacks leaves enters =
      cut_by x y over want mark start balance start_in marked some lacks
      (λ i inside in_from out_to. absurd (omega (arith, leaves i inside in_from, out_to)))
      (λ i inside out in_to. elim (cases_lt 0 (x i)) [
        | inl more ↦ absurd (omega (arith, enters i inside more in_to, out))
        | inr none ↦ omega arith
      ])

  -- What an arc carries into marked nodes that no arc leaves is at most what the others carry there, and more.
  pub carried : (x y more mark : ℕ → ℕ) (i : ℕ) →
      ((v : ℕ) → v < nodes → net_of from to m x v ≤ℤ (net_of from to m y v +ℤ pos (more v))) →
      i < m → mark (from i) ≡ 0 → 0 < mark (to i) →
      ((j : ℕ) → j < m → 0 < mark (from j) → 0 < mark (to j)) →
      pos (x i) ≤ℤ (sum_to (λ j. pos (y j)) m +ℤ sum_to (λ v. pos (more v)) nodes)
  carried x y more mark i balance inside out into leaves =
      let by_x = gather_ends (λ v. one (mark v)) (λ j. pos (x j)) in
      let by_y = gather_ends (λ v. one (mark v)) (λ j. pos (y j)) in
      let d : one (mark (to i)) -ℤ one (mark (from i)) ≡ pos 1 = omega (arith, ints, out, into) in
      let here = one_term (λ j. pos (x j) *ℤ (one (mark (to j)) -ℤ one (mark (from j)))) m i inside
      (λ j j_in. arc_none (x j) (mark (from j)) (mark (to j)) (leaves j j_in)) in
      let is = times_one (x i) _ d in
      let nodes_less = sum_to-not_greater _ (λ v. one (mark v) *ℤ net_of from to m y v +ℤ pos (more v)) nodes
      (λ v v_in. node_more (mark v) (more v) _ _ (balance v v_in)) in
      let parts = sum_to-add (λ v. one (mark v) *ℤ net_of from to m y v) (λ v. pos (more v)) nodes in
      let arcs_less = sum_to-not_greater _ (λ j. pos (y j)) m (λ j j_in. arc_most (y j) (mark (from j)) (mark (to j))) in
      omega (arith, ints, by_x, by_y, here, is, nodes_less, parts, arcs_less)
