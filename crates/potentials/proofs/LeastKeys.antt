-- Choices whose graphs have no cycle have a least key.
use Rattle.std.proofs.Common.{◌≡◌, ℕ, zero, suc, ◌+◌, ◌-◌, ◌*◌, ◌<◌, ◌≤◌, ◌⊎◌, inl, inr, ℤ, pos, List, [], length, slice_index_or, refl, sym, ap, ◌∙◌, arith}
use Rattle.std.specs.Prelude.{◌+ℤ◌, ◌-ℤ◌, ◌*ℤ◌, ◌≤ℤ◌, negsuc}
use Rattle.std.proofs.lemmas.Int.{ints, clamps, by_lt_z}
use Rattle.std.proofs.Math.IntN.{*ℤ-zero}
use Rattle.compact_types.specs.declared.places.Axis.{Axis}
use Rattle.compact_types.specs.declared.places.Axis.TheVariants.{X, Y}
use Rattle.compact_types.specs.declared.places.Key.{Key}
use Rattle.compact_types.specs.declared.places.Places.{Places}
use Rattle.compact_types.specs.declared.plan.Shape.{Shape}
use Rattle.compact_types.specs.declared.search.Choice.{Choice}
use Rattle.compact_types.specs.Bests.{key_of, worth_of}
use Rattle.compact_types.specs.Bests.Objective.{total_length}
use Rattle.compact_types.specs.Drawings.{IsFromZero}
use Rattle.compact_types.specs.Magnitudes.{IsNowhereNegative}
use Rattle.compact_types.specs.Lookups.{other_axis}
use Rattle.compact_types.proofs.Laws.{sum_to-same, sum_to-not_greater, sum_to-nothing, times-le_pos}
use Rattle.bars.specs.Segments.{node_of, node_count}
use Rattle.bars.specs.Solutions.{IsSound, Fit, Solves}
use Rattle.bars.proofs.Laws.{line_below}
use Rattle.shape_graphs.specs.declared.graph.Arc.{Arc}
use Rattle.shape_graphs.specs.Arcs.{arc_at, AreGraph}
use Rattle.shape_graphs.specs.Flows.{IsSolution, length_over, over}
use Rattle.shape_graphs.specs.Graphs.{arcs_of}
use Rattle.shape_graphs.specs.Measures.{HaveNoCycle, IsLeastKey, AreNowhereAbove}
use Rattle.shape_graphs.specs.Paths.{HasCycle}
use Rattle.shape_graphs.proofs.Laws.{places_by, places_by_fit, along_places_by}
use Rattle.diff_flow.specs.Shortest.{IsShortest, lesser}
use Rattle.diff_flow.proofs.Laws.{closed, closed_most, closed_slow}
use Rattle.diff_flow.proofs.Laws.{shortest_meet}
use Rattle.diff_flow.proofs.Laws.{nat, nat_is, tight_without_gaps}
use Rattle.potentials.specs.Standing.{StandAt}
use Rattle.potentials.proofs.FlowBounds.{low_numbers, low_numbers_tight}
use Rattle.potentials.proofs.LengthLemmas.{length_is}
use Rattle.potentials.proofs.LeastWeights.{IsInBox, least_that, decide_all, zero_or_none, heights, same_heights, listed, listed_at, listed_in_box}
use Rattle.potentials.proofs.NodePlaces.{node_taken, own_numbers, stand_at_own, stands, solution_from, solves_from}
use Rattle.potentials.proofs.TightKeys.{graph_of}

-- how far below zero a number is
away : ℤ → ℕ
away (pos n) = 0
away (negsuc n) = suc n

away_is : (z : ℤ) → pos 0 ≤ℤ (z +ℤ pos (away z))
unfolding away
away_is (pos n) = omega (arith, ints)
away_is (negsuc n) = omega (arith, ints)

-- numbers of any sign, raised so far that none is negative
raised_by : (p : ℕ → ℤ) (n : ℕ) → (k : ℕ) × ((v : ℕ) → v < n → pos 0 ≤ℤ (p v +ℤ pos k))
raised_by p zero = (0, λ v below. absurd (omega (arith, below)))
raised_by p (suc n) = more (raised_by p n)
  where
    more : (k : ℕ) × ((v : ℕ) → v < n → pos 0 ≤ℤ (p v +ℤ pos k)) → (k : ℕ) × ((v : ℕ) → v < suc n → pos 0 ≤ℤ (p v +ℤ pos k))
    more found = (
      found.0 + away (p n),
      λ v below. elim (Rattle.std.proofs.lemmas.Bool.cases_lt v n) [
        | inl less ↦ (let is = found.1 v less in omega (arith, ints, is))
        | inr last ↦ (
            let same : v ≡ n = omega (arith, last, below) in
            let is : pos 0 ≤ℤ (p n +ℤ pos (away (p n))) = away_is (p n) in
            rw same (omega (arith, ints, is)))
      ],
    )

-- the numbers of a list
abbrev numbers_of : List ℕ → ℕ → ℤ
numbers_of list v = pos (slice_index_or list v 0)

module _ (nodes : ℕ) (arcs : List Arc) (graph : AreGraph nodes arcs) where
  -- numbers that are the same on all nodes
  same_solution : (p q : ℕ → ℤ) → ((v : ℕ) → v < nodes → p v ≡ q v) → IsSolution arcs p → IsSolution arcs q
  same_solution p q same solution i inside =
      let ends = graph.ends i inside in
      let a = same (arc_at arcs i).from ends.0 in
      let b = same (arc_at arcs i).to ends.1 in
      let step = solution i inside in
      omega (arith, ints, a, b, step)

  same_length : (p q : ℕ → ℤ) → ((v : ℕ) → v < nodes → p v ≡ q v) → length_over arcs p ≡ length_over arcs q
  same_length p q same = sum_to-same _ _ (length arcs) (λ i inside. (
      let ends = graph.ends i inside in
      let a = same (arc_at arcs i).from ends.0 in
      let b = same (arc_at arcs i).to ends.1 in
      let step : over arcs p i ≡ over arcs q i = omega (arith, ints, a, b) in
      ap (λ (z : ℤ). (arc_at arcs i).pull *ℤ z) step))

  -- a sum by arcs whose differences are no greater
  pub shorter : (p q : ℕ → ℤ) → ((i : ℕ) → i < length arcs → (over arcs p i) ≤ℤ (over arcs q i)) → (length_over arcs p) ≤ℤ (length_over arcs q)
  shorter p q low = sum_to-not_greater _ _ (length arcs) (λ i inside. (
      let is = graph.within i inside in
      let pull = nat_is (arc_at arcs i).pull is.some_pull in
      rw pull at (times-le_pos (nat (arc_at arcs i).pull) (over arcs p i) (over arcs q i) (low i inside))))

  length_from_zero : (p : ℕ → ℤ) → IsSolution arcs p → pos 0 ≤ℤ (length_over arcs p)
  length_from_zero p solution =
      let none : length_over arcs (λ v. pos 0) ≡ pos 0 =
      sum_to-same _ _ (length arcs) (λ i inside. *ℤ-zero (arc_at arcs i).pull) ∙ sum_to-nothing (length arcs) in
      let low = shorter (λ v. pos 0) p (λ i inside. (
      let step = solution i inside in
      let some = (graph.within i inside).some_least in
      omega (arith, ints, step, some))) in
      omega (arith, ints, none, low)

  abbrev most : ℕ
  most = (nodes - 1) * 1000

  least_low : (i : ℕ) → i < length arcs → (arc_at arcs i).least ≤ℤ pos 1000
  least_low i inside = let high = (graph.within i inside).most_least in omega (arith, ints, high)

  -- the numbers of a solution without a negative one, with their gaps closed
  abbrev closed_of : (ℕ → ℤ) → ℕ → ℕ
  closed_of p v = closed 1000 (λ u. nat (p u)) nodes (nat (p v))

  module _ (p : ℕ → ℤ) (solution : IsSolution arcs p) (from_zero : (v : ℕ) → v < nodes → pos 0 ≤ℤ (p v)) where
    closed_solution : IsSolution arcs (λ v. pos (closed_of p v))
    closed_solution = (tight_without_gaps nodes 1000 arcs [] p graph.ends graph.within least_low (record {
      from_zero = from_zero;
      solution = solution;
      tight = λ i inside some. absurd (omega (arith, some));
    })).solution

    closed_shorter : (length_over arcs (λ v. pos (closed_of p v))) ≤ℤ (length_over arcs p)
    closed_shorter = shorter (λ v. pos (closed_of p v)) p (λ i inside. (
        let ends = graph.ends i inside in
        let a = nat_is (p (arc_at arcs i).from) (from_zero _ ends.0) in
        let b = nat_is (p (arc_at arcs i).to) (from_zero _ ends.1) in
        let step = solution i inside in
        let some = (graph.within i inside).some_least in
        let low : nat (p (arc_at arcs i).from) ≤ nat (p (arc_at arcs i).to) = omega (arith, ints, a, b, step, some) in
        let there : nat (p (arc_at arcs i).from) + (nat (p (arc_at arcs i).to) - nat (p (arc_at arcs i).from)) ≡ nat (p (arc_at arcs i).to) = omega (arith, low) in
        let slow = rw there at (closed_slow 1000 (λ u. nat (p u)) nodes (nat (p (arc_at arcs i).from)) (nat (p (arc_at arcs i).to) - nat (p (arc_at arcs i).from))) in
        omega (arith, ints, a, b, low, slow)))

  -- a list of small numbers that is no longer than a solution
  record IsNoLonger (p : ℕ → ℤ) (list : List ℕ) : Type 0 where
    box : IsInBox nodes most list
    solution : IsSolution arcs (numbers_of list)
    short : (length_over arcs (numbers_of list)) ≤ℤ (length_over arcs p)

  no_longer : (p : ℕ → ℤ) → IsSolution arcs p → (list : List ℕ) × IsNoLonger p list
  no_longer p solution =
      let up = raised_by p nodes in
      let q : ℕ → ℤ = λ v. p v +ℤ pos up.0 in
      let kept : IsSolution arcs q = λ i inside. (let step = solution i inside in omega (arith, ints, step)) in
      let f : ℕ → ℕ = closed_of q in
      let is : (v : ℕ) → v < nodes → pos (f v) ≡ numbers_of (listed f nodes) v = λ v inside. ap pos (sym (listed_at f nodes v inside)) in
      let long = same_length (λ v. pos (f v)) (numbers_of (listed f nodes)) is in
      let short = closed_shorter q kept up.1 in
      let same : (length_over arcs q) ≤ℤ (length_over arcs p) = shorter q p (λ i inside. omega (arith, ints)) in (
        listed f nodes,
        record {
          box = listed_in_box f nodes most (λ v inside. (let low = closed_most 1000 (λ u. nat (q u)) nodes v inside in omega (arith, low)));
          solution = same_solution (λ v. pos (f v)) (numbers_of (listed f nodes)) is (closed_solution q kept up.1);
          short = omega (arith, ints, long, short, same);
        },
      )

  solution_decided : (list : List ℕ) → IsSolution arcs (numbers_of list) ⊎ (IsSolution arcs (numbers_of list) → ⊥)
  solution_decided list = decide_all (λ i. (arc_at arcs i).least ≤ℤ (over arcs (numbers_of list) i)) each (length arcs)
    where
      each : (i : ℕ) → ((arc_at arcs i).least ≤ℤ (over arcs (numbers_of list) i)) ⊎ (((arc_at arcs i).least ≤ℤ (over arcs (numbers_of list) i)) → ⊥)
      each i = by_lt_z (over arcs (numbers_of list) i) (arc_at arcs i).least
          (λ less. inr (λ kept. omega (arith, ints, less, kept)))
          (λ not_less. inl (omega (arith, ints)))

  -- a shortest solution, and none of the same length without a negative number is lower anywhere
  pub record AreLowest (numbers : ℕ → ℤ) : Type 0 where
    pub from_zero : (v : ℕ) → v < nodes → pos 0 ≤ℤ (numbers v)
    pub shortest : IsShortest arcs numbers
    pub lowest : (others : ℕ → ℤ) → IsShortest arcs others → ((v : ℕ) → v < nodes → pos 0 ≤ℤ (others v)) →
        (v : ℕ) → v < nodes → (numbers v) ≤ℤ (others v)

  module _ (none : HasCycle arcs → ⊥) where
    -- a list with the least length
    shortest_list : (list : List ℕ) × IsShortest arcs (numbers_of list) × IsInBox nodes most list
    shortest_list =
        let start = no_longer (low_numbers nodes arcs graph none) (low_numbers_tight nodes arcs graph none).solution in
        let found = least_that nodes most (λ list. IsSolution arcs (numbers_of list)) solution_decided
        (λ list. nat (length_over arcs (numbers_of list))) start.0 start.1.box start.1.solution in (
          found.0,
          record {
            solution = found.2;
            shortest = λ others solution.
                let close = no_longer others solution in
                let low = found.3 close.0 close.1.box close.1.solution in
                let a = nat_is (length_over arcs (numbers_of found.0)) (length_from_zero (numbers_of found.0) found.2) in
                let b = nat_is (length_over arcs (numbers_of close.0)) (length_from_zero (numbers_of close.0) close.1.solution) in
                let short = close.1.short in
                omega (arith, ints, low, a, b, short);
          },
          found.1,
        )

    -- solutions as short as that one
    abbrev IsShort : List ℕ → Type 0
    IsShort list = IsSolution arcs (numbers_of list) × ((length_over arcs (numbers_of list)) ≤ℤ (length_over arcs (numbers_of shortest_list.0)))

    short_decided : (list : List ℕ) → IsShort list ⊎ (IsShort list → ⊥)
    short_decided list = both (solution_decided list)
        (by_lt_z (length_over arcs (numbers_of shortest_list.0)) (length_over arcs (numbers_of list))
        (λ less. inr (λ kept. omega (arith, ints, less, kept))) (λ not_less. inl (omega (arith, ints))))
      where
        both : {A B : Type 0} → A ⊎ (A → ⊥) → B ⊎ (B → ⊥) → (A × B) ⊎ (A × B → ⊥)
        both (inl a) (inl b) = inl (a, b)
        both (inl a) (inr b) = inr (λ two. b two.1)
        both (inr a) (inl b) = inr (λ two. a two.0)
        both (inr a) (inr b) = inr (λ two. a two.0)

    is_shortest : (list : List ℕ) → IsShort list → IsShortest arcs (numbers_of list)
    is_shortest list short = record {
      solution = short.0;
      shortest = λ others solution.
          let low = shortest_list.1.shortest others solution in
          let is = short.1 in
          omega (arith, ints, low, is);
    }

    -- a shortest solution in the box as a list
    short_list : (p : ℕ → ℤ) → IsShortest arcs p → ((v : ℕ) → v < nodes → pos 0 ≤ℤ (p v)) → ((v : ℕ) → v < nodes → (p v) ≤ℤ pos most) →
        IsInBox nodes most (listed (λ v. nat (p v)) nodes) × IsShort (listed (λ v. nat (p v)) nodes)
        × ((v : ℕ) → v < nodes → numbers_of (listed (λ v. nat (p v)) nodes) v ≡ p v)
    short_list p short from_zero low =
        let f : ℕ → ℕ = λ v. nat (p v) in
        let is : (v : ℕ) → v < nodes → p v ≡ numbers_of (listed f nodes) v = λ v inside.
        sym (nat_is (p v) (from_zero v inside)) ∙ ap pos (sym (listed_at f nodes v inside)) in
        let long = same_length p (numbers_of (listed f nodes)) is in
        let least = short.shortest (numbers_of shortest_list.0) shortest_list.1.solution in (
          listed_in_box f nodes most (λ v inside. (
              let same = nat_is (p v) (from_zero v inside) in
              let below = low v inside in
              omega (arith, ints, same, below))),
          (same_solution p (numbers_of (listed f nodes)) is short.solution, omega (arith, ints, long, least)),
          λ v inside. sym (is v inside),
        )

    pub lowest_numbers : (numbers : ℕ → ℤ) × AreLowest numbers
    lowest_numbers =
        let found = least_that nodes most IsShort short_decided (λ list. heights list nodes) shortest_list.0 shortest_list.2
        (shortest_list.1.solution, omega (arith, ints)) in (
          numbers_of found.0,
          record {
            from_zero = λ v inside. omega (arith, ints);
            shortest = is_shortest found.0 found.2;
            lowest = λ others short from_zero v inside.
                let both = lesser (numbers_of found.0) others in
                let listing = short_list both (shortest_meet arcs (numbers_of found.0) others (is_shortest found.0 found.2) short)
                (λ u u_in. (let a = from_zero u u_in in omega (arith, ints, clamps, a)))
                (λ u u_in. (let b = found.1.low u u_in in omega (arith, ints, clamps, b))) in
                let least = found.3 (listed (λ u. nat (both u)) nodes) listing.0 listing.1 in
                let low = same_heights found.0 (listed (λ u. nat (both u)) nodes) nodes
                (λ u u_in. (let is = listing.2 u u_in in omega (arith, ints, clamps, is))) least v inside in
                let here = listing.2 v inside in
                omega (arith, ints, clamps, low, here);
          },
        )

  -- lowest numbers begin at zero
  pub zero_taken : (numbers : ℕ → ℤ) → AreLowest numbers → 0 < nodes → (v : ℕ) × (v < nodes) × (numbers v ≡ pos 0)
  zero_taken numbers are some = by_cases (zero_or_none (λ v. nat (numbers v)) nodes)
    where
      by_cases : ((v : ℕ) × (v < nodes) × (nat (numbers v) ≡ 0)) ⊎ ((v : ℕ) → v < nodes → 0 < nat (numbers v)) →
          (v : ℕ) × (v < nodes) × (numbers v ≡ pos 0)
      by_cases (inl found) =
          let is = nat_is (numbers found.0) (are.from_zero found.0 found.1) in
          let none = found.2 in
          (found.0, found.1, omega (arith, ints, is, none))
      by_cases (inr all) =
          let lower : ℕ → ℤ = λ v. numbers v -ℤ pos 1 in
          let short : IsShortest arcs lower = record {
            solution = λ i inside. (let step = are.shortest.solution i inside in omega (arith, ints, step));
            shortest = λ others solution.
                let least = are.shortest.shortest others solution in
                let same = shorter lower numbers (λ i inside. omega (arith, ints)) in
                omega (arith, ints, least, same);
          } in
          let low = are.lowest lower short (λ v inside. (
          let is = nat_is (numbers v) (are.from_zero v inside) in
          let more = all v inside in
          omega (arith, ints, is, more))) 0 some in
          absurd (omega (arith, ints, low))

-- the places by numbers on the nodes stand at these
pub places_by_stand : (shape : Shape) (numbers : Axis → ℕ → ℤ) → StandAt shape numbers (places_by shape numbers)
places_by_stand shape numbers = record { places_fit = places_by_fit shape numbers; each = along_places_by shape numbers }

module _ (shape : Shape) (choices : List Choice) (sound : IsSound shape) (fit : Fit shape choices) where
  module _ (numbers : Axis → ℕ → ℤ)
      (are : (axis : Axis) → AreLowest (node_count axis shape) (arcs_of axis shape choices) (graph_of shape choices sound fit axis) (numbers axis)) where
    abbrev here : Places
    here = places_by shape numbers

    stand : StandAt shape numbers here
    stand = places_by_stand shape numbers

    solves : Solves shape choices here
    solves = solves_from shape choices sound.drawable fit here numbers stand (λ axis. (are axis).shortest.solution)

    worth : worth_of total_length shape here ≡ length_over (arcs_of X shape choices) (numbers X) +ℤ length_over (arcs_of Y shape choices) (numbers Y)
    worth = length_is shape choices here solves numbers stand

    from_zero : IsFromZero here
    from_zero axis =
        let fits = stand.places_fit in
        let first = line_below (other_axis axis) shape 0 sound.some_vertex in
        let found = zero_taken (node_count axis shape) (arcs_of axis shape choices) (graph_of shape choices sound fit axis) (numbers axis) (are axis)
        (omega (arith, first)) in
        let taken = node_taken axis shape found.0 found.1 in
        record {
          none_below = λ v inside.
              let vertex : v < shape.plan.vertices = omega (arith, fits, inside) in
              let is = stand.each axis v vertex in
              let low = (are axis).from_zero (node_of axis shape v) (line_below (other_axis axis) shape v vertex) in
              omega (arith, ints, is, low);
          reached = (taken.0, omega (arith, fits, taken.1), stands shape choices sound.drawable fit here numbers stand axis found.0 taken.0 taken.1 taken.2 ∙ found.2);
        }

    module _ (others : Places) (also : Solves shape choices others) where
      abbrev own : Axis → ℕ → ℤ
      own = own_numbers shape others

      own_stand : StandAt shape own others
      own_stand = stand_at_own shape others also.ways also.places_fit

      own_solution : (axis : Axis) → IsSolution (arcs_of axis shape choices) (own axis)
      own_solution = solution_from shape choices sound.drawable fit others own own_stand also

      own_worth : worth_of total_length shape others ≡ length_over (arcs_of X shape choices) (own X) +ℤ length_over (arcs_of Y shape choices) (own Y)
      own_worth = length_is shape choices others also own own_stand

      no_shorter : (axis : Axis) → (length_over (arcs_of axis shape choices) (numbers axis)) ≤ℤ (length_over (arcs_of axis shape choices) (own axis))
      no_shorter axis = (are axis).shortest.shortest (own axis) (own_solution axis)

      none_less : (worth_of total_length shape here) ≤ℤ (worth_of total_length shape others)
      none_less =
          let x = no_shorter X in
          let y = no_shorter Y in
          let a = worth in
          let b = own_worth in
          omega (arith, ints, x, y, a, b)

      as_short : worth_of total_length shape others ≡ worth_of total_length shape here → (axis : Axis) →
          (length_over (arcs_of axis shape choices) (own axis)) ≤ℤ (length_over (arcs_of axis shape choices) (numbers axis))
      as_short same X = let x = no_shorter X in let y = no_shorter Y in let a = worth in let b = own_worth in omega (arith, ints, x, y, a, b, same)
      as_short same Y = let x = no_shorter X in let y = no_shorter Y in let a = worth in let b = own_worth in omega (arith, ints, x, y, a, b, same)

      own_shortest : worth_of total_length shape others ≡ worth_of total_length shape here → (axis : Axis) → IsShortest (arcs_of axis shape choices) (own axis)
      own_shortest same axis = record {
        solution = own_solution axis;
        shortest = λ third solution.
            let low = (are axis).shortest.shortest third solution in
            let short = as_short same axis in
            omega (arith, ints, low, short);
      }

      nowhere_above : worth_of total_length shape others ≡ worth_of total_length shape here → IsNowhereNegative others → AreNowhereAbove here others
      nowhere_above same positive axis v inside =
          let fits = stand.places_fit in
          let other_fits = also.places_fit in
          let vertex : v < shape.plan.vertices = omega (arith, fits, inside) in
          let is = stand.each axis v vertex in
          let there = own_stand.each axis v vertex in
          let low = (are axis).lowest (own axis) (own_shortest same axis)
          (λ node node_in. (
          let taken = node_taken axis shape node node_in in
          let at = stands shape choices sound.drawable fit others own own_stand axis node taken.0 taken.1 taken.2 in
          let high = positive axis taken.0 (omega (arith, other_fits, taken.1)) in
          omega (arith, ints, at, high)))
          (node_of axis shape v) (line_below (other_axis axis) shape v vertex) in
          omega (arith, ints, is, there, low)

    pub places_by_least : IsLeastKey total_length shape choices (key_of total_length shape here)
    places_by_least = record {
      solves = solves;
      from_zero = from_zero;
      worth = refl;
      none_less = none_less;
      lowest = nowhere_above;
    }

  pub some_least_key : HaveNoCycle shape choices → (key : Key) × IsLeastKey total_length shape choices key
  some_least_key none =
      let found : (axis : Axis) → (numbers : ℕ → ℤ) × AreLowest (node_count axis shape) (arcs_of axis shape choices) (graph_of shape choices sound fit axis) numbers =
      λ axis. lowest_numbers (node_count axis shape) (arcs_of axis shape choices) (graph_of shape choices sound fit axis) (none axis) in
      let numbers : Axis → ℕ → ℤ = λ axis. (found axis).0 in
      (key_of total_length shape (places_by shape numbers), places_by_least numbers (λ axis. (found axis).1))
