-- The seats of pieces: how they are made and put in order, and what a sweep over them shows.
use Rattle.std.proofs.Math.Seq.{take-append_seam}
use Rattle.std.proofs.Common.{◌≡◌, ℕ, ℤ, ◌+◌, ◌<◌, ◌≤◌, ◌<ℤ◌, ◌≤ℤ◌, true, false, List, [], ◌∷◌, ◌++◌, length, take, slice_index_or, Option, Some, None, ◌⊎◌, inl, inr, subst, sym, ap, refl, ◌∙◌, arith}
use Rattle.std.proofs.Common.{Ordering, Less, Equal, Greater}
use Rattle.std.specs.Option.{unwrap_or}
use Rattle.std.specs.Ordering.{MatchOrdering, is_lt, int_cmp, nat_cmp}
use Rattle.std.specs.Cmp.{int_ranks}
use Rattle.std.specs.List.{AllZip, Contains, range_with_len}
use Rattle.std.specs.List.Sorted.{IsPermutation, IsSortedByKey}
use Rattle.std.proofs.lemmas.Bool.{cases_lt, cases_order}
use Rattle.std.proofs.lemmas.Cmp.{int_cmp_total}
use Rattle.std.proofs.lemmas.Int.{ints}
use Rattle.std.proofs.lemmas.List.{length_push, get_or_push, get_or_append_left, get_or_default}
use Rattle.std.proofs.lemmas.List.Elements.{AllZip-get_or, All-from_get_or, All-get_or, Contains-get_or}
use Rattle.std.proofs.lemmas.List.FromFn.{get_or-range_with_len, length-range_with_len}
use Rattle.std.proofs.lemmas.List.MinMax.{ranks_by}
use Rattle.std.proofs.lemmas.List.Sorted.{All-permutation, Contains-permutation, sorted_far}
use Rattle.std.proofs.lemmas.Slice.Zip.{AllZip-long}
use Rattle.rayon.specs.Lists.{IsLeast}
use Rattle.rayon.proofs.ToStd.{IsLeast-All}
use Rattle.compact_types.specs.declared.places.Axis.{Axis}
use Rattle.compact_types.specs.declared.places.Point.{Point}
use Rattle.compact_types.specs.declared.places.Places.{Places}
use Rattle.compact_types.specs.declared.plan.Piece.{Piece}
use Rattle.compact_types.specs.declared.plan.Plan.{Plan}
use Rattle.compact_types.specs.Lookups.{along, piece_at, EndsAreVertices}
use Rattle.drawing_check.specs.declared.seats.Seat.{Seat}
use Rattle.drawing_check.specs.inner.Collisions.{IsOn, SharesAllowed}
use Rattle.drawing_check.specs.inner.Partners.{IsApart, ArePiecesApart}
use Rattle.drawing_check.specs.inner.Seats.{no_seat, seat_at, IsPlaced, HasItsPiece, AreSeatsOfPieces, SeatsBeginInOrder, CanSweep, AreSeats, AreApartBelow, IsApartUpTo}
use Rattle.drawing_check.proofs.MeetingLemmas.{apart_from_pieces, may_share_turned}

-- one of two numbers that is not less than the other
from_ranks : (r : Ordering) (x y : ℤ) → MatchOrdering r (x <ℤ y) (x ≡ y) (y <ℤ x) → is_lt r ≡ false → y ≤ℤ x
from_ranks Less x y less not_less = absurd (let e : true ≡ false = not_less in cc)
from_ranks Equal x y same not_less = omega (arith, ints, same)
from_ranks Greater x y more not_less = omega (arith, ints, more)

-- seats sorted by where their spans begin
pub order_from_sort : (seats : List Seat) → IsSortedByKey (λ (seat : Seat). seat.span.low) int_cmp seats → SeatsBeginInOrder seats
order_from_sort seats sorted j k before within =
    from_ranks (int_cmp (seat_at seats k).span.low (seat_at seats j).span.low) _ _ (int_ranks (seat_at seats k).span.low (seat_at seats j).span.low)
    (sorted_far (λ (x y : Seat). is_lt (int_cmp x.span.low y.span.low)) (ranks_by int_cmp_total (λ (seat : Seat). seat.span.low)) seats sorted j k no_seat (omega arith) within)

-- one seat more
pub numbered_one_more : (axis : Axis) (points : List Point) (pieces : List Piece) (n : ℕ) (seats more : List Seat) (seat : Seat) → more ≡ seats ++ seat ∷ [] →
    seat.number ≡ n → seat.covered.piece ≡ piece_at pieces n → IsPlaced axis points seat → AreSeatsOfPieces axis points pieces n seats →
    AreSeatsOfPieces axis points pieces (n + 1) more
numbered_one_more axis points pieces n seats more seat is number piece placed before = record {
  one_for_each = ap length is ∙ length_push seats seat ∙ ap (λ (m : ℕ). m + 1) before.one_for_each;
  number = λ k inside. at (λ (s : Seat). s.number ≡ k) k inside (before.number k) (λ same. number ∙ same);
  own = λ k inside. at (HasItsPiece pieces) k inside (before.own k) (λ same. piece ∙ ap (piece_at pieces) (sym number));
  placed = λ k inside. at (IsPlaced axis points) k inside (before.placed k) (λ same. placed);
}
  where
    at : (P : Seat → Type 0) (k : ℕ) → k < n + 1 → (k < n → P (seat_at seats k)) → (n ≡ k → P seat) → P (seat_at more k)
    at P k inside earlier here = by_order (cases_lt k n)
      where
        by_order : (k < n) ⊎ (n ≤ k) → P (seat_at more k)
        by_order (inl less) =
            subst P (sym (ap (λ (l : List Seat). seat_at l k) is ∙ get_or_append_left seats (seat ∷ []) no_seat k (omega (arith, less, before.one_for_each)))) (earlier less)
        by_order (inr more') =
            let same : n ≡ k = omega (arith, inside, more') in
            subst P (sym (ap (λ (l : List Seat). seat_at l k) is ∙ get_or_push seats seat no_seat k (before.one_for_each ∙ same))) (here same)

module _ (axis : Axis) (points : List Point) (pieces : List Piece) (before after : List Seat) (moved : IsPermutation before after)
    (numbered : AreSeatsOfPieces axis points pieces (length pieces) before) where
  -- what holds of each seat holds of each once they are in order
  kept : (P : Seat → Type 0) → ((k : ℕ) → k < length pieces → P (seat_at before k)) → (k : ℕ) → k < length after → P (seat_at after k)
  kept P each k within =
      All-get_or P after k no_seat within
      (All-permutation P before after moved (All-from_get_or P before no_seat (λ i inside. each i (omega (arith, inside, numbered.one_for_each)))))

  -- each piece has its seat
  found : (i : ℕ) → Contains after (seat_at before i) → i < length pieces → (k : ℕ) × (k < length after) × ((seat_at after k).number ≡ i)
  found i stands inside = (
    stands.0,
    stands.1,
    ap (λ (seat : Seat). seat.number) (get_or_default after stands.0 no_seat (seat_at before i) stands.1 ∙ stands.2) ∙ numbered.number i inside,
  )

  -- the seats of all pieces, in order
  pub seats_in_order : SeatsBeginInOrder after → AreSeats points pieces after
  seats_in_order in_order = record {
    can_sweep = record { axis = axis; placed = kept (IsPlaced axis points) numbered.placed; in_order = in_order };
    own = kept (HasItsPiece pieces) numbered.own;
    each = λ i inside.
        found i (Contains-permutation before after (seat_at before i) moved (Contains-get_or before i no_seat (omega (arith, inside, numbered.one_for_each)))) inside;
  }

-- pieces of which one ends before the other begins share no point
pub apart_beyond : (axis : Axis) (points : List Point) (a b : Seat) → IsPlaced axis points a → IsPlaced axis points b → a.span.high <ℤ b.span.low →
    SharesAllowed points a.covered.piece b.covered.piece
apart_beyond axis points a b first second beyond z on_first on_second =
    let ends = (first.spanned z ((first.covered z).0 on_first)).1 in
    let begins = (second.spanned z ((second.covered z).0 on_second)).0 in
    absurd (omega (arith, ints, beyond, ends, begins))

-- so a seat is apart from all that begin no sooner
pub apart_from_rest : (points : List Point) (seats : List Seat) (place last n : ℕ) → CanSweep points seats → place < length seats → last < length seats →
    (seat_at seats place).span.high <ℤ (seat_at seats last).span.low → IsApartUpTo points seats place last n → IsApartUpTo points seats place (length seats) n
apart_from_rest points seats place last n sweep here there beyond before k after inside = by_order (cases_lt k last)
  where
    begins : (last ≡ k) ⊎ ((last < k) ⊎ (k < last)) → last ≤ k → (seat_at seats place).span.high <ℤ (seat_at seats k).span.low
    begins (inl same) not_less = subst (λ (i : ℕ). (seat_at seats place).span.high <ℤ (seat_at seats i).span.low) same beyond
    begins (inr (inl later)) not_less = let order = sweep.in_order last k later inside in omega (arith, ints, beyond, order)
    begins (inr (inr sooner)) not_less = absurd (omega (arith, sooner, not_less))

    by_order : (k < last) ⊎ (last ≤ k) → AreApartBelow points n (seat_at seats place) (seat_at seats k)
    by_order (inl less) = before k after less
    by_order (inr more) = λ below.
        apart_beyond sweep.axis points (seat_at seats place) (seat_at seats k) (sweep.placed place here) (sweep.placed k inside) (begins (cases_order last k) more)

-- what holds below a number holds below a lesser one
pub apart_below_less : (points : List Point) (m n : ℕ) (a b : Seat) → m ≤ n → AreApartBelow points n a b → AreApartBelow points m a b
apart_below_less points m n a b less apart (inl first) = apart (inl (omega (arith, less, first)))
apart_below_less points m n a b less apart (inr second) = apart (inr (omega (arith, less, second)))

-- one seat more
pub apart_one_later : (points : List Point) (seats : List Seat) (place last m n : ℕ) → m ≤ n → IsApartUpTo points seats place last n →
    AreApartBelow points m (seat_at seats place) (seat_at seats last) → IsApartUpTo points seats place (last + 1) m
apart_one_later points seats place last m n less before here k after inside = by_order (cases_lt k last)
  where
    by_order : (k < last) ⊎ (last ≤ k) → AreApartBelow points m (seat_at seats place) (seat_at seats k)
    by_order (inl earlier) = apart_below_less points m n (seat_at seats place) (seat_at seats k) less (before k after earlier)
    by_order (inr later) =
        let same : last ≡ k = omega (arith, inside, later) in
        subst (λ (i : ℕ). AreApartBelow points m (seat_at seats place) (seat_at seats i)) same here

-- two pieces that are apart are so the other way round
apart_turned : (plan : Plan) (places : Places) (p q : ℕ) → IsApart plan places p q → IsApart plan places q p
apart_turned plan places p q apart z on_first on_second = may_share_turned plan places p q z (apart z on_second on_first)

module _ (plan : Plan) (places : Places) (seats : List Seat) (n : ℕ) (are : AreSeats places.xy plan.pieces seats)
    (apart : (k : ℕ) → k < length seats → IsApartUpTo places.xy seats k (length seats) n) where
  -- the pieces of two seats
  of_seats : (p q j k : ℕ) → j < length seats → k < length seats → (seat_at seats j).number ≡ p → (seat_at seats k).number ≡ q →
      SharesAllowed places.xy (seat_at seats j).covered.piece (seat_at seats k).covered.piece → IsApart plan places p q
  of_seats p q j k first second is_first is_second =
      apart_from_pieces plan places p q places.xy (seat_at seats j).covered.piece (seat_at seats k).covered.piece refl
      (are.own j first ∙ ap (piece_at plan.pieces) is_first) (are.own k second ∙ ap (piece_at plan.pieces) is_second)

  -- where each seat is apart from those after it, as far as its piece or theirs is one of the first n,
  -- so is each of the first n pieces from all that follow it
  pub all_apart : ArePiecesApart plan places n
  all_apart = record { apart = λ p q below order inside. by_seats p q below order (are.each p (omega (arith, order, inside))) (are.each q inside) }
    where
      by_seats : (p q : ℕ) → p < n → p < q → (j : ℕ) × (j < length seats) × ((seat_at seats j).number ≡ p) →
          (k : ℕ) × (k < length seats) × ((seat_at seats k).number ≡ q) → IsApart plan places p q
      by_seats p q below order first second = by_order (cases_order first.0 second.0)
        where
          by_order : (first.0 ≡ second.0) ⊎ ((first.0 < second.0) ⊎ (second.0 < first.0)) → IsApart plan places p q
          by_order (inl same) =
              let one : (seat_at seats first.0).number ≡ (seat_at seats second.0).number = ap (λ (k : ℕ). (seat_at seats k).number) same in
              absurd (omega (arith, one, order, first.2, second.2))
          by_order (inr (inl before)) =
              of_seats p q first.0 second.0 first.1 second.1 first.2 second.2
              (apart first.0 first.1 second.0 before second.1 (inl (omega (arith, below, first.2))))
          by_order (inr (inr behind)) =
              apart_turned plan places q p
              (of_seats q p second.0 first.0 second.1 first.1 second.2 first.2
              (apart second.0 second.1 first.0 behind first.1 (inr (omega (arith, below, first.2)))))

-- so it is with the least of the numbers that the seats show
pub apart_from_least : (plan : Plan) (places : Places) (points : List Point) (seats : List Seat) (xs ys : List ℕ) (found : Option ℕ) (most n : ℕ) →
    points ≡ places.xy → AreSeats places.xy plan.pieces seats → xs ≡ range_with_len 0 (length seats) →
    AllZip (λ place m. IsApartUpTo points seats place (length seats) m) xs ys → IsLeast nat_cmp ys found → n ≡ unwrap_or found most → ArePiecesApart plan places n
apart_from_least plan places points seats xs ys found most n at_places are listed each least is = all_apart plan places seats n are (at found least is)
  where
    shown : ℕ → ℕ → Type 0
    shown place m = IsApartUpTo points seats place (length seats) m

    long : length ys ≡ length seats
    long = AllZip-long shown xs ys each ∙ ap length listed ∙ length-range_with_len 0 (length seats)

    at : (o : Option ℕ) → IsLeast nat_cmp ys o → n ≡ unwrap_or o most → (k : ℕ) → k < length seats → IsApartUpTo places.xy seats k (length seats) n
    at None none lesser k inside = absurd (omega (arith, inside, long, ap length none))
    at (Some m) least_of lesser k inside =
        let in_list : k < length ys = omega (arith, inside, long) in
        let own = AllZip-get_or shown xs ys k 0 0 each (omega (arith, inside, ap length listed, length-range_with_len 0 (length seats))) in
        let from_zero : 0 + k ≡ k = omega arith in
        let place = ap (λ (l : List ℕ). slice_index_or l k 0) listed ∙ get_or-range_with_len 0 (length seats) k 0 inside ∙ from_zero in
        let here = subst (λ (p : ℕ). IsApartUpTo points seats p (length seats) (slice_index_or ys k 0)) place own in
        let moved = subst (λ (l : List Point). IsApartUpTo l seats k (length seats) (slice_index_or ys k 0)) at_places here in
        let all = IsLeast-All ys (Some m) least_of k 0 in_list in
        let less : n ≤ slice_index_or ys k 0 = omega (arith, all, lesser) in
        λ later after within. apart_below_less places.xy n (slice_index_or ys k 0) (seat_at seats k) (seat_at seats later) less (moved later after within)

-- the ends of the pieces that the code read are vertices
pub ends_inside : (plan : Plan) (places : Places) (pieces : List Piece) (points : List Point) → pieces ≡ plan.pieces → points ≡ places.xy →
    length places.xy ≡ plan.vertices → EndsAreVertices (length points) pieces
ends_inside plan places pieces points same_pieces same_points fit =
    subst (λ (l : List Piece). EndsAreVertices (length points) l) (sym same_pieces)
    (subst (λ (n : ℕ). EndsAreVertices n plan.pieces) (sym fit ∙ ap length (sym same_points)) plan.ends)

-- what was lent whole comes back whole
pub lent_whole : (n : ℕ) (after rest : List Seat) → n ≡ length after → take n (after ++ rest) ≡ after
lent_whole n after rest is = ap (λ (m : ℕ). take m (after ++ rest)) is ∙ take-append_seam after rest

-- the seats of the pieces that the code read
pub seats_as_read : (axis : Axis) (plan : Plan) (places : Places) (pieces : List Piece) (points : List Point) (before after : List Seat) → pieces ≡ plan.pieces → points ≡ places.xy →
    IsPermutation before after → AreSeatsOfPieces axis points pieces (length pieces) before → SeatsBeginInOrder after → AreSeats places.xy plan.pieces after
seats_as_read axis plan places pieces points before after same_pieces same_points moved numbered in_order =
    subst (λ (l : List Piece). AreSeats places.xy l after) same_pieces
    (subst (λ (l : List Point). AreSeats l pieces after) same_points (seats_in_order axis points pieces before after moved numbered in_order))
