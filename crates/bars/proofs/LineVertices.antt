-- Which vertices are in one line, and the least vertex of a line.
use Rattle.std.proofs.Common.{◌≡◌, ℕ, zero, suc, ◌<◌, ◌≤◌, ◌==◌, Bool, true, false, length, min, max, if◌then◌else◌, ◌⊎◌, inl, inr, subst, sym, ap, refl, ◌∙◌, arith}
use Rattle.std.proofs.lemmas.Bool.{cases_lt}
use Rattle.compact_types.specs.declared.places.Axis.{Axis}
use Rattle.compact_types.specs.declared.places.Axis.TheVariants.{X, Y}
use Rattle.compact_types.specs.declared.plan.Plan.{Plan}
use Rattle.compact_types.specs.declared.plan.Piece.{Piece}
use Rattle.compact_types.specs.declared.plan.Shape.{Shape}
use Rattle.compact_types.specs.Groups.{merged}
use Rattle.compact_types.specs.Lookups.{piece_at}
use Rattle.compact_types.specs.Connected.{AreJoined, IsAlong, AreInLine}
use Rattle.compact_types.specs.Connected.AreJoined.{start, forward, backward}
use Rattle.compact_types.proofs.Laws.{relabelled_is, max_and_min}
use Rattle.bars.specs.Lines.{is_axis, is_along, least_by, least_in_line}

-- joined vertices through a third
pub joined_through : (plan : Plan) (MayUse : ℕ → Type 0) (u v w : ℕ) →
    AreJoined plan MayUse u v → AreJoined plan MayUse v w → AreJoined plan MayUse u w
joined_through plan MayUse u v w first start = first
joined_through plan MayUse u v w first (forward i inside may before) = forward i inside may (joined_through plan MayUse u v _ first before)
joined_through plan MayUse u v w first (backward i inside may before) = backward i inside may (joined_through plan MayUse u v _ first before)

-- joined the other way round
pub joined_back : (plan : Plan) (MayUse : ℕ → Type 0) (v w : ℕ) → AreJoined plan MayUse v w → AreJoined plan MayUse w v
joined_back plan MayUse v w start = start
joined_back plan MayUse v w (forward i inside may before) =
    joined_through plan MayUse _ _ v (backward i inside may start) (joined_back plan MayUse v _ before)
joined_back plan MayUse v w (backward i inside may before) =
    joined_through plan MayUse _ _ v (forward i inside may start) (joined_back plan MayUse v _ before)

-- the test of an axis decides
pub is_axis_same : (a b : Axis) → is_axis a b ≡ true → a ≡ b
is_axis_same X X is = refl
is_axis_same X Y is = absurd (let e : false ≡ true = is in cc)
is_axis_same Y X is = absurd (let e : false ≡ true = is in cc)
is_axis_same Y Y is = refl

pub is_axis_other : (a b : Axis) → is_axis a b ≡ false → a ≡ b → ⊥
is_axis_other X X is same = let e : true ≡ false = is in cc
is_axis_other X Y is same = cc
is_axis_other Y X is same = cc
is_axis_other Y Y is same = let e : true ≡ false = is in cc

-- what a piece that joins two lines leaves at v
merged_is : (least : ℕ → ℕ) (piece : Piece) (v : ℕ) →
    ((least v ≡ max (least piece.from) (least piece.to)) × (merged least piece.from piece.to v ≡ min (least piece.from) (least piece.to))) ⊎
    ((least v ≡ max (least piece.from) (least piece.to) → ⊥) × (merged least piece.from piece.to v ≡ least v))
merged_is least piece v = relabelled_is least (max (least piece.from) (least piece.to)) (min (least piece.from) (least piece.to)) v

-- the numbers are the least vertices of the lines that the first n pieces join
record AreLeast (axis : Axis) (shape : Shape) (n : ℕ) (least : ℕ → ℕ) : Type 0 where
  below : (v : ℕ) → least v ≤ v
  own : (v : ℕ) → least (least v) ≡ least v
  in_line : (v : ℕ) → AreInLine axis shape v (least v)
  same : (i : ℕ) → i < n → IsAlong axis shape i → least (piece_at shape.plan.pieces i).from ≡ least (piece_at shape.plan.pieces i).to

module _ (axis : Axis) (shape : Shape) where
  abbrev Joins : ℕ → ℕ → Type 0
  Joins v w = AreInLine axis shape v w

  through : (u v w : ℕ) → Joins u v → Joins v w → Joins u w
  through u v w first second = joined_through shape.plan (IsAlong axis shape) u v w first second

  back : (v w : ℕ) → Joins v w → Joins w v
  back v w joins = joined_back shape.plan (IsAlong axis shape) v w joins

  at_end : (u v w : ℕ) → v ≡ w → Joins u v → Joins u w
  at_end u v w same joins = subst (λ (x : ℕ). Joins u x) same joins

  module _ (n : ℕ) (least : ℕ → ℕ) (inside : n < length shape.plan.pieces) (are : AreLeast axis shape n least) where
    -- without the piece nothing changes
    kept : (IsAlong axis shape n → ⊥) → AreLeast axis shape (suc n) least
    kept across = record { below = are.below; own = are.own; in_line = are.in_line; same = λ i within along. same_at i (cases_lt i n) within along }
      where
        same_at : (i : ℕ) → (i < n) ⊎ (n ≤ i) → i < suc n → IsAlong axis shape i →
            least (piece_at shape.plan.pieces i).from ≡ least (piece_at shape.plan.pieces i).to
        same_at i (inl earlier) within along = are.same i earlier along
        same_at i (inr later) within along =
            let here : i ≡ n = omega arith in absurd (across (subst (λ (k : ℕ). IsAlong axis shape k) here along))

    abbrev the_piece : Piece
    the_piece = piece_at shape.plan.pieces n

    abbrev greater : ℕ
    greater = max (least the_piece.from) (least the_piece.to)

    abbrev lesser : ℕ
    lesser = min (least the_piece.from) (least the_piece.to)

    module _ (along : IsAlong axis shape n) where
      ends_join : Joins (least the_piece.from) (least the_piece.to)
      ends_join = through _ _ _ (back _ _ (are.in_line the_piece.from)) (through _ _ _ (forward n inside along start) (are.in_line the_piece.to))

      greater_and_lesser_join : Joins greater lesser
      greater_and_lesser_join = by_order (max_and_min (least the_piece.from) (least the_piece.to))
        where
          by_order : ((greater ≡ least the_piece.from) × (lesser ≡ least the_piece.to)) ⊎ ((greater ≡ least the_piece.to) × (lesser ≡ least the_piece.from)) → Joins greater lesser
          by_order (inl is) = subst (λ (x : ℕ). Joins x lesser) (sym is.0) (at_end _ _ _ (sym is.1) ends_join)
          by_order (inr is) = subst (λ (x : ℕ). Joins x lesser) (sym is.0) (at_end _ _ _ (sym is.1) (back _ _ ends_join))

      lesser_own : least lesser ≡ lesser
      lesser_own = by_order (max_and_min (least the_piece.from) (least the_piece.to))
        where
          by_order : ((greater ≡ least the_piece.from) × (lesser ≡ least the_piece.to)) ⊎ ((greater ≡ least the_piece.to) × (lesser ≡ least the_piece.from)) → least lesser ≡ lesser
          by_order (inl is) = ap least is.1 ∙ are.own the_piece.to ∙ sym is.1
          by_order (inr is) = ap least is.1 ∙ are.own the_piece.from ∙ sym is.1

      abbrev after : ℕ → ℕ
      after v = merged least the_piece.from the_piece.to v

      abbrev After : ℕ → Type 0
      After v = ((least v ≡ greater) × (after v ≡ lesser)) ⊎ ((least v ≡ greater → ⊥) × (after v ≡ least v))

      after_at_lesser : After lesser → after lesser ≡ lesser
      after_at_lesser (inl is) = is.1
      after_at_lesser (inr is) = is.1 ∙ lesser_own

      joined_least : AreLeast axis shape (suc n) after
      joined_least = record {
        below = λ v. below_at v (merged_is least the_piece v);
        own = λ v. own_at v (merged_is least the_piece v);
        in_line = λ v. in_line_at v (merged_is least the_piece v);
        same = λ i within goes. same_at i (cases_lt i n) within goes;
      }
        where
          below_at : (v : ℕ) → After v → after v ≤ v
          below_at v (inl is) = let below = are.below v in omega (arith, is.0, is.1, below)
          below_at v (inr is) = let below = are.below v in omega (arith, is.1, below)

          own_at : (v : ℕ) → After v → after (after v) ≡ after v
          own_at v (inl is) = ap after is.1 ∙ after_at_lesser (merged_is least the_piece lesser) ∙ sym is.1
          own_at v (inr is) = ap after is.1 ∙ again (merged_is least the_piece (least v)) ∙ sym is.1
            where
              again : After (least v) → after (least v) ≡ least v
              again (inl next) = absurd (is.0 (sym (are.own v) ∙ next.0))
              again (inr next) = next.1 ∙ are.own v

          in_line_at : (v : ℕ) → After v → Joins v (after v)
          in_line_at v (inl is) = at_end _ _ _ (sym is.1) (through _ _ _ (at_end _ _ _ is.0 (are.in_line v)) greater_and_lesser_join)
          in_line_at v (inr is) = at_end _ _ _ (sym is.1) (are.in_line v)

          end_at : (v : ℕ) → (least v ≡ least the_piece.from) ⊎ (least v ≡ least the_piece.to) → After v → after v ≡ lesser
          end_at v end (inl is) = is.1
          end_at v (inl from) (inr is) = is.1 ∙ omega (arith, is.0, from)
          end_at v (inr to) (inr is) = is.1 ∙ omega (arith, is.0, to)

          same_at : (i : ℕ) → (i < n) ⊎ (n ≤ i) → i < suc n → IsAlong axis shape i →
              after (piece_at shape.plan.pieces i).from ≡ after (piece_at shape.plan.pieces i).to
          same_at i (inl earlier) within goes = ap (λ (x : ℕ). if x == greater then lesser else x) (are.same i earlier goes)
          same_at i (inr later) within goes =
              let here : n ≡ i = omega arith in
              subst (λ (k : ℕ). after (piece_at shape.plan.pieces k).from ≡ after (piece_at shape.plan.pieces k).to) here
              (end_at the_piece.from (inl refl) (merged_is least the_piece the_piece.from) ∙
              sym (end_at the_piece.to (inr refl) (merged_is least the_piece the_piece.to)))

  abbrev one_more : ℕ → Bool → ℕ → ℕ
  one_more n along v = if along then merged (least_by axis shape n) (piece_at shape.plan.pieces n).from (piece_at shape.plan.pieces n).to v else least_by axis shape n v

  least_after_one_more : (n : ℕ) → n < length shape.plan.pieces → AreLeast axis shape n (least_by axis shape n) →
      (along : Bool) → is_along axis shape n ≡ along → AreLeast axis shape (suc n) (one_more n (is_along axis shape n))
  least_after_one_more n inside before true is =
      subst (λ (b : Bool). AreLeast axis shape (suc n) (one_more n b)) (sym is)
      (joined_least n (least_by axis shape n) inside before (is_axis_same _ _ is))
  least_after_one_more n inside before false is =
      subst (λ (b : Bool). AreLeast axis shape (suc n) (one_more n b)) (sym is)
      (kept n (least_by axis shape n) inside before (is_axis_other _ _ is))

  -- the least vertices once the first n pieces are joined
  least_after : (n : ℕ) → n ≤ length shape.plan.pieces → AreLeast axis shape n (least_by axis shape n)
  unfolding least_by
  least_after zero fits = record { below = λ v. omega arith; own = λ v. refl; in_line = λ v. start; same = λ i none along. absurd (omega arith) }
  least_after (suc n) fits = least_after_one_more n (omega arith) (least_after n (omega arith)) (is_along axis shape n) refl

  abbrev all_least : AreLeast axis shape (length shape.plan.pieces) (least_in_line axis shape)
  all_least = least_after (length shape.plan.pieces) (omega arith)

  -- the least vertex of a line is at most each of its vertices
  pub least_below : (v : ℕ) → least_in_line axis shape v ≤ v
  least_below v = all_least.below v

  -- it is its own least vertex
  pub least_own : (v : ℕ) → least_in_line axis shape (least_in_line axis shape v) ≡ least_in_line axis shape v
  least_own v = all_least.own v

  -- it is in the line
  pub least_joins : (v : ℕ) → AreInLine axis shape v (least_in_line axis shape v)
  least_joins v = all_least.in_line v

  -- vertices of one line have one least vertex
  pub least_of_joined : (v w : ℕ) → AreInLine axis shape v w → least_in_line axis shape v ≡ least_in_line axis shape w
  least_of_joined v w start = refl
  least_of_joined v w (forward i inside along before) = least_of_joined v _ before ∙ all_least.same i inside along
  least_of_joined v w (backward i inside along before) = least_of_joined v _ before ∙ sym (all_least.same i inside along)

  -- vertices with one least vertex are in one line
  pub joined_from_least : (v w : ℕ) → least_in_line axis shape v ≡ least_in_line axis shape w → AreInLine axis shape v w
  joined_from_least v w same = through _ _ _ (at_end _ _ _ same (least_joins v)) (back _ _ (least_joins w))
