-- Ways, and the axes that they go along.
use Rattle.std.proofs.Common.{◌≡◌, List, inl, inr, refl, sym, arith}
use Rattle.std.proofs.lemmas.Int.{ints, by_lt_z}
use Rattle.compact_types.specs.declared.places.Point.{Point}
use Rattle.compact_types.specs.declared.plan.Piece.{Piece}
use Rattle.compact_types.specs.declared.plan.Way.{Way}
use Rattle.compact_types.specs.declared.plan.Way.TheVariants.{East, West, High, Low}
use Rattle.compact_types.specs.Axes.{DifferInOne, IsStraight, low_end, high_end}
use Rattle.compact_types.specs.Lookups.{place, axis_of}
use Rattle.compact_types.specs.Ways.{HasWay}

-- a way between two points, and that they have it
abbrev pub SomeWay : Point → Point → Type 0
SomeWay a b = (way : Way) × HasWay way a b

-- where exactly one coordinate differs there is a way
pub some_way : (a b : Point) → DifferInOne a b → SomeWay a b
some_way a b (inl (differ, level)) =
    by_lt_z a.x b.x (λ less. (East, (less, sym level))) (λ not_less. by_lt_z b.x a.x (λ more. (West, (more, sym level))) (λ not_more. absurd (differ (omega (arith, ints)))))
some_way a b (inr (level, differ)) =
    by_lt_z a.y b.y (λ less. (High, (less, sym level))) (λ not_less. by_lt_z b.y a.y (λ more. (Low, (more, sym level))) (λ not_more. absurd (differ (omega (arith, ints)))))

-- where there is a way exactly one coordinate differs
pub way_differs : (a b : Point) (way : Way) → HasWay way a b → DifferInOne a b
way_differs a b East goes = inl (λ same. omega (arith, ints), sym goes.1)
way_differs a b West goes = inl (λ same. omega (arith, ints), sym goes.1)
way_differs a b High goes = inr (sym goes.1, λ same. omega (arith, ints))
way_differs a b Low goes = inr (sym goes.1, λ same. omega (arith, ints))

-- two points have one way at most
pub one_way : (a b : Point) (v w : Way) → HasWay v a b → HasWay w a b → v ≡ w
one_way a b East East p q = refl
one_way a b East West p q = absurd (omega (arith, ints))
one_way a b East High p q = absurd (omega (arith, ints))
one_way a b East Low p q = absurd (omega (arith, ints))
one_way a b West West p q = refl
one_way a b West East p q = absurd (omega (arith, ints))
one_way a b West High p q = absurd (omega (arith, ints))
one_way a b West Low p q = absurd (omega (arith, ints))
one_way a b High High p q = refl
one_way a b High East p q = absurd (omega (arith, ints))
one_way a b High West p q = absurd (omega (arith, ints))
one_way a b High Low p q = absurd (omega (arith, ints))
one_way a b Low Low p q = refl
one_way a b Low East p q = absurd (omega (arith, ints))
one_way a b Low West p q = absurd (omega (arith, ints))
one_way a b Low High p q = absurd (omega (arith, ints))

-- a piece with a way goes straight along its axis, from its low end to its high end
pub straight_from_way : (way : Way) (piece : Piece) (places : List Point) → HasWay way (place places piece.from) (place places piece.to) →
    IsStraight (axis_of way) (place places (low_end way piece)) (place places (high_end way piece))
straight_from_way East piece places goes = record { before = goes.0; level = sym goes.1 }
straight_from_way West piece places goes = record { before = goes.0; level = goes.1 }
straight_from_way High piece places goes = record { before = goes.0; level = sym goes.1 }
straight_from_way Low piece places goes = record { before = goes.0; level = goes.1 }

-- a piece that goes so has the way
pub way_from_straight : (way : Way) (piece : Piece) (places : List Point) →
    IsStraight (axis_of way) (place places (low_end way piece)) (place places (high_end way piece)) → HasWay way (place places piece.from) (place places piece.to)
way_from_straight East piece places straight = (straight.before, sym straight.level)
way_from_straight West piece places straight = (straight.before, straight.level)
way_from_straight High piece places straight = (straight.before, sym straight.level)
way_from_straight Low piece places straight = (straight.before, straight.level)
