-- The length of a drawing, piece by piece.
use Rattle.std.proofs.Common.{◌≡◌, ℕ, suc, ◌+◌, ◌<◌, ℤ, List, length, subst, sym, arith}
use Rattle.std.specs.Prelude.{◌+ℤ◌}
use Rattle.std.proofs.lemmas.Int.{ints}
use Rattle.compact_types.specs.declared.places.Axis.TheVariants.{X, Y}
use Rattle.compact_types.specs.declared.places.Point.{Point}
use Rattle.compact_types.specs.declared.places.Places.{Places}
use Rattle.compact_types.specs.declared.plan.Piece.{Piece}
use Rattle.compact_types.specs.declared.plan.Plan.{Plan}
use Rattle.compact_types.specs.Drawings.{begin_of, end_of}
use Rattle.compact_types.specs.Lengths.{distance}
use Rattle.compact_types.specs.Lookups.{place, piece_at}
use Rattle.compact_types.specs.Magnitudes.{IsWithin, AreWithin}
use Rattle.compact_types.specs.Sums.{sum_to}
use Rattle.compact_types.proofs.EndLemmas.{read_ends}

-- both coordinates of the place of a vertex are within the bound
pub place_within : (bound : ℕ) (places : Places) (points : List Point) (v : ℕ) → points ≡ places.xy → AreWithin bound places → v < length points →
    IsWithin bound (place points v).x × IsWithin bound (place points v).y
place_within bound places points v same near inside =
    let here : v < length places.xy = subst (λ (l : List Point). v < length l) same inside in
    subst (λ (l : List Point). IsWithin bound (place l v).x × IsWithin bound (place l v).y) (sym same) (near X v here, near Y v here)

-- the sum of the distances, with one piece more
pub one_piece_longer : (plan : Plan) (places : Places) (pieces : List Piece) (points : List Point) → pieces ≡ plan.pieces → points ≡ places.xy →
    (i n : ℕ) (before now far : ℤ) → n ≡ i + 1 → before ≡ sum_to (λ k. distance (begin_of plan places k) (end_of plan places k)) i →
    far ≡ distance (place points (piece_at pieces i).from) (place points (piece_at pieces i).to) → now ≡ before +ℤ far →
    now ≡ sum_to (λ k. distance (begin_of plan places k) (end_of plan places k)) n
one_piece_longer plan places pieces points same_pieces same_points i n before now far next sum is longer =
    let real = read_ends plan places pieces points same_pieces same_points (λ (a b : Point). far ≡ distance a b) i is in
    let one_more : n ≡ suc i = omega (arith, next) in
    rw one_more (omega (arith, ints, sum, real, longer))
