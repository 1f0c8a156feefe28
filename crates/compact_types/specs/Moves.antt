-- Drawings that are moved in the plane.
use Rattle.std.specs.Prelude.{ℤ, ◌+ℤ◌, map}
use Rattle.compact_types.specs.declared.places.Point.{Point}
use Rattle.compact_types.specs.declared.places.Places.{Places}

-- the point, moved by dx along x and by dy along y
abbrev pub moved_point : ℤ → ℤ → Point → Point
moved_point dx dy point = record { x = point.x +ℤ dx; y = point.y +ℤ dy }

-- every point, moved by dx along x and by dy along y
abbrev pub moved : ℤ → ℤ → Places → Places
moved dx dy places = record { xy = map (moved_point dx dy) places.xy }
