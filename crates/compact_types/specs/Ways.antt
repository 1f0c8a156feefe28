-- Which way a piece goes.
use Rattle.std.specs.Prelude.{◌≡◌, ◌<ℤ◌}
use Rattle.compact_types.specs.declared.places.Point.{Point}
use Rattle.compact_types.specs.declared.plan.Way.{Way}
use Rattle.compact_types.specs.declared.plan.Way.TheVariants.{East, West, High, Low}

-- a piece from the first point to the second goes this way: exactly one coordinate differs, in its
-- direction
abbrev pub HasWay : Way → Point → Point → Type 0
HasWay East a b = (a.x <ℤ b.x) × (b.y ≡ a.y)
HasWay West a b = (b.x <ℤ a.x) × (b.y ≡ a.y)
HasWay High a b = (a.y <ℤ b.y) × (b.x ≡ a.x)
HasWay Low a b = (b.y <ℤ a.y) × (b.x ≡ a.x)
