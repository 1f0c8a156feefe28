-- Whether places are from zero, axis by axis.
use Rattle.std.proofs.Common.{◌≡◌, Bool, true, false, IsTrue, ◌↔◌, sym, ◌∙◌}
use Rattle.compact_types.specs.declared.places.Axis.{Axis}
use Rattle.compact_types.specs.declared.places.Axis.TheVariants.{X, Y}
use Rattle.compact_types.specs.declared.places.Places.{Places}
use Rattle.compact_types.specs.Drawings.{IsFromZero, IsLeastZero}

-- where x is from zero, y decides
pub zero_by_y : (places : Places) (x y : Bool) → x ≡ true → (IsTrue x ↔ IsLeastZero X places) → (IsTrue y ↔ IsLeastZero Y places) →
    IsTrue y ↔ IsFromZero places
zero_by_y places x y holds of_x of_y = (both, λ zero. of_y.1 (zero Y))
  where
    both : IsTrue y → (axis : Axis) → IsLeastZero axis places
    both least X = of_x.0 holds
    both least Y = of_y.0 least

-- where x is not, the places are not
pub not_zero_by_x : (places : Places) (x : Bool) → x ≡ false → (IsTrue x ↔ IsLeastZero X places) → IsTrue x ↔ IsFromZero places
not_zero_by_x places x fails of_x = (λ least. absurd (let both : false ≡ true = sym fails ∙ least in cc), λ zero. of_x.1 (zero X))
