-- What is asked for the check of a certificate, and for the length of places.
use Rattle.std.specs.Prelude.{◌≡◌, ℕ, List, length, All, ℤ}
use Rattle.compact_types.specs.declared.limits.TheConstants.{GREATEST_THOUSANDTHS, MOST_CHOICES}
use Rattle.compact_types.specs.declared.places.Places.{Places}
use Rattle.compact_types.specs.declared.plan.Shape.{Shape}
use Rattle.compact_types.specs.Drawings.{IsDrawing}
use Rattle.compact_types.specs.Magnitudes.{AreWithin}
use Rattle.cert_text.specs.declared.tree.CertNode.{CertNode}
use Rattle.cert_text.specs.Loads.{IsInRange}
use Rattle.cert_text.specs.Trees.{IsShallow, IsWhole}
use Rattle.compact_main.specs.declared.drawing.Drawing.{Drawing}
use Rattle.compact_main.specs.Drawings.{worth_with}
use Rattle.compact_main.specs.Outputs.{IsProved}

-- a certificate can be checked for the places
pub record CanCheckCertificate (shape : Shape) (places : Places) (nodes : List CertNode) :
    Type 0 where
  pub drawing : IsDrawing shape places
  pub near : AreWithin GREATEST_THOUSANDTHS places
  pub whole : IsWhole nodes
  pub in_range : All IsInRange nodes
  pub shallow : IsShallow MOST_CHOICES nodes

-- what the places are worth can be measured
pub record CanMeasure (shape : Shape) (places : Places) : Type 0 where
  pub fit : length places.xy ≡ shape.plan.vertices
  pub near : AreWithin GREATEST_THOUSANDTHS places

-- the text is proved, and its drawing is this long
abbrev pub IsProvedAt : List ℕ → Drawing → ℤ → Type 0
IsProvedAt text drawing length =
    (places : Places) × IsProved text drawing places × (length ≡ worth_with drawing places)
