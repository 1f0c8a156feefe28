-- What a command reads, by the limit of its text.
use Rattle.std.proofs.Common.{◌≡◌, ℕ, Option, None, Some, refl, sym, ap, ◌∙◌}
use Rattle.std.specs.Prelude.{unwrap_or}
use Rattle.compact_main.specs.Intakes.{Intake, most_of}
use Rattle.compact_main.specs.Intakes.Intake.{a_text, nothing}
use Rattle.compact_main.specs.inner.Readings.{IsTextLimit}

pub a_text_is : (intake : Intake) (given : Option ℕ) (limit : ℕ) → given ≡ Some limit → IsTextLimit intake given → a_text limit ≡ intake
a_text_is (a_text most) given limit is told = let both = sym is ∙ told in let same : limit ≡ most = cc in ap (λ (n : ℕ). a_text n) same
a_text_is nothing given limit is told = let both = sym is ∙ told in absurd cc

pub nothing_is : (intake : Intake) (given : Option ℕ) → given ≡ None → IsTextLimit intake given → nothing ≡ intake
nothing_is (a_text most) given is told = let both = sym is ∙ told in absurd cc
nothing_is nothing given is told = refl

pub most_is : (intake : Intake) (given : Option ℕ) → IsTextLimit intake given → unwrap_or given 0 ≡ most_of intake
most_is (a_text most) given told = ap (λ (g : Option ℕ). unwrap_or g 0) told
most_is nothing given told = ap (λ (g : Option ℕ). unwrap_or g 0) told
