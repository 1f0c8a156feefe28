-- Lines of a text.
use Rattle.std.specs.Prelude.{◌≡◌, ℕ, Bool, true, not, ◌==◌, List, ◌∷◌, ◌++◌}
use Rattle.std.specs.List.{list_all}
use Rattle.gml_text.specs.declared.marks.TheConstants.{LINE_FEED}

abbrev pub is_no_feed : ℕ → Bool
is_no_feed b = not (b == LINE_FEED)

-- the text begins with this line, without its line feed, and goes on with the rest
pub record IsFirstLine (text line rest : List ℕ) : Type 0 where
  pub cut : text ≡ line ++ LINE_FEED ∷ rest
  pub no_feed : list_all is_no_feed line ≡ true
