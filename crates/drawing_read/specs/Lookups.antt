-- Pairs by their keys.
use Rattle.std.specs.Prelude.{◌≡◌, ℕ, Bool, List, Option, None, Some}
use Rattle.std.specs.Prelude.{if◌then◌else◌, option_and_then}
use Rattle.std.specs.List.{find, filter_map, position}
use Rattle.std.specs.Str.{bytes_eq}
use Rattle.gml_text.specs.declared.tree.Tree.{out-Tree}
use Rattle.gml_text.specs.declared.tree.Pair.{Pair}
use Rattle.gml_text.specs.declared.tree.Value.{Value}
use Rattle.gml_text.specs.declared.tree.Value.TheVariants.{Whole, Real, Text, Inner}

-- the pair has this key, byte by byte
abbrev pub has_key : List ℕ → Pair → Bool
has_key key pair = bytes_eq pair.key key

-- the pairs of a value that is a list
abbrev pub list_in : Value → Option (List Pair)
list_in (Whole word) = None
list_in (Real word) = None
list_in (Text inside) = None
list_in (Inner tree) = Some (out-Tree tree).pairs

-- the list of a pair with this key
abbrev pub list_under : List ℕ → Pair → Option (List Pair)
list_under key pair = if has_key key pair then list_in pair.value else None

-- all the lists under a key, in order; pairs with this key and another value are passed over
abbrev pub lists_under : List ℕ → List Pair → List (List Pair)
lists_under key pairs = filter_map (list_under key) pairs

-- of a repeated key the first pair counts, whatever kind its value has
abbrev pub first_under : List ℕ → List Pair → Option Pair
first_under key pairs = find (has_key key) pairs

-- the list under a key, where the pair that counts has one
abbrev pub first_list : List ℕ → List Pair → Option (List Pair)
first_list key pairs = option_and_then (λ pair. list_in pair.value) (first_under key pairs)

-- the place of the pair that counts
abbrev pub place_under : List ℕ → List Pair → Option ℕ
place_under key pairs = position (has_key key) pairs

-- the list that counts under this key, and its place
pub record IsListAt (key : List ℕ) (pairs : List Pair) (at : ℕ) (list : List Pair) : Type 0 where
  pub place : place_under key pairs ≡ Some at
  pub there : first_list key pairs ≡ Some list
