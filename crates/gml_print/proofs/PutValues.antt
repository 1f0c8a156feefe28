-- The values at the paths of spots put one after another, list by list.
use Rattle.std.proofs.Common.{◌≡◌, ℕ, List, [], ◌∷◌, ◌++◌, map, Option, None, Some, refl, sym, ap, ◌∙◌, append_assoc}
use Rattle.std.specs.Option.{option_map}
use Rattle.compact_types.specs.declared.places.Places.{Places}
use Rattle.gml_text.specs.declared.tree.Tree.{Tree, Tree-F, out-Tree, out-roll-Tree}
use Rattle.gml_text.specs.declared.tree.Pair.{Pair}
use Rattle.gml_text.specs.declared.tree.Value.{Value}
use Rattle.gml_text.specs.declared.tree.Value.TheVariants.{Whole, Real, Text, Inner}
use Rattle.drawing_read.specs.declared.reading.Spot.{Spot}
use Rattle.drawing_read.specs.Lookups.{list_in}
use Rattle.gml_print.specs.Placing.{change_at, replaced, put_value}
use Rattle.gml_print.specs.Places.{numeral_for, placed}
use Rattle.gml_print.proofs.ChangedLists.{changed_at, change_at_is, changed_twice, not_changed}

-- the spot in a list that a path leads to
abbrev pub behind : List ℕ → Spot → Spot
behind path spot = record { path = path ++ spot.path; vertex = spot.vertex; axis = spot.axis }

pub behind_two : (path : List ℕ) (a : ℕ) (spots : List Spot) → map (behind path) (map (behind (a ∷ [])) spots) ≡ map (behind (path ++ a ∷ [])) spots
behind_two path a [] = refl
behind_two path a (spot ∷ spots) =
    rw (behind_two path a spots, append_assoc path (a ∷ []) spot.path) refl

-- the paths of the spots lead into the list
abbrev pub LeadsIn : List ℕ → Type 0
LeadsIn [] = ⊥
LeadsIn (a ∷ path) = Unit {0}

abbrev pub LeadIn : List Spot → Type 0
LeadIn [] = Unit {0}
LeadIn (spot ∷ spots) = LeadsIn spot.path × LeadIn spots

pub behind_leads_in : (a : ℕ) (spots : List Spot) → LeadIn (map (behind (a ∷ [])) spots)
behind_leads_in a [] = tt
behind_leads_in a (spot ∷ spots) = (tt, behind_leads_in a spots)

pub both_lead_in : (xs ys : List Spot) → LeadIn xs → LeadIn ys → LeadIn (xs ++ ys)
both_lead_in [] ys first second = second
both_lead_in (spot ∷ xs) ys first second = (first.0, both_lead_in xs ys first.1 second)

-- the value at the end of a path in a list
abbrev pub put_in : List ℕ → Value → List Pair → List Pair
put_in [] new pairs = pairs
put_in (a ∷ path) new pairs = change_at a (replaced path new) pairs

put_value_pairs : (path : List ℕ) (new : Value) (tree : Tree) → (out-Tree (put_value path new tree)).pairs ≡ put_in path new (out-Tree tree).pairs
put_value_pairs [] new tree = refl
put_value_pairs (a ∷ path) new tree =
    let made : Tree-F Value Pair Tree = record { pairs = change_at a (replaced path new) (out-Tree tree).pairs } in
    ap (λ (layer : Tree-F Value Pair Tree). layer.pairs) (out-roll-Tree made)

replaced_list : (path : List ℕ) (new value : Value) → LeadsIn path → list_in (replaced path new value) ≡ option_map (put_in path new) (list_in value)
replaced_list [] new value leads = absurd leads
replaced_list (a ∷ path) new (Whole word) leads = refl
replaced_list (a ∷ path) new (Real word) leads = refl
replaced_list (a ∷ path) new (Text inside) leads = refl
replaced_list (a ∷ path) new (Inner tree) leads =
    let made : Tree-F Value Pair Tree = record { pairs = change_at a (replaced path new) (out-Tree tree).pairs } in
    ap (λ (layer : Tree-F Value Pair Tree). Some layer.pairs) (out-roll-Tree made)

mapped_twice : (f g : List Pair → List Pair) (o : Option (List Pair)) → option_map g (option_map f o) ≡ option_map (λ pairs. g (f pairs)) o
mapped_twice f g None = refl
mapped_twice f g (Some pairs) = refl

not_mapped : (o : Option (List Pair)) → o ≡ option_map (λ pairs. pairs) o
not_mapped None = refl
not_mapped (Some pairs) = refl

module _ (places : Places) (pitch : ℕ) where
  -- the list with the numeral of each spot at its path
  abbrev pub puts : List Spot → List Pair → List Pair
  puts [] pairs = pairs
  puts (spot ∷ spots) pairs = puts spots (put_in spot.path (numeral_for places pitch spot) pairs)

  -- the value with the numeral of each spot at its path below it
  abbrev pub replaced_by : List Spot → Value → Value
  replaced_by [] value = value
  replaced_by (spot ∷ spots) value = replaced_by spots (replaced spot.path (numeral_for places pitch spot) value)

  pub placed_pairs : (tree : Tree) (spots : List Spot) → (out-Tree (placed tree spots places pitch)).pairs ≡ puts spots (out-Tree tree).pairs
  placed_pairs tree [] = refl
  placed_pairs tree (spot ∷ spots) =
      placed_pairs (put_value spot.path (numeral_for places pitch spot) tree) spots
      ∙ ap (puts spots) (put_value_pairs spot.path (numeral_for places pitch spot) tree)

  pub puts_append : (xs ys : List Spot) (pairs : List Pair) → puts (xs ++ ys) pairs ≡ puts ys (puts xs pairs)
  puts_append [] ys pairs = refl
  puts_append (spot ∷ xs) ys pairs = puts_append xs ys (put_in spot.path (numeral_for places pitch spot) pairs)

  -- spots below one pair change its value alone
  pub puts_behind : (a : ℕ) (spots : List Spot) (pairs : List Pair) → puts (map (behind (a ∷ [])) spots) pairs ≡ changed_at a (replaced_by spots) pairs
  puts_behind a [] pairs = sym (not_changed a pairs)
  puts_behind a (spot ∷ spots) pairs =
      puts_behind a spots (change_at a (replaced spot.path (numeral_for places pitch spot)) pairs)
      ∙ ap (changed_at a (replaced_by spots)) (change_at_is a (replaced spot.path (numeral_for places pitch spot)) pairs)
      ∙ changed_twice a (replaced spot.path (numeral_for places pitch spot)) (replaced_by spots) pairs

  -- in a value that is a list the spots are put into that list
  pub replaced_by_list : (spots : List Spot) (value : Value) → LeadIn spots → list_in (replaced_by spots value) ≡ option_map (puts spots) (list_in value)
  replaced_by_list [] value lead = not_mapped (list_in value)
  replaced_by_list (spot ∷ spots) value lead =
      replaced_by_list spots (replaced spot.path (numeral_for places pitch spot) value) lead.1
      ∙ ap (option_map (puts spots)) (replaced_list spot.path (numeral_for places pitch spot) value lead.0)
      ∙ mapped_twice (put_in spot.path (numeral_for places pitch spot)) (puts spots) (list_in value)
