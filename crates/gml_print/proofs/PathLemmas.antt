-- Values put at paths: what stands there then, what stays, and that paths that part do not meddle.
use Rattle.std.proofs.Common.{◌≡◌, ℕ, zero, suc, ◌⊎◌, inl, inr, List, [], ◌∷◌, Option, Some, refl, sym, ap, ◌∙◌}
use Rattle.std.specs.Prelude.{slice_get, option_and_then}
use Rattle.gml_text.specs.declared.tree.Tree.{Tree, Tree-F, out-Tree, roll-Tree, out-roll-Tree}
use Rattle.gml_text.specs.declared.tree.Pair.{Pair}
use Rattle.gml_text.specs.declared.tree.Value.{Value}
use Rattle.gml_text.specs.declared.tree.Value.TheVariants.{Whole, Real, Text, Inner}
use Rattle.gml_print.specs.Placing.{change_at, replaced, put_value}
use Rattle.gml_print.specs.Paths.{value_below, value_at, Part}
use Rattle.gml_print.proofs.ChangedLists.{changed_at, change_at_is, changed_twice}

pub part_back : (p q : List ℕ) → Part p q → Part q p
part_back [] q part = absurd part
part_back (a ∷ p) [] part = absurd part
part_back (a ∷ p) (b ∷ q) (inl differ) = inl (λ e. differ (sym e))
part_back (a ∷ p) (b ∷ q) (inr part) = inr (part_back p q part)

-- a tree of these pairs
tree_of : List Pair → Tree
tree_of pairs = roll-Tree (record { pairs = pairs })

pairs_of_tree : (pairs : List Pair) → (out-Tree (tree_of pairs)).pairs ≡ pairs
unfolding tree_of
pairs_of_tree pairs =
    let made : Tree-F Value Pair Tree = record { pairs = pairs } in
    ap (λ (layer : Tree-F Value Pair Tree). layer.pairs) (out-roll-Tree made)

-- changes at two places come in either order
changes_commute : (a b : ℕ) (f g : Value → Value) (pairs : List Pair) → ((a ≡ b → ⊥) ⊎ ((value : Value) → f (g value) ≡ g (f value))) →
    changed_at a f (changed_at b g pairs) ≡ changed_at b g (changed_at a f pairs)
changes_commute a b f g [] free = refl
changes_commute zero zero f g (pair ∷ pairs) (inl differ) = absurd (differ refl)
changes_commute zero zero f g (pair ∷ pairs) (inr same) =
    ap (λ (value : Value). let changed : Pair = record { key = pair.key; value = value; at = pair.at } in changed ∷ pairs) (same pair.value)
changes_commute zero (suc b) f g (pair ∷ pairs) free = refl
changes_commute (suc a) zero f g (pair ∷ pairs) free = refl
changes_commute (suc a) (suc b) f g (pair ∷ pairs) (inl differ) =
    ap (λ rest. pair ∷ rest) (changes_commute a b f g pairs (inl (λ e. differ (ap suc e))))
changes_commute (suc a) (suc b) f g (pair ∷ pairs) (inr same) = ap (λ rest. pair ∷ rest) (changes_commute a b f g pairs (inr same))

change_at_two : (a b : ℕ) (f g : Value → Value) (pairs : List Pair) → change_at a f (change_at b g pairs) ≡ changed_at a f (changed_at b g pairs)
change_at_two a b f g pairs = change_at_is a f (change_at b g pairs) ∙ ap (changed_at a f) (change_at_is b g pairs)

change_commute : (a b : ℕ) (f g : Value → Value) (pairs : List Pair) → ((a ≡ b → ⊥) ⊎ ((value : Value) → f (g value) ≡ g (f value))) →
    change_at a f (change_at b g pairs) ≡ change_at b g (change_at a f pairs)
change_commute a b f g pairs free = change_at_two a b f g pairs ∙ changes_commute a b f g pairs free ∙ sym (change_at_two b a g f pairs)

changed_same : (a : ℕ) (f g : Value → Value) (pairs : List Pair) → ((value : Value) → f value ≡ g value) → changed_at a f pairs ≡ changed_at a g pairs
changed_same a f g [] same = refl
changed_same zero f g (pair ∷ pairs) same =
    ap (λ (value : Value). let changed : Pair = record { key = pair.key; value = value; at = pair.at } in changed ∷ pairs) (same pair.value)
changed_same (suc a) f g (pair ∷ pairs) same = ap (λ rest. pair ∷ rest) (changed_same a f g pairs same)

change_again : (a : ℕ) (f g : Value → Value) (pairs : List Pair) → ((value : Value) → f (g value) ≡ f value) → change_at a f (change_at a g pairs) ≡ change_at a f pairs
change_again a f g pairs same =
    change_at_two a a f g pairs ∙ changed_twice a g f pairs ∙ changed_same a (λ value. f (g value)) f pairs same ∙ sym (change_at_is a f pairs)

module _ (a b : ℕ) (p q : List ℕ) (new other : Value) where
  -- two values put into a tree, one after the other
  put_two_in : (tree : Tree) → put_value (a ∷ p) new (put_value (b ∷ q) other tree) ≡ tree_of (change_at a (replaced p new) (change_at b (replaced q other) (out-Tree tree).pairs))
  unfolding tree_of
  put_two_in tree = ap (λ ps. tree_of (change_at a (replaced p new) ps)) (pairs_of_tree (change_at b (replaced q other) (out-Tree tree).pairs))

replaced_commute : (p q : List ℕ) (new other value : Value) → Part p q → replaced p new (replaced q other value) ≡ replaced q other (replaced p new value)
unfolding tree_of
replaced_commute [] q new other value part = absurd part
replaced_commute (a ∷ p) [] new other value part = absurd part
replaced_commute (a ∷ p) (b ∷ q) new other (Whole word) part = refl
replaced_commute (a ∷ p) (b ∷ q) new other (Real word) part = refl
replaced_commute (a ∷ p) (b ∷ q) new other (Text inside) part = refl
replaced_commute (a ∷ p) (b ∷ q) new other (Inner tree) (inl differ) =
    ap (λ (t : Tree). Inner t) (put_two_in a b p q new other tree
    ∙ ap tree_of (change_commute a b (replaced p new) (replaced q other) (out-Tree tree).pairs (inl differ)) ∙ sym (put_two_in b a q p other new tree))
replaced_commute (a ∷ p) (b ∷ q) new other (Inner tree) (inr part) =
    ap (λ (t : Tree). Inner t) (put_two_in a b p q new other tree
    ∙ ap tree_of (change_commute a b (replaced p new) (replaced q other) (out-Tree tree).pairs (inr (λ value. replaced_commute p q new other value part)))
    ∙ sym (put_two_in b a q p other new tree))

-- values at paths that part come in either order
pub puts_commute : (p q : List ℕ) (new other : Value) (tree : Tree) → Part p q → put_value p new (put_value q other tree) ≡ put_value q other (put_value p new tree)
unfolding tree_of
puts_commute [] q new other tree part = absurd part
puts_commute (a ∷ p) [] new other tree part = absurd part
puts_commute (a ∷ p) (b ∷ q) new other tree (inl differ) =
    put_two_in a b p q new other tree ∙ ap tree_of (change_commute a b (replaced p new) (replaced q other) (out-Tree tree).pairs (inl differ))
    ∙ sym (put_two_in b a q p other new tree)
puts_commute (a ∷ p) (b ∷ q) new other tree (inr part) =
    put_two_in a b p q new other tree
    ∙ ap tree_of (change_commute a b (replaced p new) (replaced q other) (out-Tree tree).pairs (inr (λ value. replaced_commute p q new other value part)))
    ∙ sym (put_two_in b a q p other new tree)

replaced_again : (p : List ℕ) (new other value : Value) → replaced p new (replaced p other value) ≡ replaced p new value
unfolding tree_of
replaced_again [] new other value = refl
replaced_again (a ∷ p) new other (Whole word) = refl
replaced_again (a ∷ p) new other (Real word) = refl
replaced_again (a ∷ p) new other (Text inside) = refl
replaced_again (a ∷ p) new other (Inner tree) =
    ap (λ (t : Tree). Inner t) (put_two_in a a p p new other tree
    ∙ ap tree_of (change_again a (replaced p new) (replaced p other) (out-Tree tree).pairs (replaced_again p new other)))

-- of two values at one path the last counts
pub put_again : (p : List ℕ) (new other : Value) (tree : Tree) → put_value p new (put_value p other tree) ≡ put_value p new tree
unfolding tree_of
put_again [] new other tree = refl
put_again (a ∷ p) new other tree =
    put_two_in a a p p new other tree ∙ ap tree_of (change_again a (replaced p new) (replaced p other) (out-Tree tree).pairs (replaced_again p new other))

-- what is seen of the value at a place
abbrev pub look : ℕ → (Value → Option Value) → List Pair → Option Value
look a see pairs = option_and_then (λ pair. see pair.value) (slice_get pairs a)

look_elsewhere : (a b : ℕ) (see : Value → Option Value) (f : Value → Value) (pairs : List Pair) → ((a ≡ b → ⊥) ⊎ ((value : Value) → see (f value) ≡ see value)) →
    look a see (changed_at b f pairs) ≡ look a see pairs
look_elsewhere a b see f [] free = refl
look_elsewhere zero zero see f (pair ∷ pairs) (inl differ) = absurd (differ refl)
look_elsewhere zero zero see f (pair ∷ pairs) (inr same) = same pair.value
look_elsewhere zero (suc b) see f (pair ∷ pairs) free = refl
look_elsewhere (suc a) zero see f (pair ∷ pairs) free = refl
look_elsewhere (suc a) (suc b) see f (pair ∷ pairs) (inl differ) = look_elsewhere a b see f pairs (inl (λ e. differ (ap suc e)))
look_elsewhere (suc a) (suc b) see f (pair ∷ pairs) (inr same) = look_elsewhere a b see f pairs (inr same)

look_there : (a : ℕ) (see : Value → Option Value) (f : Value → Value) (new : Value) (pairs : List Pair) (old : Value) →
    ((value old : Value) → see value ≡ Some old → see (f value) ≡ Some new) → look a see pairs ≡ Some old → look a see (changed_at a f pairs) ≡ Some new
look_there a see f new [] old gives is = cc
look_there zero see f new (pair ∷ pairs) old gives is = gives pair.value old is
look_there (suc a) see f new (pair ∷ pairs) old gives is = look_there a see f new pairs old gives is

-- a value that is put stands at its path, where one stood there
below_put : (path : List ℕ) (new value old : Value) → value_below path value ≡ Some old → value_below path (replaced path new value) ≡ Some new
unfolding tree_of
below_put [] new value old is = refl
below_put (a ∷ path) new (Whole word) old is = cc
below_put (a ∷ path) new (Real word) old is = cc
below_put (a ∷ path) new (Text inside) old is = cc
below_put (a ∷ path) new (Inner tree) old is =
    ap (look a (value_below path)) (pairs_of_tree (change_at a (replaced path new) (out-Tree tree).pairs) ∙ change_at_is a (replaced path new) (out-Tree tree).pairs)
    ∙ look_there a (value_below path) (replaced path new) new (out-Tree tree).pairs old (λ value old is. below_put path new value old is) is

-- and on a path that parts from it nothing changes
below_other : (path other : List ℕ) (new value : Value) → Part path other → value_below path (replaced other new value) ≡ value_below path value
unfolding tree_of
below_other [] other new value part = absurd part
below_other (a ∷ path) [] new value part = absurd part
below_other (a ∷ path) (b ∷ other) new (Whole word) part = refl
below_other (a ∷ path) (b ∷ other) new (Real word) part = refl
below_other (a ∷ path) (b ∷ other) new (Text inside) part = refl
below_other (a ∷ path) (b ∷ other) new (Inner tree) (inl differ) =
    ap (look a (value_below path)) (pairs_of_tree (change_at b (replaced other new) (out-Tree tree).pairs) ∙ change_at_is b (replaced other new) (out-Tree tree).pairs)
    ∙ look_elsewhere a b (value_below path) (replaced other new) (out-Tree tree).pairs (inl differ)
below_other (a ∷ path) (b ∷ other) new (Inner tree) (inr part) =
    ap (look a (value_below path)) (pairs_of_tree (change_at b (replaced other new) (out-Tree tree).pairs) ∙ change_at_is b (replaced other new) (out-Tree tree).pairs)
    ∙ look_elsewhere a b (value_below path) (replaced other new) (out-Tree tree).pairs (inr (λ value. below_other path other new value part))

pub put_stands : (path : List ℕ) (new : Value) (tree : Tree) (old : Value) → value_at path tree ≡ Some old → value_at path (put_value path new tree) ≡ Some new
unfolding tree_of
put_stands [] new tree old is = cc
put_stands (a ∷ path) new tree old is =
    ap (look a (value_below path)) (pairs_of_tree (change_at a (replaced path new) (out-Tree tree).pairs) ∙ change_at_is a (replaced path new) (out-Tree tree).pairs)
    ∙ look_there a (value_below path) (replaced path new) new (out-Tree tree).pairs old (λ value old is. below_put path new value old is) is

pub put_elsewhere : (path other : List ℕ) (new : Value) (tree : Tree) → Part path other → value_at path (put_value other new tree) ≡ value_at path tree
unfolding tree_of
put_elsewhere [] other new tree part = absurd part
put_elsewhere (a ∷ path) [] new tree part = absurd part
put_elsewhere (a ∷ path) (b ∷ other) new tree (inl differ) =
    ap (look a (value_below path)) (pairs_of_tree (change_at b (replaced other new) (out-Tree tree).pairs) ∙ change_at_is b (replaced other new) (out-Tree tree).pairs)
    ∙ look_elsewhere a b (value_below path) (replaced other new) (out-Tree tree).pairs (inl differ)
put_elsewhere (a ∷ path) (b ∷ other) new tree (inr part) =
    ap (look a (value_below path)) (pairs_of_tree (change_at b (replaced other new) (out-Tree tree).pairs) ∙ change_at_is b (replaced other new) (out-Tree tree).pairs)
    ∙ look_elsewhere a b (value_below path) (replaced other new) (out-Tree tree).pairs (inr (λ value. below_other path other new value part))
