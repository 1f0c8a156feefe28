-- Nodes and points after the numerals of their spots were put.
use Rattle.std.proofs.Common.{◌≡◌, ℕ, ◌⊎◌, inl, inr, ℤ, pos, false, List, [], ◌∷◌, ◌++◌, Option, None, Some, Result, Ok, refl, sym, ap, ◌∙◌}
use Rattle.std.specs.Option.{option_map, option_map_or}
use Rattle.std.specs.Prelude.{codes, option_and_then, is_none, ◌*ℤ◌}
use Rattle.std.proofs.lemmas.Option.{same_Some}
use Rattle.compact_types.specs.declared.places.Axis.{Axis}
use Rattle.compact_types.specs.declared.places.Axis.TheVariants.{X, Y}
use Rattle.compact_types.specs.declared.places.Point.{Point}
use Rattle.compact_types.specs.declared.places.Places.{Places}
use Rattle.compact_types.specs.Lookups.{place, along}
use Rattle.gml_text.specs.declared.tree.Pair.{Pair}
use Rattle.gml_text.specs.declared.tree.Value.{Value}
use Rattle.gml_text.specs.declared.number.NumberFault.{NumberFault}
use Rattle.drawing_read.specs.declared.reading.Spot.{Spot}
use Rattle.drawing_read.specs.declared.numerals.Number.{Number}
use Rattle.drawing_read.specs.declared.numerals.Numbers.{Numbers}
use Rattle.drawing_read.specs.declared.written.Node.{Node}
use Rattle.drawing_read.specs.declared.numerals.WholeNumber.{WholeNumber}
use Rattle.drawing_read.specs.declared.numerals.WholeNumber.TheVariants.{Absent}
use Rattle.drawing_read.specs.Lookups.{list_in, first_under, first_list, place_under}
use Rattle.gml_text.specs.Thousandths.{thousandths_of}
use Rattle.drawing_read.specs.Numerals.{numeral_in, number_of, number_under, numbers_in, whole_in, whole_under}
use Rattle.drawing_read.specs.Written.{written_node}
use Rattle.drawing_read.specs.Spots.{spot, coordinate_spots, inside, node_spots}
use Rattle.gml_print.specs.Numbers.{number_text}
use Rattle.gml_print.specs.Placing.{with_changed_value}
use Rattle.gml_print.specs.Places.{numeral_for}
use Rattle.gml_print.proofs.ChangedLists.{same_places, apart_words}
use Rattle.gml_print.proofs.PutValues.{puts, replaced_by, replaced_by_list}
use Rattle.gml_print.proofs.MovedGraphs.{moved_numbers, moved_node}
use Rattle.gml_print.proofs.SpotPaths.{coordinates_relative, coordinates_lead, value_spots, value_lead}
use Rattle.gml_print.proofs.PlacedLists.{IsFirst, in_place, numerals_put, same_coordinates, IsPutInside, put_inside}

two_some : (a b : Option Number) (numbers : Numbers) →
    option_and_then (λ x. option_map (λ (y : Number). let both : Numbers = record { x = x; y = y } in both) b) a ≡ Some numbers → (a ≡ Some numbers.x) × (b ≡ Some numbers.y)
two_some None b numbers is = cc
two_some (Some x) None numbers is = cc
two_some (Some x) (Some y) numbers is =
    let same = same_Some (record { x = x; y = y }) numbers is in
    (ap (λ (n : Numbers). Some n.x) same, ap (λ (n : Numbers). Some n.y) same)

number_at : (at : ℕ) (o : Option (List ℕ)) (number : Number) →
    option_map (λ word. let read : Number = record { at = at; value = thousandths_of word } in read) o ≡ Some number → at ≡ number.at
number_at at None number is = cc
number_at at (Some word) number is = ap (λ (n : Number). n.at) (same_Some (record { at = at; value = thousandths_of word }) number is)

-- the pair of a number under a key
under_key : (key : List ℕ) (pairs : List Pair) (number : Number) → number_under key pairs ≡ Some number →
    (a : ℕ) × (pair : Pair) × (place_under key pairs ≡ Some a) × (first_under key pairs ≡ Some pair) × (pair.at ≡ number.at)
under_key key pairs number is = by_first (in_place key pairs)
  where
    by_first : ((place_under key pairs ≡ None) × (first_under key pairs ≡ None)) ⊎ ((a : ℕ) × (pair : Pair) × IsFirst key pairs a pair) →
        (a : ℕ) × (pair : Pair) × (place_under key pairs ≡ Some a) × (first_under key pairs ≡ Some pair) × (pair.at ≡ number.at)
    by_first (inl h) = let none : number_under key pairs ≡ None = ap (option_and_then number_of) h.1 in cc
    by_first (inr h) =
        let here : number_of h.1 ≡ Some number = sym (ap (option_and_then number_of) h.2.1) ∙ is in
        (h.0, h.1, h.2.0, h.2.1, number_at h.1.at (numeral_in h.1.value) number here)

made_number : ℕ → ℤ → Number
made_number at value = record { at = at; value = Ok value }

-- an option that is not none
some_of : {X : Type 0} (o : Option X) → is_none o ≡ false → (x : X) × (o ≡ Some x)
some_of None is = cc
some_of (Some x) is = (x, refl)

-- what stands inside a key has the same spots, where each list that was put has
pub inside_same : (places : Places) (pitch : ℕ) (spots : List ℕ → List Pair → List Spot) (change : List Pair → List Pair) (key : List ℕ) (old new : List Pair) →
    IsPutInside places pitch key change old new → ((path : List ℕ) (list : List Pair) → spots path (change list) ≡ spots path list) → (path : List ℕ) →
    inside key path new spots ≡ inside key path old spots
inside_same places pitch spots change key old new put same path =
    ap (λ (o : Option ℕ). inside_by o (first_list key new)) (same_places key new old put.keys)
    ∙ ap (inside_by (place_under key old)) put.list
    ∙ by_list (place_under key old) (first_list key old)
  where
    inside_by : Option ℕ → Option (List Pair) → List Spot
    inside_by place list = option_map_or (λ at. option_map_or (λ list. spots (path ++ at ∷ []) list) list []) place []

    by_list : (place : Option ℕ) (o : Option (List Pair)) → inside_by place (option_map change o) ≡ inside_by place o
    by_list None o = refl
    by_list (Some a) None = refl
    by_list (Some a) (Some list) = same (path ++ a ∷ []) list

module _ (places : Places) (pitch : ℕ) where
  abbrev pub placed_node : ℕ → List Pair → List Pair
  placed_node n pairs = puts places pitch (node_spots [] n pairs) pairs

  node_put : (n : ℕ) (pairs : List Pair) →
      IsPutInside places pitch (codes "graphics") (λ list. puts places pitch (coordinate_spots [] n list) list) pairs (placed_node n pairs)
  node_put n pairs = put_inside places pitch (λ path list. coordinate_spots path n list) (coordinates_relative n) (coordinates_lead n) (codes "graphics") pairs

  pub same_node_spots : (n : ℕ) (pairs : List Pair) (path : List ℕ) → node_spots path n (placed_node n pairs) ≡ node_spots path n pairs
  same_node_spots n pairs path =
      inside_same places pitch (λ path list. coordinate_spots path n list) (λ list. puts places pitch (coordinate_spots [] n list) list) (codes "graphics") pairs (placed_node n pairs)
      (node_put n pairs) (λ path list. same_coordinates places pitch n list path) path

  -- the value of a pair of a line that is a list
  abbrev pub placed_value : ℕ → Value → Value
  placed_value v value = replaced_by places pitch (value_spots [] v value) value

  pub value_list : (v : ℕ) (value : Value) →
      list_in (placed_value v value) ≡ option_map (λ list. puts places pitch (coordinate_spots [] v list) list) (list_in value)
  value_list v value =
      replaced_by_list places pitch (value_spots [] v value) value (value_lead v value) ∙ by_list (list_in value)
    where
      by_list : (o : Option (List Pair)) → option_map (puts places pitch (option_map_or (λ list. coordinate_spots [] v list) o [])) o ≡
          option_map (λ list. puts places pitch (coordinate_spots [] v list) list) o
      by_list None = refl
      by_list (Some list) = refl

  pub same_value_spots : (v : ℕ) (value : Value) (path : List ℕ) → value_spots path v (placed_value v value) ≡ value_spots path v value
  same_value_spots v value path =
      ap (λ (o : Option (List Pair)). option_map_or (λ list. coordinate_spots path v list) o []) (value_list v value) ∙ by_list (list_in value)
    where
      by_list : (o : Option (List Pair)) →
          option_map_or (λ list. coordinate_spots path v list) (option_map (λ list. puts places pitch (coordinate_spots [] v list) list) o) [] ≡
          option_map_or (λ list. coordinate_spots path v list) o []
      by_list None = refl
      by_list (Some list) = same_coordinates places pitch v list path

module _ (places : Places) (pitch : ℕ) (where_is : ℕ → Point)
    (tells : (axis : Axis) (v : ℕ) → thousandths_of (number_text (pos pitch *ℤ along axis (place places.xy v))) ≡ Ok (along axis (where_is v))) where
  new_number : (key : List ℕ) (axis : Axis) (v : ℕ) (new : List Pair) (pair : Pair) (number : Number) →
      first_under key new ≡ Some (with_changed_value (λ old. numeral_for places pitch (spot [] v axis 0)) pair) → pair.at ≡ number.at →
      number_under key new ≡ Some (made_number number.at (along axis (where_is v)))
  unfolding made_number
  new_number key axis v new pair number first at =
      ap (option_and_then number_of) first
      ∙ ap (λ (value : Result ℤ NumberFault). let n : Number = record { at = pair.at; value = value } in Some n) (tells axis v)
      ∙ ap (λ (at : ℕ). Some (made_number at (along axis (where_is v)))) at

  -- the numbers of a list with its numerals put are those of its vertex's new place
  pub numbers_placed : (v : ℕ) (pairs : List Pair) (numbers : Numbers) → numbers_in pairs ≡ Some numbers →
      numbers_in (puts places pitch (coordinate_spots [] v pairs) pairs) ≡ Some (moved_numbers where_is v numbers)
  unfolding made_number
  numbers_placed v pairs numbers is =
      let both = two_some (number_under (codes "x") pairs) (number_under (codes "y") pairs) numbers is in
      let x = under_key (codes "x") pairs numbers.x both.0 in
      let y = under_key (codes "y") pairs numbers.y both.1 in
      let put = numerals_put places pitch v pairs x.0 y.0 x.2 y.2 in
      let new = puts places pitch (coordinate_spots [] v pairs) pairs in
      let new_x : number_under (codes "x") new ≡ Some (made_number numbers.x.at (where_is v).x) =
      new_number (codes "x") X v new x.1 numbers.x (put.x ∙ ap (option_map (with_changed_value (λ old. numeral_for places pitch (spot [] v X 0)))) x.3) x.4 in
      let new_y : number_under (codes "y") new ≡ Some (made_number numbers.y.at (where_is v).y) =
      new_number (codes "y") Y v new y.1 numbers.y (put.y ∙ ap (option_map (with_changed_value (λ old. numeral_for places pitch (spot [] v Y 0)))) y.3) y.4 in
      joined (number_under (codes "x") new) (number_under (codes "y") new) (made_number numbers.x.at (where_is v).x) (made_number numbers.y.at (where_is v).y) new_x new_y
    where
      joined : (a b : Option Number) (x y : Number) → a ≡ Some x → b ≡ Some y →
          option_and_then (λ x. option_map (λ (y : Number). let both : Numbers = record { x = x; y = y } in both) b) a ≡ Some (record { x = x; y = y })
      joined a b x y first second = rw (first, second) refl

  -- the place of a node or point in a list, where there was one
  pub place_placed : (v : ℕ) (o : Option (List Pair)) → is_none (option_and_then numbers_in o) ≡ false →
      option_and_then numbers_in (option_map (λ list. puts places pitch (coordinate_spots [] v list) list) o) ≡
      option_map (moved_numbers where_is v) (option_and_then numbers_in o)
  place_placed v None is = cc
  place_placed v (Some list) is =
      let some = some_of (numbers_in list) is in
      numbers_placed v list some.0 some.1 ∙ sym (ap (option_map (moved_numbers where_is v)) some.1)

  made_node : WholeNumber → Option Numbers → Node
  made_node id place = record { id = id; place = place }

  -- a node with its numerals put is the moved node
  pub node_placed : (n : ℕ) (pairs : List Pair) → is_none (written_node pairs).place ≡ false → written_node (placed_node places pitch n pairs) ≡ moved_node where_is n (written_node pairs)
  unfolding made_node
  node_placed n pairs have =
      let put = node_put places pitch n pairs in
      ap (λ (o : Option Pair). made_node (option_map_or (λ (pair : Pair). whole_in pair.value) o Absent) (written_node (placed_node places pitch n pairs)).place)
      (put.others (codes "id") (apart_words (codes "graphics") (codes "id") refl))
      ∙ ap (made_node (whole_under (codes "id") pairs))
      (ap (option_and_then numbers_in) put.list ∙ place_placed n (first_list (codes "graphics") pairs) have)
