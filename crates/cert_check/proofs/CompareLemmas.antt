-- Lists of points in their order, and the least tight places of a branch.
use Rattle.std.proofs.Common.{◌≡◌, ℕ, zero, suc, ◌+◌, ◌<◌, ◌≤◌, ℤ, List, [], ◌∷◌, length, map, Option, Some, None, ◌⊎◌, inl, inr, sym, ap, subst, ◌∙◌, arith}
use Rattle.std.specs.Prelude.{MatchOption}
use Rattle.std.proofs.lemmas.Int.{ints}
use Rattle.std.proofs.lemmas.Bool.{cases_lt}
use Rattle.std.proofs.lemmas.List.{ext_get_or}
use Rattle.compact_types.specs.declared.places.Axis.{Axis}
use Rattle.compact_types.specs.declared.places.Axis.TheVariants.{X, Y}
use Rattle.compact_types.specs.declared.places.Places.{Places}
use Rattle.compact_types.specs.declared.places.Point.{Point}
use Rattle.compact_types.specs.declared.plan.Shape.{Shape}
use Rattle.compact_types.specs.declared.search.Choice.{Choice}
use Rattle.compact_types.specs.declared.search.Flows.{Flows}
use Rattle.compact_types.specs.Lookups.{along, origin, place}
use Rattle.compact_types.specs.Orders.{IsListBefore, IsPointBefore, numbers_of}
use Rattle.compact_types.proofs.Laws.{list_before_trans, list_not_before_itself, same_point}
use Rattle.bars.specs.Segments.{node_count, node_of}
use Rattle.bars.specs.Solutions.{Fit, IsSound}
use Rattle.shape_graphs.specs.Backings.{flow_of}
use Rattle.shape_graphs.specs.Graphs.{arcs_of}
use Rattle.shape_graphs.specs.Flows.{number_at}
use Rattle.shape_graphs.proofs.Laws.{places_by}
use Rattle.diff_flow.specs.Tight.{AreLeastTight, AreTight}
use Rattle.potentials.specs.Standing.{StandAt, numbers_along}
use Rattle.potentials.specs.TightPlaces.{AreLeastTightPlaces}
use Rattle.potentials.proofs.Laws.{least_tight_places, none_where_none, places_by_stand}
use Rattle.shape_graphs.specs.declared.graph.Arc.{Arc}
use Rattle.shape_graphs.specs.declared.graph.DiffGraph.{DiffGraph}
use Rattle.shape_graphs.specs.Graphs.{IsGraphOf}
use Rattle.cert_text.specs.Accepting.{NoneEarlier}
use Rattle.cert_check.specs.Faults.{IsEarlierAt}
use Rattle.cert_check.specs.inner.Comparing.{AreSameBelow, IsFirstLess, IsNotFirstLess}
use Rattle.cert_check.proofs.FaultLemmas.{one_least}

-- a point is not before itself
pub not_before_itself : (p q : Point) → p ≡ q → IsPointBefore p q → ⊥
not_before_itself p q same (inl less) = let x = ap (λ (r : Point). r.x) same in omega (arith, ints, less, x)
not_before_itself p q same (inr less) = let y = ap (λ (r : Point). r.y) same in let lower = less.1 in omega (arith, ints, lower, y)

-- the lists are ordered as the points at the first difference
pub less_from_first : (points others : List Point) (v : ℕ) → v < length points → v < length others → AreSameBelow points others v →
    IsPointBefore (place points v) (place others v) → IsListBefore (numbers_of points) (numbers_of others)
less_from_first [] others v inside there same less = absurd (omega (arith, inside))
less_from_first (p ∷ points) [] v inside there same less = absurd (omega (arith, there))
less_from_first (p ∷ points) (q ∷ others) zero inside there same (inl x) = inl x
less_from_first (p ∷ points) (q ∷ others) zero inside there same (inr (x, y)) = inr (x, inl y)
less_from_first (p ∷ points) (q ∷ others) (suc v) inside there same less =
    let here : p ≡ q = same 0 (omega arith) in
    inr (
      ap (λ (r : Point). r.x) here,
      inr (
        ap (λ (r : Point). r.y) here,
        less_from_first points others v (omega (arith, inside)) (omega (arith, there)) (λ before below. same (suc before) (omega (arith, below))) less,
      ),
    )

-- where a vertex stands by its numbers
pub stands_at : (shape : Shape) (across up : List ℤ) (places : Places) (v : ℕ) (point : Point) → StandAt shape (numbers_along across up) places →
    v < shape.plan.vertices → point.x ≡ number_at across (node_of X shape v) → point.y ≡ number_at up (node_of Y shape v) → place places.xy v ≡ point
stands_at shape across up places v point stand inside x y =
    same_point (place places.xy v) point (stand.each X v inside ∙ sym x) (stand.each Y v inside ∙ sym y)

-- the points go on to be the same
pub same_more : (points others : List Point) (v n : ℕ) (p q : Point) → n ≡ v + 1 → AreSameBelow points others v → place points v ≡ p → place others v ≡ q →
    p ≡ q → AreSameBelow points others n
same_more points others v n p q is same at there here before below = by_place (cases_lt before v)
  where
    by_place : (before < v) ⊎ (v ≤ before) → place points before ≡ place others before
    by_place (inl less) = same before less
    by_place (inr most) =
        let last : before ≡ v = omega (arith, below, is, most) in
        ap (place points) last ∙ at ∙ here ∙ sym there ∙ ap (place others) (sym last)

-- they come first
pub first_is_less : (points others : List Point) (v : ℕ) (p q : Point) → v < length points → AreSameBelow points others v → place points v ≡ p →
    place others v ≡ q → IsPointBefore p q → IsFirstLess points others v
first_is_less points others v p q inside same at there less = record {
  inside = inside;
  same_before = same;
  less = subst (λ (r : Point). IsPointBefore r (place others v)) (sym at) (subst (λ (r : Point). IsPointBefore p r) (sym there) less);
}

-- they come later
pub first_is_greater : (points others : List Point) (v : ℕ) (p q : Point) → v < length points → v < length others → AreSameBelow points others v →
    place points v ≡ p → place others v ≡ q → IsPointBefore q p → IsNotFirstLess points others
first_is_greater points others v p q inside inside_others same at there less before =
    let back : IsPointBefore (place others v) (place points v) =
    subst (λ (r : Point). IsPointBefore r (place points v)) (sym there) (subst (λ (r : Point). IsPointBefore q r) (sym at) less) in
    let after = less_from_first others points v inside_others inside (λ k below. sym (same k below)) back in
    list_not_before_itself (numbers_of points) (list_before_trans (numbers_of points) (numbers_of others) (numbers_of points) before after)

-- they are the same
pub same_is_not_less : (points others : List Point) (n : ℕ) → length points ≡ n → length others ≡ n → AreSameBelow points others n →
    IsNotFirstLess points others
same_is_not_less points others n long long_others same before =
    let equal : points ≡ others = ext_get_or origin points others (long ∙ sym long_others) (λ v inside. same v (omega (arith, inside, long))) in
    list_not_before_itself (numbers_of others) (subst (λ (l : List Point). IsListBefore (numbers_of l) (numbers_of others)) equal before)

module _ (shape : Shape) (choices : List Choice) (sound : IsSound shape) (fit : Fit shape choices) (flows : Flows) (places : Places) where
  -- no places are tight where an axis has no tight numbers
  pub none_earlier : (axis : Axis) (graph : DiffGraph) → IsGraphOf axis shape choices graph →
      ((numbers : ℕ → ℤ) → AreTight graph.nodes graph.arcs (flow_of axis flows).amounts numbers → ⊥) → NoneEarlier shape choices flows places
  none_earlier axis graph is none least tight before =
      none_where_none shape choices sound fit flows axis
      (λ numbers there. none numbers (
      subst (λ (n : ℕ). AreTight n graph.arcs (flow_of axis flows).amounts numbers) (sym is.nodes)
      (subst (λ (arcs : List Arc). AreTight (node_count axis shape) arcs (flow_of axis flows).amounts numbers) (sym is.arcs) there)))
      least tight.tight

  -- the places of the least tight numbers
  module _ (across up : List ℤ) where
    abbrev made : Places
    made = places_by shape (numbers_along across up)

    made_stands : StandAt shape (numbers_along across up) made
    made_stands = places_by_stand shape (numbers_along across up)

    module _ (columns rows : DiffGraph) (is_columns : IsGraphOf X shape choices columns) (is_rows : IsGraphOf Y shape choices rows)
        (x : AreLeastTight columns.nodes columns.arcs flows.x.amounts (number_at across))
        (y : AreLeastTight rows.nodes rows.arcs flows.y.amounts (number_at up)) where
      made_least : AreLeastTightPlaces shape choices flows made
      made_least = least_tight_places shape choices sound fit flows (numbers_along across up) made made_stands by_axis
        where
          by_axis : (axis : Axis) → AreLeastTight (node_count axis shape) (arcs_of axis shape choices) (flow_of axis flows).amounts (numbers_along across up axis)
          by_axis X = subst (λ (n : ℕ). AreLeastTight n (arcs_of X shape choices) flows.x.amounts (number_at across)) is_columns.nodes
              (subst (λ (arcs : List Arc). AreLeastTight columns.nodes arcs flows.x.amounts (number_at across)) is_columns.arcs x)
          by_axis Y = subst (λ (n : ℕ). AreLeastTight n (arcs_of Y shape choices) flows.y.amounts (number_at up)) is_rows.nodes
              (subst (λ (arcs : List Arc). AreLeastTight rows.nodes arcs flows.y.amounts (number_at up)) is_rows.arcs y)

      -- whether these come before the drawing
      pub earlier_from_numbers : length places.xy ≡ shape.plan.vertices → (found : Option ℕ) →
          ((others : Places) → StandAt shape (numbers_along across up) others →
          MatchOption found (IsNotFirstLess others.xy places.xy) (IsFirstLess others.xy places.xy)) →
          MatchOption found (NoneEarlier shape choices flows places) (IsEarlierAt shape choices flows places)
      earlier_from_numbers fits None says = λ least tight before.
          says made made_stands
          (subst (λ (l : List Point). IsListBefore (numbers_of l) (numbers_of places.xy)) (one_least shape choices flows least made tight made_least) before)
      earlier_from_numbers fits (Some v) says =
          let first : IsFirstLess made.xy places.xy v = says made made_stands in
          let long = made_stands.places_fit in
          let inside = first.inside in
          record {
            least = made;
            tight = made_least;
            before = less_from_first made.xy places.xy v inside (omega (arith, inside, long, fits)) first.same_before first.less;
            differ = record {
              inside = inside;
              differs = λ same. not_before_itself (place made.xy v) (place places.xy v) same first.less;
              same_before = first.same_before;
            };
          }
