-- One more step of a loop over a list.
use Rattle.compact_types.specs.declared.plan.Piece.{Piece}
use Rattle.drawing_read.specs.Spans.{chain}
use Rattle.std.proofs.Common.{◌≡◌, ℕ, suc, ◌+◌, ◌-◌, ◌<◌, arith, List, [], ◌∷◌, ◌++◌, length, take, get_or, Option, None, Some, sym, ap, ◌∙◌, append-nil, append_assoc}
use Rattle.std.proofs.lemmas.List.{take_more}
use Rattle.std.proofs.lemmas.List.Elements.{filter_map-append}
use Rattle.std.specs.List.{filter_map, cons_option, range_with_len}

module _ {X Y : Type 0} (h : X → Option Y) (xs : List X) (i : ℕ) (x : X) (within : i < length xs) (here : x ≡ get_or xs i x) where
  filter_map_more : (o : Option Y) → h x ≡ o → filter_map h (take (i + 1) xs) ≡ filter_map h (take i xs) ++ cons_option o []
  filter_map_more o is =
      ap (filter_map h) (take_more xs i x within) ∙ filter_map-append h (take i xs) (get_or xs i x ∷ [])
      ∙ ap (λ (o : Option Y). filter_map h (take i xs) ++ cons_option o []) (ap h (sym here) ∙ is)

  -- the next item is kept
  pub kept_more : (y : Y) → h x ≡ Some y → filter_map h (take (i + 1) xs) ≡ filter_map h (take i xs) ++ y ∷ []
  kept_more y is = filter_map_more (Some y) is

  -- the next item is left out
  pub left_more : h x ≡ None → filter_map h (take (i + 1) xs) ≡ filter_map h (take i xs)
  left_more is = filter_map_more None is ∙ append-nil (filter_map h (take i xs))

-- one more bend of a chain
pub chain_more : (old goal : List Piece) (from bend end to : ℕ) → bend < end →
    old ++ chain from (range_with_len bend (end - bend)) to ≡ goal →
    (old ++ record { from = from; to = bend } ∷ []) ++ chain bend (range_with_len (bend + 1) (end - (bend + 1))) to ≡ goal
chain_more old goal from bend end to below so_far =
    let e : end - bend ≡ suc (end - (bend + 1)) = omega arith in
    append_assoc old (record { from = from; to = bend } ∷ []) (chain bend (range_with_len (bend + 1) (end - (bend + 1))) to)
    ∙ ap (λ n. old ++ chain from (range_with_len bend n) to) (sym e) ∙ so_far
