-- The choices of the children of a split are sound.
use Rattle.std.proofs.Common.{◌≡◌, ℕ, ◌+◌, ◌<◌, ◌≤◌, List, [], ◌∷◌, length, slice_index_or, ◌⊎◌, inl, inr, ap, sym, ◌∙◌, subst, arith, length-append}
use Rattle.std.proofs.lemmas.Bool.{cases_lt}
use Rattle.std.proofs.lemmas.List.{get_or_append_left, get_or_push}
use Rattle.compact_types.specs.declared.places.Places.{Places}
use Rattle.compact_types.specs.declared.plan.Shape.{Shape}
use Rattle.compact_types.specs.declared.search.Choice.{Choice}
use Rattle.bars.specs.Segments.{IsPair}
use Rattle.bars.specs.Solutions.{IsSound, IsChoice, Solves, choice_at, with_choice}
use Rattle.separation.specs.Meetings.{ShareAPoint}
use Rattle.separation.proofs.Laws.{chosen_apart}
use Rattle.board.specs.Facts.{AreSound}
use Rattle.board.specs.Histories.{children_of}
use Rattle.board.proofs.CoveredDrawings.{child_is}
use Rattle.board.proofs.FewChoices.{few_choices_of}

module _ (shape : Shape) (choices : List Choice) (whole : IsSound shape) (sound : AreSound shape choices)
    (places : Places) (solves : Solves shape choices places) (s t : ℕ) (pair : IsPair shape s t) (share : ShareAPoint shape places s t) where
  -- the pair is that of no choice
  not_chosen : (i : ℕ) → i < length choices → (choice_at choices i).s ≡ s → (choice_at choices i).t ≡ t → ⊥
  not_chosen i below first second =
      chosen_apart shape choices places whole.drawable sound.fit solves i below
      (subst (λ (k : ℕ). ShareAPoint shape places (choice_at choices i).s k) (sym second)
      (subst (λ (k : ℕ). ShareAPoint shape places k t) (sym first) share))

  module _ (side : ℕ) (few : side < 4) where
    abbrev last : Choice
    last = record { s = s; t = t; side = side }

    abbrev more : List Choice
    more = with_choice choices s t side

    long : length more ≡ length choices + 1
    long = length-append choices (last ∷ [])

    -- each choice is one of those before, or the last
    abbrev IsOneOf : ℕ → Type 0
    IsOneOf i = ((i < length choices) × (choice_at more i ≡ choice_at choices i)) ⊎ ((i ≡ length choices) × (choice_at more i ≡ last))

    one_of : (i : ℕ) → i < length more → IsOneOf i
    one_of i below = by_order (cases_lt i (length choices))
      where
        by_order : (i < length choices) ⊎ (length choices ≤ i) → IsOneOf i
        by_order (inl before) = inl (before, get_or_append_left choices (last ∷ []) (record { s = 0; t = 0; side = 0 }) i before)
        by_order (inr behind) =
            let is : i ≡ length choices = omega (arith, below, behind, long) in
            inr (is, get_or_push choices last (record { s = 0; t = 0; side = 0 }) i (sym is))

    each_fits : (i : ℕ) → IsOneOf i → IsChoice shape (choice_at more i)
    each_fits i (inl before) = subst (λ (choice : Choice). IsChoice shape choice) (sym before.1) (sound.fit.each i before.0)
    each_fits i (inr is) = subst (λ (choice : Choice). IsChoice shape choice) (sym is.1) (record { pair = pair; side = few })

    each_differs : (i j : ℕ) → IsOneOf i → IsOneOf j → (choice_at more i).s ≡ (choice_at more j).s → (choice_at more i).t ≡ (choice_at more j).t → i ≡ j
    each_differs i j (inl a) (inl b) first second =
        sound.different i j a.0 b.0
        (sym (ap (λ (c : Choice). c.s) a.1) ∙ first ∙ ap (λ (c : Choice). c.s) b.1)
        (sym (ap (λ (c : Choice). c.t) a.1) ∙ second ∙ ap (λ (c : Choice). c.t) b.1)
    each_differs i j (inl a) (inr b) first second =
        absurd (not_chosen i a.0
        (sym (ap (λ (c : Choice). c.s) a.1) ∙ first ∙ ap (λ (c : Choice). c.s) b.1)
        (sym (ap (λ (c : Choice). c.t) a.1) ∙ second ∙ ap (λ (c : Choice). c.t) b.1))
    each_differs i j (inr a) (inl b) first second =
        absurd (not_chosen j b.0
        (sym (ap (λ (c : Choice). c.s) b.1) ∙ sym first ∙ ap (λ (c : Choice). c.s) a.1)
        (sym (ap (λ (c : Choice). c.t) b.1) ∙ sym second ∙ ap (λ (c : Choice). c.t) a.1))
    each_differs i j (inr a) (inr b) first second = a.0 ∙ sym b.0

    pub one_more_sound : AreSound shape more
    one_more_sound = record {
      fit = record {
        few = let most = few_choices_of shape choices whole sound in omega (arith, most, long);
        each = λ i below. each_fits i (one_of i below);
      };
      different = λ i j in_i in_j first second. each_differs i j (one_of i in_i) (one_of j in_j) first second;
    }

  pub children_sound : (k : ℕ) → k < 4 → AreSound shape (slice_index_or (children_of choices s t) k [])
  children_sound k few =
      subst (λ (l : List Choice). AreSound shape l) (sym (child_is choices s t k few)) (one_more_sound k few)
