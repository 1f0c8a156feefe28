-- The entry of a line.
use Rattle.std.proofs.Common.{◌≡◌, ◌⊎◌, inl, inr, ⊎_elim, ℕ, List, [], ◌∷◌, ◌++◌, Option, None}
use Rattle.std.proofs.Common.{Some, decimal, refl, sym, ap, ◌∙◌, arith}
use Rattle.std.specs.Prelude.{codes, All}
use Rattle.std.proofs.lemmas.List.{append-nil, append_assoc}
use Rattle.compact_types.specs.declared.places.Axis.{Axis}
use Rattle.compact_types.specs.declared.places.Axis.TheVariants.{X, Y}
use Rattle.cert_text.specs.declared.tree.CertNode.{CertNode}
use Rattle.cert_text.specs.declared.tree.CertNode.TheVariants.{Split, Bound, Cycle}
use Rattle.cert_text.specs.declared.tree.Load.{Load}
use Rattle.cert_text.specs.declared.tree.TheConstants.{MOST_NUMBER}
use Rattle.cert_text.specs.Faults.{IsEntry}
use Rattle.cert_text.specs.Loads.{IsSmall}
use Rattle.cert_text.specs.Texts.{arcs_text, axis_text, entry_line, loads_text}
use Rattle.cert_text.specs.inner.Reading.{after_byte, after_word, arcs_read, at_end, bound_read}
use Rattle.cert_text.specs.inner.Reading.{by_word, cycle_from, cycle_of, entry_of, loads_of}
use Rattle.cert_text.specs.inner.Reading.{number_read, split_of}
use Rattle.cert_text.proofs.ReadLoads.{arcs_are, arcs_are_read, loads_are, loads_are_read}
use Rattle.cert_text.proofs.ReadLoads.{no_load_at_end, no_load_at_y, number_limit}
use Rattle.cert_text.proofs.ReadNumbers.{number_is, number_is_read}
use Rattle.cert_text.proofs.ReadWords.{after_byte_is, after_word_is, bind_some, word_is_read}

-- the line of an entry without its line feed
abbrev pub entry_body : CertNode → List ℕ
entry_body (Split s t) = codes "#! split " ++ decimal s ++ codes " " ++ decimal t
entry_body (Bound x y) = codes "#! bound x" ++ loads_text x ++ codes " y" ++ loads_text y
entry_body (Cycle axis arcs) = codes "#! cycle " ++ axis_text axis ++ arcs_text arcs

pub entry_line_is : (node : CertNode) → entry_line node ≡ entry_body node ++ 10 ∷ []
entry_line_is (Split s t) = refl
entry_line_is (Bound x y) = refl
entry_line_is (Cycle axis arcs) = refl

at_end_is : {A : Type 0} (value : A) (rest : List ℕ) (found : A) → at_end value rest ≡ Some found →
    (rest ≡ []) × (value ≡ found)
at_end_is value [] found h = (refl, cc)
at_end_is value (b ∷ rest) found h = absurd (let e : None ≡ Some found = h in cc)

-- the entry stands on the line
pub record IsEntryOf (line : List ℕ) (node : CertNode) : Type 0 where
  pub body : line ≡ entry_body node
  pub entry : IsEntry node

like : (line : List ℕ) (node found : CertNode) → node ≡ found → IsEntryOf line node →
    IsEntryOf line found
like line node found e is = rw (← e) is

split_front : (s t : ℕ) → codes "#! split " ++ decimal s ++ codes " " ++ decimal t
    ≡ codes "#! split " ++ (decimal s ++ 32 ∷ decimal t)
split_front s t = ap (λ end. codes "#! split " ++ end)
    (append_assoc (decimal s) (32 ∷ []) (decimal t))

split_is : (text : List ℕ) (node : CertNode) → split_of text ≡ Some node →
    IsEntryOf (codes "#! split " ++ text) node
unfolding split_of
split_is text node h =
    let s = bind_some (number_read MOST_NUMBER text) _ node h in
    let space = bind_some (after_byte 32 (s.0.1)) _ node (s.2) in
    let t = bind_some (number_read MOST_NUMBER (space.0)) _ node (space.2) in
    let end = at_end_is (Split (s.0.0) (t.0.0)) (t.0.1) node (t.2) in
    let s_is = number_is MOST_NUMBER text (s.0.0) (s.0.1) number_limit (s.1) in
    let t_is = number_is MOST_NUMBER (space.0) (t.0.0) (t.0.1) number_limit (t.1) in
    let rest : space.0 ≡ decimal (t.0.0) = t_is.cut ∙ ap (λ end. decimal (t.0.0) ++ end) (end.0)
    ∙ append-nil (decimal (t.0.0)) in
    let cut : text ≡ decimal (s.0.0) ++ 32 ∷ decimal (t.0.0) =
    s_is.cut ∙ ap (λ end. decimal (s.0.0) ++ end)
    (after_byte_is 32 (s.0.1) (space.0) (space.1) ∙ ap (λ end. 32 ∷ end) rest) in
    like (codes "#! split " ++ text) (Split (s.0.0) (t.0.0)) node (end.1) (record {
      body = ap (λ end. codes "#! split " ++ end) cut ∙ sym (split_front (s.0.0) (t.0.0));
      entry = record { in_range = (s_is.within, t_is.within); arc = tt };
    })

split_is_read : (s t : ℕ) → IsEntry (Split s t) →
    split_of (decimal s ++ 32 ∷ decimal t) ≡ Some (Split s t)
unfolding split_of
split_is_read s t is =
    let last : number_read MOST_NUMBER (decimal t) ≡ Some (t, []) =
    ap (number_read MOST_NUMBER) (sym (append-nil (decimal t)))
    ∙ number_is_read MOST_NUMBER t [] number_limit (is.in_range.1) refl in
    rw (number_is_read MOST_NUMBER s (32 ∷ decimal t) number_limit (is.in_range.0) refl, last) refl

bound_front : (x y : List Load) → codes "#! bound x" ++ loads_text x ++ codes " y" ++ loads_text y
    ≡ codes "#! bound x" ++ (loads_text x ++ 32 ∷ 121 ∷ loads_text y)
bound_front x y = ap (λ end. codes "#! bound x" ++ end)
    (append_assoc (loads_text x) (32 ∷ 121 ∷ []) (loads_text y))

bound_is : (text : List ℕ) (node : CertNode) → bound_read text ≡ Some node →
    IsEntryOf (codes "#! bound x" ++ text) node
unfolding bound_read
bound_is text node h =
    let x = loads_are text in
    let y_word = bind_some (after_word (codes " y") (loads_of text).1) _ node h in
    let y = loads_are (y_word.0) in
    let end = at_end_is (Bound (loads_of text).0 (loads_of (y_word.0)).0)
    (loads_of (y_word.0)).1 node (y_word.2) in
    let y_cut : y_word.0 ≡ loads_text (loads_of (y_word.0)).0 =
    y.cut ∙ ap (λ end. loads_text (loads_of (y_word.0)).0 ++ end) (end.0)
    ∙ append-nil (loads_text (loads_of (y_word.0)).0) in
    let cut : text ≡ loads_text (loads_of text).0 ++ 32 ∷ 121 ∷ loads_text (loads_of (y_word.0)).0 =
    x.cut ∙ ap (λ end. loads_text (loads_of text).0 ++ end)
    (after_word_is (codes " y") (loads_of text).1 (y_word.0) (y_word.1)
    ∙ ap (λ end. 32 ∷ 121 ∷ end) y_cut) in
    like (codes "#! bound x" ++ text) (Bound (loads_of text).0 (loads_of (y_word.0)).0) node (end.1)
    (record {
      body = ap (λ end. codes "#! bound x" ++ end) cut
          ∙ sym (bound_front (loads_of text).0 (loads_of (y_word.0)).0);
      entry = record { in_range = (x.are, y.are); arc = tt };
    })

bound_is_read : (x y : List Load) → IsEntry (Bound x y) →
    bound_read (loads_text x ++ 32 ∷ 121 ∷ loads_text y) ≡ Some (Bound x y)
unfolding bound_read
bound_is_read x y is =
    let first : loads_of (loads_text x ++ 32 ∷ 121 ∷ loads_text y) ≡ (x, 32 ∷ 121 ∷ loads_text y) =
    loads_are_read x (32 ∷ 121 ∷ loads_text y) (is.in_range.0) refl
    (λ least. no_load_at_y least (loads_text y)) in
    let last : loads_of (loads_text y) ≡ (y, []) =
    ap loads_of (sym (append-nil (loads_text y)))
    ∙ loads_are_read y [] (is.in_range.1) refl no_load_at_end in
    rw (first, word_is_read (codes " y") (loads_text y), last) refl

cycle_from_is : (axis : Axis) (found : List ℕ × List ℕ) (text : List ℕ) (node : CertNode) →
    text ≡ arcs_text found.0 ++ found.1 → All IsSmall found.0 → cycle_from axis found ≡ Some node →
    IsEntryOf (codes "#! cycle " ++ axis_text axis ++ text) node
cycle_from_is axis ([], rest) text node cut small h = absurd (let e : None ≡ Some node = h in cc)
cycle_from_is axis (arc ∷ arcs, rest) text node cut small h =
    let end = at_end_is (Cycle axis (arc ∷ arcs)) rest node h in
    like (codes "#! cycle " ++ axis_text axis ++ text) (Cycle axis (arc ∷ arcs)) node (end.1)
    (record {
      body = ap (λ end. codes "#! cycle " ++ axis_text axis ++ end)
          (cut ∙ ap (λ end. arcs_text (arc ∷ arcs) ++ end) (end.0)
          ∙ append-nil (arcs_text (arc ∷ arcs)));
      entry = record { in_range = small; arc = omega arith };
    })

cycle_is : (axis : Axis) (text : List ℕ) (node : CertNode) → cycle_of axis text ≡ Some node →
    IsEntryOf (codes "#! cycle " ++ axis_text axis ++ text) node
unfolding cycle_of
cycle_is axis text node h =
    let arcs = arcs_are text in cycle_from_is axis (arcs_read text) text node (arcs.cut)
    (arcs.small) h

cycle_is_read : (axis : Axis) (arcs : List ℕ) → IsEntry (Cycle axis arcs) →
    cycle_of axis (arcs_text arcs) ≡ Some (Cycle axis arcs)
unfolding cycle_of
cycle_is_read axis [] is = absurd (omega (arith, is.arc))
cycle_is_read axis (arc ∷ arcs) is = ap (cycle_from axis) (arcs_are_read (arc ∷ arcs) (is.in_range))

by_word_cases : {A : Type 0} (found : Option (List ℕ)) (value : List ℕ → Option A)
    (otherwise : Option A) (a : A) →
    by_word found value otherwise ≡ Some a →
    ((text : List ℕ) × (found ≡ Some text) × (value text ≡ Some a)) ⊎ (otherwise ≡ Some a)
by_word_cases None value otherwise a h = inr h
by_word_cases (Some text) value otherwise a h = inl (text, refl, h)

behind : (word line text : List ℕ) (node : CertNode) → after_word word line ≡ Some text →
    IsEntryOf (word ++ text) node → IsEntryOf line node
behind word line text node h is = record {
  body = after_word_is word line text h ∙ is.body;
  entry = is.entry;
}

pub entry_is : (line : List ℕ) (node : CertNode) → entry_of line ≡ Some node → IsEntryOf line node
unfolding entry_of
entry_is line node h =
    ⊎_elim (λ found. behind (codes "#! split ") line (found.0) node (found.1)
    (split_is (found.0) node (found.2)))
    (λ h. ⊎_elim (λ found. behind (codes "#! bound x") line (found.0) node (found.1)
    (bound_is (found.0) node (found.2)))
    (λ h. ⊎_elim (λ found. behind (codes "#! cycle x") line (found.0) node (found.1)
    (cycle_is X (found.0) node (found.2)))
    (λ h. ⊎_elim (λ found. behind (codes "#! cycle y") line (found.0) node (found.1)
    (cycle_is Y (found.0) node (found.2)))
    (λ h. absurd (let e : None ≡ Some node = h in cc))
    (by_word_cases (after_word (codes "#! cycle y") line) (cycle_of Y) None node h))
    (by_word_cases (after_word (codes "#! cycle x") line) (cycle_of X) _ node h))
    (by_word_cases (after_word (codes "#! bound x") line) bound_read _ node h))
    (by_word_cases (after_word (codes "#! split ") line) split_of _ node h)

pub entry_is_read : (node : CertNode) → IsEntry node → entry_of (entry_body node) ≡ Some node
unfolding entry_of after_word
entry_is_read (Split s t) is = ap entry_of (split_front s t) ∙ split_is_read s t is
entry_is_read (Bound x y) is = ap entry_of (bound_front x y) ∙ bound_is_read x y is
entry_is_read (Cycle X arcs) is = cycle_is_read X arcs is
entry_is_read (Cycle Y arcs) is = cycle_is_read Y arcs is
