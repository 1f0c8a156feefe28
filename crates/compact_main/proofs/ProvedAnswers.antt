-- A text that holds a drawing is proved, or is not for one first cause at most: the fault of its
-- certificate's text, a vertex that does not stand on the grid, or what the certificate does not
-- show.
use Rattle.std.proofs.Common.{◌≡◌, ℕ, ◌≤◌, pos, List, [], ◌∷◌, length, ◌⊎◌, inl, inr, sym, ap, ◌∙◌, subst, arith}
use Rattle.std.specs.Prelude.{◌≤ℤ◌}
use Rattle.std.proofs.lemmas.Int.{ints}
use Rattle.compact_types.specs.declared.limits.TheConstants.{GREATEST_THOUSANDTHS, MOST_CHOICES}
use Rattle.compact_types.specs.declared.places.Places.{Places}
use Rattle.compact_types.specs.declared.plan.Plan.{Plan}
use Rattle.compact_types.specs.Magnitudes.{AreWithin}
use Rattle.cert_text.specs.declared.tree.CertNode.{CertNode}
use Rattle.cert_text.specs.Certificates.{IsCertificate, IsPitch}
use Rattle.cert_text.specs.declared.fault.CertFault.{CertFault}
use Rattle.cert_text.specs.declared.tree.CertTree.{CertTree}
use Rattle.cert_text.specs.Faults.{FirstCertFault}
use Rattle.cert_text.specs.Loads.{IsCertTree}
use Rattle.cert_text.specs.Trees.{IsShallow}
use Rattle.cert_check.specs.declared.fault.CheckFault.{CheckFault}
use Rattle.compact_types.proofs.Laws.{drawing-scaled, within-scaled, one_scaled, scaled_not_off, one_first_off, some_scaled_or_off}
use Rattle.cert_text.proofs.Laws.{accepted_best, few_entries, one_certificate, whole_shallow, shallower_from}
use Rattle.cert_check.proofs.Laws.{one_check, only_fault, no_fault}
use Rattle.gml_text.specs.declared.limits.TheConstants.{MOST_BYTES}
use Rattle.compact_main.specs.declared.command.Command.TheVariants.{Verify}
use Rattle.compact_main.specs.declared.drawing.Drawing.{Drawing}
use Rattle.compact_main.specs.declared.status.Unproved.{Unproved}
use Rattle.compact_main.specs.declared.status.Unproved.TheVariants as unproved
use Rattle.compact_main.specs.Drawings.{shape_of, grid_step, AreBestPlaces, IsAccepted, IsFirstFlaw, IsOnGridAt, IsFirstOffGrid}
use Rattle.compact_main.specs.Outputs.{IsInput, IsProved, FirstUnproved}
use Rattle.compact_main.specs.inner.CertificateChecks.{CanCheckCertificate, CanMeasure}
use Rattle.compact_main.proofs.ReadShapes.{is_drawing, sound_shape, within_limits}

-- a step of the grid has some thousandths
pub some_step : (pitch : ℕ) → 1 ≤ pitch → pos 1 ≤ℤ grid_step pitch
some_step pitch some = omega (arith, ints, some)

-- a certificate is no deeper than it is long
pub shallow : (nodes : List CertNode) → IsCertTree nodes → length nodes ≤ MOST_BYTES → IsShallow MOST_CHOICES nodes
shallow nodes tree few =
    shallower_from (length nodes) MOST_CHOICES nodes (0 ∷ []) (omega (arith, few)) (whole_shallow nodes tree.whole)

-- what is asked for a check is there
module _ (text : List ℕ) (drawing : Drawing) (input : IsInput Verify text drawing) where
  near : (pitch : ℕ) (places : Places) → IsPitch pitch → IsOnGridAt drawing pitch places → AreWithin GREATEST_THOUSANDTHS places
  near pitch places pitched scaled =
      within-scaled (grid_step pitch) GREATEST_THOUSANDTHS drawing.reading.places places (some_step pitch pitched.some) scaled
      (within_limits drawing.tree drawing.reading input.holds.read).within_reach

  pub can_check : (pitch : ℕ) (nodes : List CertNode) (places : Places) → IsPitch pitch → IsCertTree nodes → length nodes ≤ MOST_BYTES →
      IsOnGridAt drawing pitch places → CanCheckCertificate (shape_of drawing) places nodes
  can_check pitch nodes places pitched tree few scaled = record {
    drawing = drawing-scaled (grid_step pitch) (shape_of drawing) drawing.reading.places places (some_step pitch pitched.some) scaled
        (is_drawing drawing.reading.plan drawing.reading.places (shape_of drawing) input.holds.checked);
    near = near pitch places pitched scaled;
    whole = tree.whole;
    in_range = tree.in_range;
    shallow = shallow nodes tree few;
  }

  -- proved places can be measured
  pub can_measure : (pitch : ℕ) (places : Places) → IsPitch pitch → IsOnGridAt drawing pitch places → CanMeasure (shape_of drawing) places
  can_measure pitch places pitched scaled =
      let limits = within_limits drawing.tree drawing.reading input.holds.read in
      let planned = subst (λ (p : Plan). length drawing.reading.places.xy ≡ p.vertices) (sym input.holds.checked.same_plan) limits.places_fit in
      record {
        fit = sym scaled.points ∙ planned;
        near = near pitch places pitched scaled;
      }

-- a proved drawing is the best one of its shape
pub proved_best : (text : List ℕ) (drawing : Drawing) (places : Places) → IsProved text drawing places → AreBestPlaces drawing places
proved_best text drawing places is =
    let few = few_entries text is.pitch is.nodes is.certificate in
    let within = is.input.within in
    let can = can_check text drawing is.input is.pitch is.nodes places is.certificate.pitched is.certificate.tree (omega (arith, few, within)) is.scaled in
    accepted_best (shape_of drawing) places is.nodes
    (sound_shape drawing.tree drawing.reading (shape_of drawing) is.input.holds.read is.input.holds.checked) can.shallow is.accepted

-- a certificate as it is read: its pitch and its tree
abbrev Found : Type 0
Found = ℕ × CertTree

abbrev IsFound : List ℕ → Found → Type 0
IsFound text found = IsCertificate text found.0 found.1.nodes

abbrev found_of : ℕ → List CertNode → Found
found_of pitch nodes = (pitch, record { nodes = nodes })

module _ (text : List ℕ) (drawing : Drawing) where
  -- the cause, where the certificate is this
  abbrev IsOff : Found → ℕ → Type 0
  IsOff found vertex = IsFirstOffGrid drawing found.0 vertex

  abbrev IsOn : Found → Places → Type 0
  IsOn found places = IsOnGridAt drawing found.0 places

  abbrev IsWrong : Found → CheckFault → Type 0
  IsWrong found fault = (places : Places) × IsOn found places × IsFirstFlaw drawing places found.1.nodes fault

  abbrev IsShown : Found → Places → Type 0
  IsShown found places = IsOn found places × IsAccepted drawing places found.1.nodes

  same_found : (a b : Found) → IsFound text a → IsFound text b → a ≡ b
  same_found a b first second = (one_certificate text).one_value a b first second

  no_text_fault : (found : Found) (fault : CertFault) → IsFound text found → FirstCertFault text fault → ⊥
  no_text_fault found fault is first = (one_certificate text).not_both found fault is first

  same_places : (found : Found) (p q : Places) → IsFound text found → IsOn found p → IsOn found q → p ≡ q
  same_places found p q is on on_too = one_scaled (grid_step found.0) drawing.reading.places p q (some_step found.0 is.pitched.some) on on_too

  one_wrong : (found : Found) (f g : CheckFault) → IsFound text found → IsWrong found f → IsWrong found g → f ≡ g
  one_wrong found f g is (p, on, first) (q, on_too, second) =
      only_fault (shape_of drawing) q found.1.nodes f g
      (subst (λ (places : Places). IsFirstFlaw drawing places found.1.nodes f) (same_places found p q is on on_too) first) second

  not_off_and_on : (found : Found) (places : Places) (vertex : ℕ) → IsOn found places → IsOff found vertex → ⊥
  not_off_and_on found places vertex on off = scaled_not_off (grid_step found.0) drawing.reading.places places vertex on off

  -- one cause at most
  pub one_cause : (a b : Unproved) → FirstUnproved text drawing a → FirstUnproved text drawing b → a ≡ b
  one_cause (unproved.Cert f) (unproved.Cert g) first second = ap (λ (fault : CertFault). unproved.Cert fault) ((one_certificate text).one_fault f g first second)
  one_cause (unproved.Cert f) (unproved.NotWhole w) first (p, n, is, off) = absurd (no_text_fault (found_of p n) f is first)
  one_cause (unproved.Cert f) (unproved.Check g) first (p, n, is, places, on, wrong) = absurd (no_text_fault (found_of p n) f is first)
  one_cause (unproved.NotWhole v) (unproved.Cert g) (p, n, is, off) second = absurd (no_text_fault (found_of p n) g is second)
  one_cause (unproved.NotWhole v) (unproved.NotWhole w) (p, n, is, off) (q, m, is_too, off_too) =
      let same = same_found (found_of p n) (found_of q m) is is_too in
      ap (λ (vertex : ℕ). unproved.NotWhole vertex)
      (one_first_off (grid_step q) drawing.reading.places v w (subst (λ (found : Found). IsOff found v) same off) off_too)
  one_cause (unproved.NotWhole v) (unproved.Check g) (p, n, is, off) (q, m, is_too, places, on, wrong) =
      let same = same_found (found_of p n) (found_of q m) is is_too in
      absurd (not_off_and_on (found_of q m) places v on (subst (λ (found : Found). IsOff found v) same off))
  one_cause (unproved.Check f) (unproved.Cert g) (p, n, is, places, on, wrong) second = absurd (no_text_fault (found_of p n) g is second)
  one_cause (unproved.Check f) (unproved.NotWhole w) (p, n, is, places, on, wrong) (q, m, is_too, off) =
      let same = same_found (found_of q m) (found_of p n) is_too is in
      absurd (not_off_and_on (found_of p n) places w on (subst (λ (found : Found). IsOff found w) same off))
  one_cause (unproved.Check f) (unproved.Check g) (p, n, is, places, on, wrong) (q, m, is_too, others, on_too, wrong_too) =
      let same = same_found (found_of p n) (found_of q m) is is_too in
      ap (λ (fault : CheckFault). unproved.Check fault)
      (one_wrong (found_of q m) f g is_too (subst (λ (found : Found). IsWrong found f) same (places, on, wrong)) (others, on_too, wrong_too))

  -- and none where the text is proved
  pub no_cause : (places : Places) (cause : Unproved) → IsProved text drawing places → FirstUnproved text drawing cause → ⊥
  no_cause places (unproved.Cert f) is first = no_text_fault (found_of is.pitch is.nodes) f is.certificate first
  no_cause places (unproved.NotWhole v) is (q, m, is_too, off) =
      let same = same_found (found_of q m) (found_of is.pitch is.nodes) is_too is.certificate in
      not_off_and_on (found_of is.pitch is.nodes) places v is.scaled (subst (λ (found : Found). IsOff found v) same off)
  no_cause places (unproved.Check f) is (q, m, is_too, others, on, wrong) =
      let own = found_of is.pitch is.nodes in
      let same = same_found (found_of q m) own is_too is.certificate in
      let (moved, here, first) : IsWrong own f = subst (λ (found : Found). IsWrong found f) same (others, on, wrong) in
      no_fault (shape_of drawing) places is.nodes is.accepted f
      (subst (λ (p : Places). IsFirstFlaw drawing p is.nodes f) (same_places own moved places is.certificate here is.scaled) first)

  -- the places of a proved drawing
  pub one_proved : (p q : Places) → IsProved text drawing p → IsProved text drawing q → p ≡ q
  one_proved p q is is_too =
      let own = found_of is_too.pitch is_too.nodes in
      let same = same_found (found_of is.pitch is.nodes) own is.certificate is_too.certificate in
      same_places own p q is_too.certificate (subst (λ (found : Found). IsOn found p) same is.scaled) is_too.scaled

-- one of the two
module _ (text : List ℕ) (drawing : Drawing) (input : IsInput Verify text drawing) where
  abbrev HasCause : Type 0
  HasCause = ((places : Places) × IsProved text drawing places) ⊎ ((cause : Unproved) × FirstUnproved text drawing cause)

  by_check : (found : Found) (places : Places) → IsFound text found → IsOn text drawing found places →
      (Unit {0} × IsAccepted drawing places found.1.nodes) ⊎ ((fault : CheckFault) × IsFirstFlaw drawing places found.1.nodes fault) → HasCause
  by_check found places is on (inl (shown, accepted)) = inl (
    places,
    record { input = input; pitch = found.0; nodes = found.1.nodes; certificate = is; scaled = on; accepted = accepted },
  )
  by_check found places is on (inr (fault, wrong)) = inr (unproved.Check fault, (found.0, found.1.nodes, is, places, on, wrong))

  by_grid : (found : Found) → IsFound text found →
      ((places : Places) × IsOn text drawing found places) ⊎ ((vertex : ℕ) × IsOff text drawing found vertex) → HasCause
  by_grid found is (inl (places, on)) =
      let few : length found.1.nodes ≤ MOST_BYTES =
      (let least = few_entries text found.0 found.1.nodes is in let within = input.within in omega (arith, least, within)) in
      let can = can_check text drawing input found.0 found.1.nodes places is.pitched is.tree few on in
      let sound = sound_shape drawing.tree drawing.reading (shape_of drawing) input.holds.read input.holds.checked in
      by_check found places is on (one_check (shape_of drawing) places found.1.nodes sound can.drawing can.whole can.in_range can.shallow).some
  by_grid found is (inr (vertex, off)) = inr (unproved.NotWhole vertex, (found.0, found.1.nodes, is, off))

  by_text : ((found : Found) × IsFound text found) ⊎ ((fault : CertFault) × FirstCertFault text fault) → HasCause
  by_text (inl (found, is)) =
      by_grid found is (some_scaled_or_off (grid_step found.0) (some_step found.0 is.pitched.some) drawing.reading.places)
  by_text (inr (fault, first)) = inr (unproved.Cert fault, first)

  pub proved_or_not : HasCause
  proved_or_not = by_text (one_certificate text).some
