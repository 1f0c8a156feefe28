-- A text has one certificate, or one first fault.
use Rattle.std.proofs.Common.{◌≡◌, inl, inr, ℕ, zero, suc, ◌+◌, List, [], ◌∷◌, ◌++◌}
use Rattle.std.proofs.Common.{length, Option, None, Some, Result, Ok, Err, refl, sym, ap, ◌∙◌}
use Rattle.std.proofs.lemmas.List.{append-nil, append_assoc}
use Rattle.cert_text.specs.declared.fault.CertFault.{CertFault}
use Rattle.cert_text.specs.declared.fault.CertKind.TheVariants.{NoCertificate, BadLine}
use Rattle.cert_text.specs.declared.fault.CertKind.TheVariants.{MissingBranch, TrailingLine}
use Rattle.cert_text.specs.declared.tree.CertNode.{CertNode}
use Rattle.cert_text.specs.declared.tree.CertNode.TheVariants.{Split, Bound, Cycle}
use Rattle.cert_text.specs.Certificates.{HasNoHead, IsCertificate, IsCutAtLastHead, IsPitch}
use Rattle.cert_text.specs.Faults.{FirstCertFault, HasBadHead, IsReadTo, bad_head}
use Rattle.cert_text.specs.Faults.{bad_line, fault_at, missing_branch, no_certificate}
use Rattle.cert_text.specs.Faults.{trailing_line}
use Rattle.cert_text.specs.Texts.{certificate_text, entry_lines, head_line}
use Rattle.cert_text.specs.Trees.{left_after}
use Rattle.cert_text.specs.inner.Reading.{head_of}
use Rattle.cert_text.proofs.ReadHeads.{head_is_read, one_last_head}
use Rattle.cert_text.proofs.ReadReadings.{AreAllRead, EndsHere, HasNoEntry, entries_of_tree}
use Rattle.cert_text.proofs.ReadReadings.{one_reading}
use Rattle.cert_text.proofs.ReadWords.{same_found}

-- what a text shows: no head line, a bad one, or a head line and entries, as far as they go
data Sight : Type 0 where
  nothing : Sight
  bad_start : Sight
  entries_then : (pitch : ℕ) (nodes : List CertNode) (rest : List ℕ) → Sight

record IsReading (text front : List ℕ) (pitch : ℕ) (nodes : List CertNode)
    (rest : List ℕ) : Type 0 where
  cut : IsCutAtLastHead text front (head_line pitch ++ entry_lines nodes ++ rest)
  pitched : IsPitch pitch
  all : AreAllRead 1 nodes rest

data Shows (text : List ℕ) : Sight → Type 0 where
  no_head_line : HasNoHead text → Shows text nothing
  bad_head_line : (front rest : List ℕ) → IsCutAtLastHead text front rest → HasBadHead rest →
      Shows text bad_start
  reading : (front : List ℕ) (pitch : ℕ) (nodes : List CertNode) (rest : List ℕ) →
      IsReading text front pitch nodes rest → Shows text (entries_then pitch nodes rest)

no_bad_head : (text front rest other : List ℕ) (pitch : ℕ) (nodes : List CertNode)
    (after : List ℕ) →
    IsCutAtLastHead text front rest → HasBadHead rest → IsReading text other pitch nodes after → ⊥
no_bad_head text front rest other pitch nodes after cut bad read =
    let same = one_last_head text front other rest
    (head_line pitch ++ entry_lines nodes ++ after) cut (read.cut) in
    bad pitch (entry_lines nodes ++ after) (read.pitched)
    (same.rest_is ∙ append_assoc (head_line pitch) (entry_lines nodes) after)

same_reading : (text front : List ℕ) (pitch : ℕ) (nodes : List CertNode) (rest other : List ℕ)
    (number : ℕ) (others : List CertNode) (after : List ℕ) →
    IsReading text front pitch nodes rest → IsReading text other number others after →
    entries_then pitch nodes rest ≡ entries_then number others after
same_reading text front pitch nodes rest other number others after a b =
    let cut = one_last_head text front other (head_line pitch ++ entry_lines nodes ++ rest)
    (head_line number ++ entry_lines others ++ after) (a.cut) (b.cut) in
    let heads : head_line pitch ++ (entry_lines nodes ++ rest) ≡ head_line number ++
    (entry_lines others ++ after) =
    sym (append_assoc (head_line pitch) (entry_lines nodes) rest) ∙ cut.rest_is
    ∙ append_assoc (head_line number) (entry_lines others) after in
    let both = same_found pitch number (entry_lines nodes ++ rest) (entry_lines others ++ after)
    (sym (head_is_read pitch (entry_lines nodes ++ rest) (a.pitched)) ∙ ap head_of heads
    ∙ head_is_read number (entry_lines others ++ after) (b.pitched)) in
    let same = one_reading 1 nodes others rest after (a.all) (b.all) (both.1) in
    rw (both.0, same.nodes_are, same.rest_is) refl

one_sight : (text : List ℕ) (a b : Sight) → Shows text a → Shows text b → a ≡ b
one_sight text nothing nothing p q = refl
one_sight text bad_start bad_start p q = refl
one_sight text nothing bad_start (no_head_line none) (bad_head_line front rest cut is) =
    absurd (none front rest (cut.head))
one_sight text bad_start nothing (bad_head_line front rest cut is) (no_head_line none) =
    absurd (none front rest (cut.head))
one_sight text nothing (entries_then number others after) (no_head_line none)
    (reading other _ _ _ read) = absurd (none other _ (read.cut.head))
one_sight text (entries_then pitch nodes rest) nothing (reading front _ _ _ read)
    (no_head_line none) = absurd (none front _ (read.cut.head))
one_sight text bad_start (entries_then number others after) (bad_head_line front rest cut is)
    (reading other _ _ _ read) =
    absurd (no_bad_head text front rest other number others after cut is read)
one_sight text (entries_then number others after) bad_start (reading other _ _ _ read)
    (bad_head_line front rest cut is) =
    absurd (no_bad_head text front rest other number others after cut is read)
one_sight text (entries_then pitch nodes rest) (entries_then number others after)
    (reading front _ _ _ a) (reading other _ _ _ b) =
    same_reading text front pitch nodes rest other number others after a b

-- the answer to what a text shows
abbrev Answer : Type 0
Answer = Result (ℕ × List CertNode) CertFault

abbrev answer_by : ℕ → List CertNode → List ℕ → Option ℕ → Answer
answer_by pitch nodes rest None = Err (fault_at 0 NoCertificate)
answer_by pitch nodes [] (Some zero) = Ok (pitch, nodes)
answer_by pitch nodes (b ∷ rest) (Some zero) = Err (fault_at (length nodes + 2) TrailingLine)
answer_by pitch nodes [] (Some (suc left)) = Err (fault_at (length nodes + 2) MissingBranch)
answer_by pitch nodes (b ∷ rest) (Some (suc left)) = Err (fault_at (length nodes + 2) BadLine)

abbrev answer_of : Sight → Answer
answer_of nothing = Err (fault_at 0 NoCertificate)
answer_of bad_start = Err (fault_at 1 BadLine)
answer_of (entries_then pitch nodes rest) = answer_by pitch nodes rest (left_after 1 nodes)

-- the text shows something that has this answer
record Gets (text : List ℕ) (answer : Answer) : Type 0 where
  sight : Sight
  shown : Shows text sight
  is : answer_of sight ≡ answer

one_answer : (text : List ℕ) (a b : Answer) → Gets text a → Gets text b → a ≡ b
one_answer text a b p q = sym (p.is) ∙ ap answer_of
    (one_sight text (p.sight) (q.sight) (p.shown) (q.shown)) ∙ q.is

certificate_gets : (text : List ℕ) (pitch : ℕ) (nodes : List CertNode) →
    IsCertificate text pitch nodes →
    Gets text (Ok (pitch, nodes))
certificate_gets text pitch nodes is = record {
  sight = entries_then pitch nodes [];
  shown = reading (is.front) pitch nodes [] (record {
    cut = rw (append-nil (certificate_text pitch nodes)) (is.cut);
    pitched = is.pitched;
    all = record {
      entries = entries_of_tree nodes (is.tree);
      left = 0;
      after = is.tree.whole;
      ends = inl refl;
    };
  });
  is = ap (answer_by pitch nodes []) (is.tree.whole);
}

read_to : (text : List ℕ) (nodes : List CertNode) (rest : List ℕ) (left : ℕ)
    (is : IsReadTo text nodes rest) →
    left_after 1 nodes ≡ Some left → EndsHere left rest →
    Shows text (entries_then is.pitch nodes rest)
read_to text nodes rest left is after ends = reading (is.front) (is.pitch) nodes rest (record {
  cut = is.cut;
  pitched = is.pitched;
  all = record { entries = is.entries; left = left; after = after; ends = ends };
})

nothing_is_no_entry : HasNoEntry []
nothing_is_no_entry (Split s t) after is e = absurd (let f : [] ≡ 35 ∷ _ = e in cc)
nothing_is_no_entry (Bound x y) after is e = absurd (let f : [] ≡ 35 ∷ _ = e in cc)
nothing_is_no_entry (Cycle axis arcs) after is e = absurd (let f : [] ≡ 35 ∷ _ = e in cc)

trailing_answer : (pitch : ℕ) (nodes : List CertNode) (rest : List ℕ) → (rest ≡ [] → ⊥) →
    answer_by pitch nodes rest (Some 0) ≡ Err (fault_at (length nodes + 2) TrailingLine)
trailing_answer pitch nodes [] some = absurd (some refl)
trailing_answer pitch nodes (b ∷ rest) some = refl

bad_answer : (pitch : ℕ) (nodes : List CertNode) (rest : List ℕ) (left : ℕ) → (rest ≡ [] → ⊥) →
    answer_by pitch nodes rest (Some (suc left)) ≡ Err (fault_at (length nodes + 2) BadLine)
bad_answer pitch nodes [] left some = absurd (some refl)
bad_answer pitch nodes (b ∷ rest) left some = refl

fault_gets : (text : List ℕ) (fault : CertFault) → FirstCertFault text fault → Gets text (Err fault)
fault_gets text _ (no_certificate none) =
    record { sight = nothing; shown = no_head_line none; is = refl }
fault_gets text _ (bad_head front rest cut is) =
    record { sight = bad_start; shown = bad_head_line front rest cut is; is = refl }
fault_gets text _ (bad_line nodes rest read open_left is) = record {
  sight = entries_then read.pitch nodes rest;
  shown = read_to text nodes rest (suc (open_left.0)) read (open_left.1) (inr (is.bad));
  is = ap (answer_by read.pitch nodes rest) (open_left.1)
      ∙ bad_answer read.pitch nodes rest (open_left.0) (is.some);
}
fault_gets text _ (missing_branch nodes read open_left) = record {
  sight = entries_then read.pitch nodes [];
  shown = read_to text nodes [] (suc (open_left.0)) read (open_left.1) (inr nothing_is_no_entry);
  is = ap (answer_by read.pitch nodes []) (open_left.1);
}
fault_gets text _ (trailing_line nodes rest read whole some) = record {
  sight = entries_then read.pitch nodes rest;
  shown = read_to text nodes rest 0 read whole (inl refl);
  is = ap (answer_by read.pitch nodes rest) whole ∙ trailing_answer read.pitch nodes rest some;
}

-- The laws.

pub record IsSameCertificate (pitch number : ℕ) (nodes others : List CertNode) : Type 0 where
  pub pitch_is : pitch ≡ number
  pub nodes_are : nodes ≡ others

same_ok : (pitch number : ℕ) (nodes others : List CertNode) →
    ◌≡◌ {A = Answer} (Ok (pitch, nodes)) (Ok (number, others)) →
    IsSameCertificate pitch number nodes others
same_ok pitch number nodes others e =
    let a : ℕ × List CertNode = (pitch, nodes) in let b : ℕ × List CertNode = (number, others) in
    let same : a ≡ b = ok_same a b e in
    record {
      pitch_is = ap (λ (p : ℕ × List CertNode). p.0) same;
      nodes_are = ap (λ (p : ℕ × List CertNode). p.1) same;
    }
  where
    ok_same : (a b : ℕ × List CertNode) → ◌≡◌ {A = Answer} (Ok a) (Ok b) → a ≡ b
    ok_same a b e = cc

same_err : (a b : CertFault) → ◌≡◌ {A = Answer} (Err a) (Err b) → a ≡ b
same_err a b e = cc

not_ok_and_err : (a : ℕ × List CertNode) (b : CertFault) → ◌≡◌ {A = Answer} (Ok a) (Err b) → ⊥
not_ok_and_err a b e = absurd (cc)

pub same_certificate : (text : List ℕ) (pitch number : ℕ) (nodes others : List CertNode) →
    IsCertificate text pitch nodes → IsCertificate text number others →
    IsSameCertificate pitch number nodes others
same_certificate text pitch number nodes others a b =
    same_ok pitch number nodes others (one_answer text (Ok (pitch, nodes)) (Ok (number, others))
    (certificate_gets text pitch nodes a) (certificate_gets text number others b))

pub one_fault : (text : List ℕ) (a b : CertFault) → FirstCertFault text a → FirstCertFault text b →
    a ≡ b
one_fault text a b p q = same_err a b (one_answer text (Err a) (Err b) (fault_gets text a p)
    (fault_gets text b q))

pub not_both : (text : List ℕ) (pitch : ℕ) (nodes : List CertNode) (fault : CertFault) →
    IsCertificate text pitch nodes → FirstCertFault text fault → ⊥
not_both text pitch nodes fault p q =
    not_ok_and_err (pitch, nodes) fault (one_answer text (Ok (pitch, nodes)) (Err fault)
    (certificate_gets text pitch nodes p) (fault_gets text fault q))
