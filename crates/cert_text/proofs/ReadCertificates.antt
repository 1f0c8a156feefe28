-- What reading a text from its last head line on shows of the text.
use Rattle.std.proofs.Common.{◌≡◌, ℕ, ◌-◌, ◌<◌, ◌≤◌, List, [], ◌∷◌, ◌++◌, length, length-append}
use Rattle.std.proofs.Common.{take, drop, None, Some, Result, Ok, Err, sym, ap, ◌∙◌, arith}
use Rattle.std.specs.Prelude.{IfOk}
use Rattle.std.proofs.lemmas.List.{append_assoc, take_rest}
use Rattle.compact_types.specs.Refusals.{IfFault}
use Rattle.compact_types.specs.declared.refusal.Refusal.{Refusal}
use Rattle.compact_types.specs.declared.refusal.Refusal.TheVariants.{Fault, NoMemory}
use Rattle.cert_text.specs.declared.fault.CertFault.{CertFault}
use Rattle.cert_text.specs.declared.fault.CertKind.TheVariants.{BadLine}
use Rattle.cert_text.specs.declared.tree.CertNode.{CertNode}
use Rattle.cert_text.specs.declared.tree.CertNode.TheVariants.{Split, Bound, Cycle}
use Rattle.cert_text.specs.declared.tree.CertTree.{CertTree}
use Rattle.cert_text.specs.Certificates.{IsCertificate, IsCutAtLastHead, IsPitch}
use Rattle.cert_text.specs.Faults.{FirstCertFault, IsReadTo, bad_head, bad_line, fault_at}
use Rattle.cert_text.specs.Faults.{missing_branch, trailing_line}
use Rattle.cert_text.specs.Texts.{certificate_text, entry_line, entry_lines, head_line}
use Rattle.cert_text.specs.inner.Bodies.{BeginsWith, FirstBodyFault, IsBody}
use Rattle.cert_text.specs.inner.Bodies as bodies
use Rattle.cert_text.specs.inner.Reading.{head_of}
use Rattle.cert_text.proofs.ReadHeads.{head_is, head_is_read}

pub bad_head_is : (text : List ℕ) (at : ℕ) → IsCutAtLastHead text (take at text) (drop at text) →
    head_of (take (length text - at) (drop at text)) ≡ None →
    FirstCertFault text (fault_at 1 BadLine)
bad_head_is text at cut none = bad_head (take at text) (drop at text) cut (λ pitch after is e.
    absurd (let f : None ≡ Some (pitch, after) =
    sym none ∙ ap head_of (take_rest text at ∙ e) ∙ head_is_read pitch after is in cc))

cut_along : (text front rest other : List ℕ) → rest ≡ other → IsCutAtLastHead text front rest →
    IsCutAtLastHead text front other
cut_along text front rest other e cut = rw e at cut

-- from the last head line on, the text is a right head line and a rest
pub record HasHead (text : List ℕ) (pitch : ℕ) (rest : List ℕ) : Type 0 where
  pub front : List ℕ
  pub cut : IsCutAtLastHead text front (head_line pitch ++ rest)
  pub pitched : IsPitch pitch

pub has_head : (text : List ℕ) (at pitch : ℕ) (rest : List ℕ) →
    IsCutAtLastHead text (take at text) (drop at text) →
    head_of (take (length text - at) (drop at text)) ≡ Some (pitch, rest) → HasHead text pitch rest
has_head text at pitch rest cut found =
    let is = head_is (drop at text) pitch rest (ap head_of (sym (take_rest text at)) ∙ found) in
    record {
      front = take at text;
      cut = cut_along text (take at text) (drop at text)
          (head_line pitch ++ rest) (is.cut) cut;
      pitched = is.pitched;
    }

pub certificate_is : (text : List ℕ) (at pitch : ℕ) (rest : List ℕ) (nodes : List CertNode) →
    IsCutAtLastHead text (take at text) (drop at text) →
    head_of (take (length text - at) (drop at text)) ≡ Some (pitch, rest) → IsBody rest nodes →
    IsCertificate text pitch nodes
certificate_is text at pitch rest nodes cut found body =
    let head = has_head text at pitch rest cut found in
    record {
      front = head.front;
      cut = cut_along text head.front (head_line pitch ++ rest)
          (certificate_text pitch nodes) (ap (λ end. head_line pitch ++ end) (body.cut)) (head.cut);
      pitched = head.pitched;
      tree = body.tree;
    }

read_to : (text : List ℕ) (pitch : ℕ) (rest : List ℕ) (nodes : List CertNode) (after : List ℕ) →
    HasHead text pitch rest → BeginsWith rest nodes after → IsReadTo text nodes after
read_to text pitch rest nodes after head begins = record {
  front = head.front;
  pitch = pitch;
  pitched = head.pitched;
  cut = cut_along text head.front (head_line pitch ++ rest)
      (head_line pitch ++ entry_lines nodes ++ after)
      (ap (λ end. head_line pitch ++ end) (begins.cut)
      ∙ sym (append_assoc (head_line pitch) (entry_lines nodes) after)) (head.cut);
  entries = begins.entries;
}

pub fault_of_body : (text : List ℕ) (pitch : ℕ) (rest : List ℕ) (fault : CertFault) →
    HasHead text pitch rest → FirstBodyFault rest fault → FirstCertFault text fault
fault_of_body text pitch rest _ head (bodies.bad_line nodes after begins unfinished bad) =
    bad_line nodes after (read_to text pitch rest nodes after head begins) unfinished bad
fault_of_body text pitch rest _ head (bodies.missing_branch nodes begins unfinished) =
    missing_branch nodes (read_to text pitch rest nodes [] head begins) unfinished
fault_of_body text pitch rest _ head (bodies.trailing_line nodes after begins whole some) =
    trailing_line nodes after (read_to text pitch rest nodes after head begins) whole some

pub body_fault_is : (T U : Type 0) (text : List ℕ) (at pitch : ℕ) (rest : List ℕ)
    (refusal : Refusal CertFault) →
    IsCutAtLastHead text (take at text) (drop at text) →
    head_of (take (length text - at) (drop at text)) ≡ Some (pitch, rest) →
    IfFault {T = T} (Err refusal) (FirstBodyFault rest) →
    IfFault {T = U} (Err refusal) (FirstCertFault text)
body_fault_is T U text at pitch rest (Fault fault) cut found is =
    fault_of_body text pitch rest fault (has_head text at pitch rest cut found) is
body_fault_is T U text at pitch rest NoMemory cut found is = tt

-- pitch and tree with the same parts
pub same_tree : (a b : ℕ × CertTree) → a.0 ≡ b.0 → a.1.nodes ≡ b.1.nodes → a ≡ b
same_tree a b e f =
    let tree : ℕ → List CertNode → ℕ × CertTree =
    λ pitch nodes. (pitch, record { nodes = nodes }) in
    ap (λ pitch. tree pitch a.1.nodes) e ∙ ap (tree b.0) f

-- There are fewer entries than bytes.

line_has_byte : (node : CertNode) → 1 ≤ length (entry_line node)
line_has_byte (Split s t) = omega arith
line_has_byte (Bound x y) = omega arith
line_has_byte (Cycle axis arcs) = omega arith

enough_lines : (nodes : List CertNode) → length nodes ≤ length (entry_lines nodes)
enough_lines [] = omega arith
enough_lines (node ∷ nodes) =
    omega (
      arith,
      enough_lines nodes,
      line_has_byte node,
      length-append (entry_line node) (entry_lines nodes),
    )

pub few_entries : (text : List ℕ) (pitch : ℕ) (nodes : List CertNode) → IsCertificate text pitch nodes →
    length nodes < length text
few_entries text pitch nodes is =
    let head : 1 ≤ length (head_line pitch) = omega arith in
    omega (
      arith,
      ap length (is.cut.head.cut),
      length-append (is.front) (certificate_text pitch nodes),
      length-append (head_line pitch) (entry_lines nodes),
      enough_lines nodes,
    )

pub few : (text : List ℕ) (result : Result (ℕ × CertTree) (Refusal CertFault)) →
    IfOk result (λ found. IsCertificate text found.0 found.1.nodes) →
    IfOk result (λ found. length found.1.nodes < length text)
few text (Ok found) value = few_entries text found.0 found.1.nodes value
few text (Err refusal) value = tt
