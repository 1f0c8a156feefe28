-- Every text has an answer.
use Rattle.std.proofs.Common.{◌≡◌, ◌⊎◌, inl, inr, ⊎_elim, ℕ, zero, suc, ◌+◌, ◌-◌, ◌<◌, ◌≤◌, Bool}
use Rattle.std.proofs.Common.{true, false, eqb, List, [], ◌∷◌, ◌++◌, length, take, drop, Option}
use Rattle.std.proofs.Common.{None, Some, refl, sym, ap, ◌∙◌, arith, length-drop}
use Rattle.std.specs.List.{prefix_len}
use Rattle.std.proofs.lemmas.Bool.{cases_lt}
use Rattle.std.proofs.lemmas.Bool.Decides.{Decides-eqb}
use Rattle.std.proofs.lemmas.List.{take-append-drop}
use Rattle.std.proofs.lemmas.List.Sums.{prefix_len-le-length}
use Rattle.compact_types.specs.Refusals.{HasOneAnswer}
use Rattle.cert_text.specs.declared.fault.CertFault.{CertFault}
use Rattle.cert_text.specs.declared.fault.CertKind.TheVariants.{NoCertificate, BadLine}
use Rattle.cert_text.specs.declared.fault.CertKind.TheVariants.{MissingBranch, TrailingLine}
use Rattle.cert_text.specs.declared.tree.CertNode.{CertNode}
use Rattle.cert_text.specs.declared.tree.CertTree.{CertTree}
use Rattle.cert_text.specs.Certificates.{HasNoHead, IsBeforeLine, IsCertificate, IsCutAtHead}
use Rattle.cert_text.specs.Certificates.{IsCutAtLastHead}
use Rattle.cert_text.specs.Faults.{FirstCertFault, fault_at, no_certificate}
use Rattle.cert_text.specs.Texts.{head_start}
use Rattle.cert_text.specs.Trees.{branches_of}
use Rattle.cert_text.specs.inner.Bodies.{FirstBodyFault, IsBody}
use Rattle.cert_text.specs.inner.Lines.{IsFirstLine, is_no_feed}
use Rattle.cert_text.specs.inner.Reading.{Front, after_word, entry_of, head_of}
use Rattle.cert_text.proofs.ReadAnswers.{not_both, one_fault, same_certificate}
use Rattle.cert_text.proofs.ReadCertificates.{bad_head_is, certificate_is, fault_of_body, has_head}
use Rattle.cert_text.proofs.ReadCertificates.{same_tree}
use Rattle.cert_text.proofs.ReadHeads.{HasNoHeadFrom, last_head_is, no_head, no_head_at_end}
use Rattle.cert_text.proofs.ReadHeads.{no_head_one_before}
use Rattle.cert_text.proofs.ReadLines.{first_line, no_line}
use Rattle.cert_text.proofs.ReadTrees.{IsSoFar, bad_line_is, body_is, entry_read, missing_branch_is}
use Rattle.cert_text.proofs.ReadTrees.{no_entry_here, no_line_here, nothing_read, trailing_line_is}
use Rattle.cert_text.proofs.ReadWords.{after_word_is, word_is_read}

-- The last head line, or none.

abbrev EndsLine : List ℕ → Type 0
EndsLine front = (before : List ℕ) × (front ≡ before ++ 10 ∷ [])

ends_line : (b : ℕ) (front : List ℕ) → EndsLine (b ∷ front) ⊎ (EndsLine (b ∷ front) → ⊥)
ends_line b [] = last_byte (eqb b 10) refl
  where
    last_byte : (is : Bool) → eqb b 10 ≡ is → EndsLine (b ∷ []) ⊎ (EndsLine (b ∷ []) → ⊥)
    last_byte true e = inl ([], ap (λ c. c ∷ []) ((Decides-eqb b 10).0 e))
    last_byte false e = inr (λ (before, f). other before f)
      where
        other : (before : List ℕ) → b ∷ [] ≡ before ++ 10 ∷ [] → ⊥
        other [] f = let same : b ≡ 10 = cc in absurd
            (let g : true ≡ false = sym ((Decides-eqb b 10).1 same) ∙ e in cc)
        other (c ∷ []) f = absurd (let g : ◌≡◌ {A = List ℕ} [] (10 ∷ []) = cc in cc)
        other (c ∷ d ∷ before) f = absurd (let g : [] ≡ d ∷ (before ++ 10 ∷ []) = cc in cc)
ends_line b (c ∷ front) = ⊎_elim
    (λ (before, e). inl (b ∷ before, ap (λ end. b ∷ end) e))
    (λ none. inr (λ (before, e). further none before e))
    (ends_line c front)
  where
    further : (EndsLine (c ∷ front) → ⊥) → (before : List ℕ) → b ∷ c ∷ front ≡ before ++ 10 ∷ [] → ⊥
    further none [] e = absurd (let g : c ∷ front ≡ [] = cc in cc)
    further none (d ∷ before) e = none (before, cc)

before_line : (front : List ℕ) → IsBeforeLine front ⊎ (IsBeforeLine front → ⊥)
before_line [] = inl (inl refl)
before_line (b ∷ front) = ⊎_elim
    (λ ends. inl (inr ends))
    (λ none. inr (λ before. ⊎_elim (λ e. absurd (let f : b ∷ front ≡ [] = e in cc)) none before))
    (ends_line b front)

head_here : (text front rest : List ℕ) → text ≡ front ++ rest →
    IsCutAtHead text front rest ⊎ (IsCutAtHead text front rest → ⊥)
head_here text front rest cut = by_word (after_word head_start rest) refl
  where
    by_word : (found : Option (List ℕ)) → after_word head_start rest ≡ found →
        IsCutAtHead text front rest ⊎ (IsCutAtHead text front rest → ⊥)
    by_word None e = inr (λ is. absurd (let f : None ≡ Some is.head.0 =
        sym e ∙ ap (after_word head_start) (is.head.1) ∙ word_is_read head_start (is.head.0) in cc))
    by_word (Some after) e = ⊎_elim
        (λ before. inl (record {
          cut = cut;
          at_line = before;
          head = (after, after_word_is head_start rest after e);
        }))
        (λ none. inr (λ is. none (is.at_line)))
        (before_line front)

abbrev HasLastHead : List ℕ → Type 0
HasLastHead text = (at : ℕ) × IsCutAtLastHead text (take at text) (drop at text)

last_head_or_none : (text : List ℕ) (at : ℕ) → HasNoHeadFrom text at →
    HasNoHead text ⊎ HasLastHead text
last_head_or_none text zero from = inl (no_head text 0 from refl)
last_head_or_none text (suc at) from =
    let one : suc at ≡ at + 1 = omega arith in
    ⊎_elim
    (λ is. inr (at, last_head_is text (suc at) at from one is))
    (λ none. last_head_or_none text at (no_head_one_before text (suc at) at from one none))
    (head_here text (take at text) (drop at text) (sym (take-append-drop at text)))

-- The entries behind a head line.

abbrev HasBodyAnswer : List ℕ → Type 0
HasBodyAnswer text = ((nodes : List CertNode) × IsBody text nodes)
    ⊎ ((fault : CertFault) × FirstBodyFault text fault)

-- one line is read, and then those after it
one_line : (text : List ℕ) (nodes : List CertNode) (left : ℕ) (rest line after : List ℕ) →
    IsSoFar text nodes (suc left) rest → IsFirstLine rest line after → length after < length rest →
    ((next : List CertNode) (branches : ℕ) → IsSoFar text next branches after →
    HasBodyAnswer text) →
    HasBodyAnswer text
one_line text nodes left rest line after so first shorter more = by_entry (entry_of line) refl
  where
    by_entry : (found : Option CertNode) → entry_of line ≡ found → HasBodyAnswer text
    by_entry None e = inr (
      fault_at (length nodes + 2) BadLine,
      bad_line_is text nodes (suc left) rest so (omega arith)
          (no_entry_here rest line after first (sym e)),
    )
    by_entry (Some node) e = more (nodes ++ node ∷ []) (suc left - 1 + branches_of node)
        (entry_read text nodes (suc left) rest line after node (nodes ++ node ∷ [])
        (suc left - 1 + branches_of node)
        so (omega arith) first (sym e) refl refl shorter)

read_on : (most : ℕ) (text : List ℕ) (nodes : List CertNode) (left : ℕ) (rest : List ℕ) →
    IsSoFar text nodes left rest → length rest ≤ most → HasBodyAnswer text
read_on most text nodes zero [] so few = inl (nodes, body_is text nodes 0 [] so refl refl)
read_on most text nodes zero (b ∷ rest) so few =
    inr (
      fault_at (length nodes + 2) TrailingLine,
      trailing_line_is text nodes 0 (b ∷ rest) so refl
          (λ e. absurd (let f : b ∷ rest ≡ [] = e in cc)),
    )
read_on most text nodes (suc left) [] so few =
    inr (
      fault_at (length nodes + 2) MissingBranch,
      missing_branch_is text nodes (suc left) [] so (omega arith) refl,
    )
read_on zero text nodes (suc left) (b ∷ rest) so few = absurd (omega arith)
read_on (suc most) text nodes (suc left) (b ∷ rest) so few =
    let end = prefix_len is_no_feed (b ∷ rest) in
    ⊎_elim
    (λ within.
    let shorter : length (drop (suc end) (b ∷ rest)) < length (b ∷ rest) =
    omega (arith, length-drop (suc end) (b ∷ rest)) in
    one_line text nodes left (b ∷ rest) (take end (b ∷ rest)) (drop (suc end) (b ∷ rest)) so
    (first_line (b ∷ rest) end refl within) shorter
    (λ next branches so. read_on most text next branches (drop (suc end) (b ∷ rest)) so
    (omega (arith, shorter))))
    (λ past.
    let whole : length (b ∷ rest) ≡ end = omega
    (arith, prefix_len-le-length is_no_feed (b ∷ rest)) in
    inr (
      fault_at (length nodes + 2) BadLine,
      bad_line_is text nodes (suc left) (b ∷ rest) so (omega arith)
          (no_line_here (b ∷ rest) (λ e. absurd (let f : b ∷ rest ≡ [] = e in cc))
          (no_line (b ∷ rest) whole)),
    ))
    (cases_lt end (length (b ∷ rest)))

-- The answer.

abbrev IsFound : List ℕ → ℕ × CertTree → Type 0
IsFound text found = IsCertificate text found.0 found.1.nodes

abbrev HasAnswer : List ℕ → Type 0
HasAnswer text = ((found : ℕ × CertTree) × IsFound text found)
    ⊎ ((fault : CertFault) × FirstCertFault text fault)

answer_behind : (text : List ℕ) (at : ℕ) → IsCutAtLastHead text (take at text) (drop at text) →
    HasAnswer text
answer_behind text at cut = by_head (head_of (take (length text - at) (drop at text))) refl
  where
    by_head : (found : Front ℕ) → head_of (take (length text - at) (drop at text)) ≡ found →
        HasAnswer text
    by_head None e = inr (fault_at 1 BadLine, bad_head_is text at cut e)
    by_head (Some (pitch, rest)) e = ⊎_elim
        (λ (nodes, body). inl (
          (pitch, record { nodes = nodes }),
          certificate_is text at pitch rest nodes cut e body,
        ))
        (λ (fault, is). inr (
          fault,
          fault_of_body text pitch rest fault
              (has_head text at pitch rest cut e) is,
        ))
        (read_on (length rest) rest [] 1 rest (nothing_read rest [] refl) (omega arith))

answer : (text : List ℕ) → HasAnswer text
answer text = ⊎_elim
    (λ none. inr (fault_at 0 NoCertificate, no_certificate none))
    (λ (at, cut). answer_behind text at cut)
    (last_head_or_none text (length text) (no_head_at_end text))

pub one_certificate : (text : List ℕ) →
    HasOneAnswer {T = ℕ × CertTree} (λ found. IsCertificate text found.0 found.1.nodes)
    (FirstCertFault text)
one_certificate text = record {
  some = answer text;
  one_value = λ a b p q. let same = same_certificate text a.0 b.0 a.1.nodes b.1.nodes p q in
      same_tree a b (same.pitch_is) (same.nodes_are);
  one_fault = one_fault text;
  not_both = λ found fault p q. not_both text found.0 found.1.nodes fault p q;
}
