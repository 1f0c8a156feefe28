-- A certificate that is printed behind whole lines is read.
use Rattle.std.proofs.Common.{◌≡◌, ◌⊎◌, inl, inr, ⊎_elim, ℕ, ◌<◌, ◌≤◌, true, List, [], ◌∷◌, ◌++◌}
use Rattle.std.proofs.Common.{length, length-append, get_or, decimal, refl, sym, ap, ◌∙◌, arith}
use Rattle.std.specs.Prelude.{codes, All}
use Rattle.std.specs.List.{list_all}
use Rattle.std.proofs.lemmas.Bool.{and_parts, cases_lt}
use Rattle.std.proofs.lemmas.Bool.Decides.{nat_tests}
use Rattle.std.proofs.lemmas.List.{append_assoc}
use Rattle.std.proofs.lemmas.List.Elements.{All-head, All-tail}
use Rattle.cert_text.specs.declared.tree.CertNode.{CertNode}
use Rattle.cert_text.specs.declared.tree.CertNode.TheVariants.{Split, Bound, Cycle}
use Rattle.cert_text.specs.Certificates.{IsBeforeLine, IsCertificate, IsCutAtHead, IsPitch}
use Rattle.cert_text.specs.Faults.{IsEntry}
use Rattle.cert_text.specs.Loads.{IsCertTree}
use Rattle.cert_text.specs.Texts.{certificate_text, entry_lines, head_line, head_start}
use Rattle.cert_text.specs.inner.Lines.{is_no_feed}
use Rattle.cert_text.proofs.ReadReadings.{entries_of_tree}
use Rattle.cert_text.proofs.ReadEntries.{entry_body}
use Rattle.cert_text.proofs.ReadTrees.{body_no_feed, decimal_no_feed, line_then}

-- a line feed of a text stands at the end of its first line, or later
feed_place : (line rest part after : List ℕ) → list_all is_no_feed line ≡ true →
    line ++ 10 ∷ rest ≡ part ++ 10 ∷ after → (after ≡ rest)
    ⊎ ((more : List ℕ) × (rest ≡ more ++ 10 ∷ after))
feed_place [] rest [] after p e = inl cc
feed_place [] rest (c ∷ part) after p e = let tail : rest ≡ part ++ 10 ∷ after = cc in
    inr (part, tail)
feed_place (b ∷ line) rest [] after p e =
    let head : b ≡ 10 = cc in let byte =
    (and_parts (is_no_feed b) (list_all is_no_feed line) p).0 in
    absurd (grind (arith, nat_tests))
feed_place (b ∷ line) rest (c ∷ part) after p e =
    let tail : line ++ 10 ∷ rest ≡ part ++ 10 ∷ after = cc in
    feed_place line rest part after ((and_parts (is_no_feed b) (list_all is_no_feed line) p).1) tail

abbrev BeginsHead : List ℕ → Type 0
BeginsHead text = (after : List ℕ) × (text ≡ head_start ++ after)

no_head_line : (nodes : List CertNode) → BeginsHead (entry_lines nodes) → ⊥
no_head_line [] (after, e) = absurd (let f : [] ≡ 35 ∷ (codes "! compaction " ++ after) = e in cc)
no_head_line (Split s t ∷ nodes) (after, e) =
    absurd (let f : ◌≡◌ {A = ℕ} 115 99 = ap (λ text. get_or text 3 0) e in omega arith)
no_head_line (Bound x y ∷ nodes) (after, e) =
    absurd (let f : ◌≡◌ {A = ℕ} 98 99 = ap (λ text. get_or text 3 0) e in omega arith)
no_head_line (Cycle axis arcs ∷ nodes) (after, e) =
    absurd (let f : ◌≡◌ {A = ℕ} 121 111 = ap (λ text. get_or text 4 0) e in omega arith)

no_head_in : (nodes : List CertNode) (part after : List ℕ) → All IsEntry nodes →
    entry_lines nodes ≡ part ++ 10 ∷ after → BeginsHead after → ⊥
no_head_in [] [] after entries e head = absurd (let f : [] ≡ 10 ∷ after = e in cc)
no_head_in [] (b ∷ part) after entries e head =
    absurd (let f : [] ≡ b ∷ (part ++ 10 ∷ after) = e in cc)
no_head_in (node ∷ nodes) part after entries e head =
    ⊎_elim
    (λ here. no_head_line nodes (head.0, sym here ∙ head.1))
    (λ later. no_head_in nodes (later.0) after (All-tail IsEntry node nodes entries) (later.1) head)
    (feed_place (entry_body node) (entry_lines nodes) part after
    (body_no_feed node (All-head IsEntry node nodes entries))
    (sym (line_then node (entry_lines nodes)) ∙ e))

head_body : ℕ → List ℕ
head_body pitch = codes "#! compaction 1 pitch " ++ decimal pitch

head_no_feed : (pitch : ℕ) → IsPitch pitch → list_all is_no_feed (head_body pitch) ≡ true
unfolding head_body
head_no_feed pitch is = decimal_no_feed pitch (omega (arith, is.most))

head_then : (pitch : ℕ) (rest : List ℕ) → head_line pitch ++ rest ≡ head_body pitch ++ 10 ∷ rest
unfolding head_body
head_then pitch rest = append_assoc (codes "#! compaction 1 pitch " ++ decimal pitch) (10 ∷ []) rest

no_head_behind : (pitch : ℕ) (nodes : List CertNode) (part after : List ℕ) → IsPitch pitch →
    All IsEntry nodes →
    certificate_text pitch nodes ≡ part ++ 10 ∷ after → BeginsHead after → ⊥
no_head_behind pitch nodes part after is entries e head =
    ⊎_elim
    (λ here. no_head_line nodes (head.0, sym here ∙ head.1))
    (λ later. no_head_in nodes (later.0) after entries (later.1) head)
    (feed_place (head_body pitch) (entry_lines nodes) part after (head_no_feed pitch is)
    (sym (head_then pitch (entry_lines nodes)) ∙ e))

-- of two cuts of a text the longer front goes on behind the shorter one
record GoesOn (front other rest : List ℕ) : Type 0 where
  part : List ℕ
  is : other ≡ front ++ part
  rest_is : (after : List ℕ) → front ++ rest ≡ other ++ after → rest ≡ part ++ after

goes_on : (front rest other after : List ℕ) → front ++ rest ≡ other ++ after →
    length front ≤ length other → GoesOn front other rest
goes_on [] rest other after e within = record { part = other; is = refl; rest_is = λ end f. f }
goes_on (b ∷ front) rest [] after e within = absurd (omega arith)
goes_on (b ∷ front) rest (c ∷ other) after e within =
    let head : b ≡ c = cc in let tail : front ++ rest ≡ other ++ after = cc in
    let more = goes_on front rest other after tail (omega arith) in
    record {
      part = more.part;
      is = ap (λ d. d ∷ other) (sym head) ∙ ap (λ end. b ∷ end) (more.is);
      rest_is = λ end f. more.rest_is end (let g : front ++ rest ≡ other ++ end = cc in g);
    }

-- a text that ends with a line feed, and goes on behind a front
ends_with_feed : (front part before : List ℕ) → 0 < length part →
    front ++ part ≡ before ++ 10 ∷ [] →
    (start : List ℕ) × (part ≡ start ++ 10 ∷ [])
ends_with_feed [] part before some e = (before, e)
ends_with_feed (b ∷ front) [] [] some e = absurd (omega arith)
ends_with_feed (b ∷ front) (c ∷ part) [] some e =
    absurd (let f : front ++ (c ∷ part) ≡ [] = cc in
    omega (arith, ap length f, length-append front (c ∷ part)))
ends_with_feed (b ∷ front) part (d ∷ before) some e =
    let tail : front ++ part ≡ before ++ 10 ∷ [] = cc in ends_with_feed front part before some tail

line_start : (front part : List ℕ) → 0 < length part → IsBeforeLine (front ++ part) →
    (start : List ℕ) × (part ≡ start ++ 10 ∷ [])
line_start front part some before = ⊎_elim
    (λ none. absurd (omega (arith, ap length none, length-append front part)))
    (λ ends. ends_with_feed front part (ends.0) some (ends.1))
    before

behind_feed : (text part start after : List ℕ) → text ≡ part ++ after →
    part ≡ start ++ 10 ∷ [] → text ≡ start ++ 10 ∷ after
behind_feed text part start after whole ends =
    whole ∙ ap (λ front. front ++ after) ends ∙ append_assoc start (10 ∷ []) after

no_later_head : (front other after : List ℕ) (pitch : ℕ) (nodes : List CertNode) → IsPitch pitch →
    All IsEntry nodes →
    IsCutAtHead (front ++ certificate_text pitch nodes) other after → length front < length other →
    ⊥
no_later_head front other after pitch nodes is entries cut later =
    let on = goes_on front (certificate_text pitch nodes) other after (cut.cut) (omega arith) in
    let some : 0 < length (on.part) =
    omega (arith, ap length (on.is), length-append front (on.part)) in
    let before : IsBeforeLine (front ++ on.part) = rw (on.is) at (cut.at_line) in
    let start = line_start front (on.part) some before in
    no_head_behind pitch nodes (start.0) after is entries
    (behind_feed (certificate_text pitch nodes) (on.part) (start.0) after
    (on.rest_is after (cut.cut)) (start.1))
    (cut.head)

pub printed_certificate : (front : List ℕ) (pitch : ℕ) (nodes : List CertNode) →
    IsBeforeLine front →
    IsPitch pitch → IsCertTree nodes → IsCertificate
    (front ++ certificate_text pitch nodes) pitch nodes
printed_certificate front pitch nodes before is tree = record {
  front = front;
  cut = record {
    head = record {
      cut = refl;
      at_line = before;
      head = (codes "1 pitch " ++ decimal pitch ++ codes "\n" ++ entry_lines nodes, refl);
    };
    last = λ other after cut. ⊎_elim
        (λ later. absurd (no_later_head front other after pitch nodes is
        (entries_of_tree nodes tree) cut later))
        (λ within. within) (cases_lt (length front) (length other));
  };
  pitched = is;
  tree = tree;
}
