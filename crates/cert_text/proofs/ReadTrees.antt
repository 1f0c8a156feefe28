-- The entries of a certificate, line by line.
use Rattle.std.proofs.Common.{◌≡◌, ℕ, zero, suc, ◌+◌, ◌-◌, ◌*◌, ◌%◌, ◌^◌, ◌<◌, ◌≤◌, true, List, []}
use Rattle.std.proofs.Common.{◌∷◌, ◌++◌, length, None, Some, decimal, refl, sym, ap, ◌∙◌, arith}
use Rattle.std.specs.Prelude.{All}
use Rattle.std.specs.List.{list_all}
use Rattle.std.proofs.lemmas.Bool.Decides.{nat_tests}
use Rattle.std.proofs.lemmas.Fmt.{decimal_by_steps}
use Rattle.std.proofs.lemmas.List.{append-nil, append_assoc, length_push}
use Rattle.std.proofs.lemmas.List.Elements.{All-nil, All-head, All-tail, All-push, All-weaker}
use Rattle.std.proofs.lemmas.List.Folds.{list_all-append}
use Rattle.compact_types.specs.declared.places.Axis.TheVariants.{X, Y}
use Rattle.cert_text.specs.declared.fault.CertKind.TheVariants.{BadLine, MissingBranch}
use Rattle.cert_text.specs.declared.fault.CertKind.TheVariants.{TrailingLine}
use Rattle.cert_text.specs.declared.tree.CertNode.{CertNode}
use Rattle.cert_text.specs.declared.tree.CertNode.TheVariants.{Split, Bound, Cycle}
use Rattle.cert_text.specs.declared.tree.Load.{Load}
use Rattle.cert_text.specs.Faults.{HasBadLine, IsEntry, fault_at}
use Rattle.cert_text.specs.Loads.{HasArc, IsInRange, IsLoad, IsSmall}
use Rattle.cert_text.specs.Texts.{arcs_text, entry_line, entry_lines, load_text, loads_text}
use Rattle.cert_text.specs.Trees.{IsUnfinished, branches_of, left_after}
use Rattle.cert_text.specs.inner.Bodies.{BeginsWith, FirstBodyFault, IsBody, bad_line}
use Rattle.cert_text.specs.inner.Bodies.{missing_branch, trailing_line}
use Rattle.cert_text.specs.inner.Lines.{IsFirstLine, is_no_feed}
use Rattle.cert_text.specs.inner.Reading.{entry_of}
use Rattle.cert_text.proofs.ReadEntries.{entry_body, entry_is, entry_is_read, entry_line_is}
use Rattle.cert_text.proofs.ReadLines.{no_first_line, same_line}

-- Lines of entries have no line feed but at their ends.

abbrev HasNoFeed : List ℕ → Type 0
HasNoFeed text = list_all is_no_feed text ≡ true

no_feeds : (a b : List ℕ) → HasNoFeed a → HasNoFeed b → HasNoFeed (a ++ b)
no_feeds a b p q = list_all-append is_no_feed a b ∙ rw (p, q) refl

digit_no_feed : (d : ℕ) → HasNoFeed ((48 + d) ∷ [])
digit_no_feed d = let no : is_no_feed (48 + d) ≡ true = grind (arith, nat_tests) in rw no refl

pub decimal_no_feed : (n : ℕ) → n < 2 ^ 64 → HasNoFeed (decimal n)
decimal_no_feed = decimal_by_steps (λ n digits. HasNoFeed digits) (λ n h. digit_no_feed n)
    (λ n digits h front. no_feeds digits ((48 + n % 10) ∷ []) front (digit_no_feed (n % 10)))

small_no_feed : (n : ℕ) → IsSmall n → HasNoFeed (decimal n)
small_no_feed n h = decimal_no_feed n (omega arith)

loads_no_feed : (loads : List Load) → All IsLoad loads → HasNoFeed (loads_text loads)
loads_no_feed [] each = refl
loads_no_feed (load ∷ loads) each =
    let is = All-head IsLoad load loads each in
    no_feeds (load_text load) (loads_text loads)
    (no_feeds (decimal load.arc ++ 58 ∷ []) (decimal load.amount)
    (no_feeds (decimal load.arc) (58 ∷ []) (small_no_feed load.arc (is.arc)) refl)
    (decimal_no_feed load.amount (omega (arith, is.most))))
    (loads_no_feed loads (All-tail IsLoad load loads each))

arcs_no_feed : (arcs : List ℕ) → All IsSmall arcs → HasNoFeed (arcs_text arcs)
arcs_no_feed [] each = refl
arcs_no_feed (arc ∷ arcs) each =
    no_feeds (decimal arc) (arcs_text arcs) (small_no_feed arc (All-head IsSmall arc arcs each))
    (arcs_no_feed arcs (All-tail IsSmall arc arcs each))

pub body_no_feed : (node : CertNode) → IsEntry node → HasNoFeed (entry_body node)
body_no_feed (Split s t) is =
    no_feeds (decimal s ++ 32 ∷ []) (decimal t)
    (no_feeds (decimal s) (32 ∷ []) (small_no_feed s (is.in_range.0)) refl)
    (small_no_feed t (is.in_range.1))
body_no_feed (Bound x y) is =
    no_feeds (loads_text x ++ 32 ∷ 121 ∷ []) (loads_text y)
    (no_feeds (loads_text x) (32 ∷ 121 ∷ []) (loads_no_feed x (is.in_range.0.each)) refl)
    (loads_no_feed y (is.in_range.1.each))
body_no_feed (Cycle X arcs) is = arcs_no_feed arcs (is.in_range)
body_no_feed (Cycle Y arcs) is = arcs_no_feed arcs (is.in_range)

-- the line of an entry, with its line feed apart
pub line_then : (node : CertNode) (rest : List ℕ) →
    entry_line node ++ rest ≡ entry_body node ++ 10 ∷ rest
line_then node rest = ap (λ line. line ++ rest) (entry_line_is node)
    ∙ append_assoc (entry_body node) (10 ∷ []) rest

-- a text begins with the line of one entry
pub record IsSameEntry (node other : CertNode) (rest after : List ℕ) : Type 0 where
  pub node_is : node ≡ other
  pub rest_is : rest ≡ after

pub one_entry : (node other : CertNode) (rest after : List ℕ) → IsEntry node → IsEntry other →
    entry_line node ++ rest ≡ entry_line other ++ after → IsSameEntry node other rest after
one_entry node other rest after a b e =
    let same = same_line (entry_body node) (entry_body other) rest after (body_no_feed node a)
    (body_no_feed other b)
    (sym (line_then node rest) ∙ e ∙ line_then other after) in
    let entries : Some node ≡ Some other = sym (entry_is_read node a) ∙ ap entry_of (same.0)
    ∙ entry_is_read other b in
    record { node_is = cc; rest_is = same.1 }

-- Reading on.

entry_lines_push : (nodes : List CertNode) (node : CertNode) →
    entry_lines (nodes ++ node ∷ []) ≡ entry_lines nodes ++ entry_line node
entry_lines_push [] node = append-nil (entry_line node)
entry_lines_push (first ∷ nodes) node =
    ap (λ end. entry_line first ++ end) (entry_lines_push nodes node)
    ∙ sym (append_assoc (entry_line first) (entry_lines nodes) (entry_line node))

left_push : (start left : ℕ) (nodes : List CertNode) (node : CertNode) →
    left_after start nodes ≡ Some (suc left) →
    left_after start (nodes ++ node ∷ []) ≡ Some (branches_of node + left)
left_push start left [] node h = let e : start ≡ suc left = cc in rw e refl
left_push zero left (first ∷ nodes) node h = absurd (let e : None ≡ Some (suc left) = h in cc)
left_push (suc start) left (first ∷ nodes) node h =
    left_push (branches_of first + start) left nodes node h

-- so far these entries were read
pub record IsSoFar (text : List ℕ) (nodes : List CertNode) (left : ℕ) (rest : List ℕ) : Type 0 where
  pub begins : BeginsWith text nodes rest
  pub branches : left_after 1 nodes ≡ Some left
  pub few : length nodes + length rest ≤ length text
  pub room : left ≤ 1 + 4 * length nodes

pub nothing_read : (text : List ℕ) (nodes : List CertNode) → nodes ≡ [] → IsSoFar text nodes 1 text
nothing_read text nodes e = rw e (record {
  begins = record { cut = refl; entries = All-nil IsEntry };
  branches = refl;
  few = omega arith;
  room = omega arith;
})

at_most_four : (node : CertNode) → branches_of node ≤ 4
at_most_four (Split s t) = omega arith
at_most_four (Bound x y) = omega arith
at_most_four (Cycle axis arcs) = omega arith

one_left : (text : List ℕ) (nodes : List CertNode) (left : ℕ) (rest : List ℕ) →
    IsSoFar text nodes left rest → 0 < left → left_after 1 nodes ≡ Some (suc (left - 1))
one_left text nodes left rest so some =
    let e : left ≡ suc (left - 1) = omega arith in so.branches ∙ ap (λ n. Some n) e

unfinished : (text : List ℕ) (nodes : List CertNode) (left : ℕ) (rest : List ℕ) →
    IsSoFar text nodes left rest → 0 < left → IsUnfinished nodes
unfinished text nodes left rest so some =
    (left - 1, one_left text nodes left rest so some)

pub entry_read : (text : List ℕ) (nodes : List CertNode) (left : ℕ) (rest line after : List ℕ)
    (node : CertNode) (new : List CertNode) (now_left : ℕ) → IsSoFar text nodes left rest →
    0 < left →
    IsFirstLine rest line after → Some node ≡ entry_of line → new ≡ nodes ++ node ∷ [] →
    now_left ≡ left - 1 + branches_of node → length after < length rest →
    IsSoFar text new now_left after
entry_read text nodes left rest line after node new now_left so some first found e count shorter =
    let is = entry_is line node (sym found) in
    let left_is : branches_of node + (left - 1) ≡ now_left = omega arith in
    rw e (record {
      begins = record {
        cut = so.begins.cut ∙ ap (λ end. entry_lines nodes ++ end)
            (first.cut ∙ ap (λ front. front ++ 10 ∷ after) (is.body) ∙ sym (line_then node after))
            ∙ sym (append_assoc (entry_lines nodes) (entry_line node) after)
            ∙ ap (λ front. front ++ after) (sym (entry_lines_push nodes node));
        entries = All-push IsEntry nodes node (so.begins.entries) (is.entry);
      };
      branches = left_push 1 (left - 1) nodes node (one_left text nodes left rest so some)
          ∙ ap (λ n. Some n) left_is;
      few = omega (arith, so.few, length_push nodes node);
      room = omega (arith, so.room, at_most_four node, length_push nodes node);
    })

-- Where reading ends.

pub no_line_here : (rest : List ℕ) → (rest ≡ [] → ⊥) → list_all is_no_feed rest ≡ true →
    HasBadLine rest
no_line_here rest some feedless = record {
  some = some;
  bad = λ node after is e. no_first_line rest (entry_body node) after feedless
      (e ∙ line_then node after);
}

pub no_entry_here : (rest line after : List ℕ) → IsFirstLine rest line after →
    None ≡ entry_of line → HasBadLine rest
no_entry_here rest line after first none = record {
  some = λ e. some_byte line after (sym e ∙ first.cut);
  bad = λ node behind is e.
      let same = same_line line (entry_body node) after behind (first.no_feed)
      (body_no_feed node is)
      (sym (first.cut) ∙ e ∙ line_then node behind) in
      absurd (let f : None ≡ Some node = none ∙ ap entry_of (same.0) ∙ entry_is_read node is in cc);
}
  where
    some_byte : (line after : List ℕ) → [] ≡ line ++ 10 ∷ after → ⊥
    some_byte [] after e = absurd (let f : [] ≡ 10 ∷ after = e in cc)
    some_byte (b ∷ line) after e = absurd (let f : [] ≡ b ∷ (line ++ 10 ∷ after) = e in cc)

pub bad_line_is : (text : List ℕ) (nodes : List CertNode) (left : ℕ) (rest : List ℕ) →
    IsSoFar text nodes left rest → 0 < left → HasBadLine rest →
    FirstBodyFault text (fault_at (length nodes + 2) BadLine)
bad_line_is text nodes left rest so some bad =
    bad_line nodes rest (so.begins) (unfinished text nodes left rest so some) bad

pub missing_branch_is : (text : List ℕ) (nodes : List CertNode) (left : ℕ) (rest : List ℕ) →
    IsSoFar text nodes left rest → 0 < left → rest ≡ [] →
    FirstBodyFault text (fault_at (length nodes + 2) MissingBranch)
missing_branch_is text nodes left rest so some e =
    missing_branch nodes (rw e at (so.begins)) (unfinished text nodes left rest so some)

pub trailing_line_is : (text : List ℕ) (nodes : List CertNode) (left : ℕ) (rest : List ℕ) →
    IsSoFar text nodes left rest → left ≡ 0 → (rest ≡ [] → ⊥) →
    FirstBodyFault text (fault_at (length nodes + 2) TrailingLine)
trailing_line_is text nodes left rest so none some =
    trailing_line nodes rest (so.begins) (so.branches ∙ ap (λ n. Some n) none) some

pub body_is : (text : List ℕ) (nodes : List CertNode) (left : ℕ) (rest : List ℕ) →
    IsSoFar text nodes left rest → left ≡ 0 → rest ≡ [] → IsBody text nodes
body_is text nodes left rest so none e = record {
  cut = so.begins.cut ∙ ap (λ end. entry_lines nodes ++ end) e ∙ append-nil (entry_lines nodes);
  tree = record {
    whole = so.branches ∙ ap (λ n. Some n) none;
    in_range = All-weaker IsEntry IsInRange (λ node is. is.in_range) nodes (so.begins.entries);
    arcs = All-weaker IsEntry HasArc (λ node is. is.arc) nodes (so.begins.entries);
  };
}
