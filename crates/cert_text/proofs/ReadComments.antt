-- The lines of a certificate are comments, so that whole lines keep their tree with a certificate after them.
use Rattle.std.proofs.Common.{◌≡◌, ℕ, inl, inr, true, false, List, [], ◌∷◌, ◌++◌, length, length-append, codes, decimal, refl, sym, ◌∙◌, ap, subst, arith, append_assoc}
use Rattle.std.specs.Prelude.{All, not, ◌==◌}
use Rattle.std.proofs.lemmas.Bool.{and_parts}
use Rattle.std.proofs.lemmas.Bool.Decides.{nat_tests}
use Rattle.std.proofs.lemmas.List.{append-nil}
use Rattle.std.proofs.lemmas.List.Elements.{All-head, All-tail}
use Rattle.compact_types.specs.declared.places.Axis.TheVariants.{X, Y}
use Rattle.gml_text.specs.declared.marks.TheConstants.{LINE_FEED, HASH}
use Rattle.gml_text.specs.declared.tree.Tree.{Tree, out-Tree}
use Rattle.gml_text.specs.declared.tree.Pair.{Pair}
use Rattle.gml_text.specs.Bytes.{ends_in_word, lacks}
use Rattle.gml_text.specs.Texts.{Pairs, a_comment, IsText, to_the_end, in_a_comment, Spells}
use Rattle.gml_text.proofs.Laws.{ends_in_word-append}
use Rattle.cert_text.specs.declared.tree.CertNode.{CertNode}
use Rattle.cert_text.specs.declared.tree.CertNode.TheVariants.{Split, Bound, Cycle}
use Rattle.cert_text.specs.Certificates.{IsBeforeLine, IsPitch}
use Rattle.cert_text.specs.Faults.{IsEntry}
use Rattle.cert_text.specs.Loads.{IsCertTree}
use Rattle.cert_text.specs.Texts.{arcs_text, certificate_text, entry_line, entry_lines, head_line, loads_text}
use Rattle.cert_text.proofs.ReadReadings.{entries_of_tree}
use Rattle.cert_text.proofs.ReadTrees.{body_no_feed, decimal_no_feed}

abbrev HasNoFeed : List ℕ → Type 0
HasNoFeed text = lacks LINE_FEED text ≡ true

-- a whole comment: a `#`, some bytes and a line feed
record IsComment (line : List ℕ) : Type 0 where
  words : List ℕ
  is : line ≡ HASH ∷ words ++ LINE_FEED ∷ []
  no_feed : HasNoFeed words

-- the lines of a certificate are comments
head_comment : (pitch : ℕ) → IsPitch pitch → IsComment (head_line pitch)
head_comment pitch is =
    record { words = codes "! compaction 1 pitch " ++ decimal pitch; is = refl; no_feed = decimal_no_feed pitch (omega (arith, is.most)) }

entry_comment : (node : CertNode) → IsEntry node → IsComment (entry_line node)
entry_comment (Split s t) is =
    record { words = codes "! split " ++ decimal s ++ codes " " ++ decimal t; is = refl; no_feed = body_no_feed (Split s t) is }
entry_comment (Bound x y) is =
    record { words = codes "! bound x" ++ loads_text x ++ codes " y" ++ loads_text y; is = refl; no_feed = body_no_feed (Bound x y) is }
entry_comment (Cycle X arcs) is =
    record { words = codes "! cycle x" ++ arcs_text arcs; is = refl; no_feed = body_no_feed (Cycle X arcs) is }
entry_comment (Cycle Y arcs) is =
    record { words = codes "! cycle y" ++ arcs_text arcs; is = refl; no_feed = body_no_feed (Cycle Y arcs) is }

-- pairs and comments, after which another comment may come
record AreOpen (text : List ℕ) (pairs : List Pair) : Type 0 where
  has : Pairs 0 0 text pairs
  ends : ends_in_word text ≡ false

one_comment : (text : List ℕ) (pairs : List Pair) (line : List ℕ) → AreOpen text pairs → IsComment line → AreOpen (text ++ line) pairs
one_comment text pairs line ready comment =
    subst (λ (l : List ℕ). AreOpen (text ++ l) pairs) (sym comment.is)
    (record {
      has = subst (λ (whole : List ℕ). Pairs 0 0 whole pairs) (append_assoc text (HASH ∷ comment.words) (LINE_FEED ∷ []))
          (a_comment 0 0 text pairs comment.words ready.has ready.ends comment.no_feed);
      ends = ap ends_in_word (sym (append_assoc text (HASH ∷ comment.words) (LINE_FEED ∷ [])))
          ∙ ends_in_word-append (text ++ HASH ∷ comment.words) (LINE_FEED ∷ []) (omega arith);
    })

entry_comments : (text : List ℕ) (pairs : List Pair) (nodes : List CertNode) → AreOpen text pairs → All IsEntry nodes → AreOpen (text ++ entry_lines nodes) pairs
entry_comments text pairs [] ready all = subst (λ (whole : List ℕ). AreOpen whole pairs) (sym (append-nil text)) ready
entry_comments text pairs (node ∷ nodes) ready all =
    subst (λ (whole : List ℕ). AreOpen whole pairs) (append_assoc text (entry_line node) (entry_lines nodes))
    (entry_comments (text ++ entry_line node) pairs nodes (one_comment text pairs (entry_line node) ready (entry_comment node (All-head IsEntry node nodes all)))
    (All-tail IsEntry node nodes all))

certificate_comments : (text : List ℕ) (pairs : List Pair) (pitch : ℕ) (nodes : List CertNode) → AreOpen text pairs → IsPitch pitch → All IsEntry nodes →
    AreOpen (text ++ certificate_text pitch nodes) pairs
certificate_comments text pairs pitch nodes ready is all =
    subst (λ (whole : List ℕ). AreOpen whole pairs) (append_assoc text (head_line pitch) (entry_lines nodes))
    (entry_comments (text ++ head_line pitch) pairs nodes (one_comment text pairs (head_line pitch) ready (head_comment pitch is)) all)

-- the last byte, or `before` where there is none
abbrev last_after : ℕ → List ℕ → ℕ
last_after before [] = before
last_after before (b ∷ text) = last_after b text

last_of_both : (before : ℕ) (xs : List ℕ) (y : ℕ) (ys : List ℕ) → last_after before (xs ++ y ∷ ys) ≡ last_after y ys
last_of_both before [] y ys = refl
last_of_both before (x ∷ xs) y ys = last_of_both x xs y ys

last_lacked : (b : ℕ) (text : List ℕ) → HasNoFeed (b ∷ text) → last_after b text ≡ LINE_FEED → ⊥
last_lacked b [] none is = grind (arith, nat_tests)
last_lacked b (c ∷ text) none is = last_lacked c text (and_parts (not (b == LINE_FEED)) (lacks LINE_FEED (c ∷ text)) none).1 is

-- an open comment is not at the end of a text that ends where a line does
no_open_comment : (text words : List ℕ) → HasNoFeed words → IsBeforeLine (text ++ HASH ∷ words) → ⊥
no_open_comment text words none (inl empty) = omega (arith, ap length empty, length-append text (HASH ∷ words))
no_open_comment text words none (inr (before, is)) =
    last_lacked HASH words none (sym (last_of_both 0 text HASH words) ∙ ap (last_after 0) is ∙ last_of_both 0 before LINE_FEED [])

no_word_before_line : (text : List ℕ) → IsBeforeLine text → ends_in_word text ≡ false
no_word_before_line text (inl empty) = ap ends_in_word empty
no_word_before_line text (inr (before, is)) = ap ends_in_word is ∙ ends_in_word-append before (LINE_FEED ∷ []) (omega arith)

pairs_before_line : {text : List ℕ} {pairs : List Pair} → IsText text pairs → IsBeforeLine text → Pairs 0 0 text pairs
pairs_before_line (to_the_end text pairs has) before = has
pairs_before_line (in_a_comment text pairs words has ends none) before = absurd (no_open_comment text words none before)

pub spelled_with_certificate : (text : List ℕ) (tree : Tree) (pitch : ℕ) (nodes : List CertNode) → IsBeforeLine text → IsPitch pitch → IsCertTree nodes →
    Spells text tree → Spells (text ++ certificate_text pitch nodes) tree
spelled_with_certificate text tree pitch nodes before is whole spelled =
    to_the_end (text ++ certificate_text pitch nodes) (out-Tree tree).pairs
    (certificate_comments text (out-Tree tree).pairs pitch nodes
    (record { has = pairs_before_line spelled before; ends = no_word_before_line text before }) is (entries_of_tree nodes whole)).has
