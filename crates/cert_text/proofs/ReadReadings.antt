-- The entries at the front of a text, as far as they go, are the only ones.
use Rattle.std.proofs.Common.{◌≡◌, ◌⊎◌, ⊎_elim, ℕ, zero, suc, ◌+◌, List, [], ◌∷◌, ◌++◌, None, Some}
use Rattle.std.proofs.Common.{refl, sym, ap, ◌∙◌, arith}
use Rattle.std.specs.Prelude.{All}
use Rattle.std.proofs.lemmas.List.{append_assoc}
use Rattle.std.proofs.lemmas.List.Elements.{All-head, All-tail}
use Rattle.cert_text.specs.declared.tree.CertNode.{CertNode}
use Rattle.cert_text.specs.Faults.{IsEntry}
use Rattle.cert_text.specs.Loads.{IsCertTree}
use Rattle.cert_text.specs.Texts.{entry_line, entry_lines}
use Rattle.cert_text.specs.Trees.{branches_of, left_after}
use Rattle.cert_text.proofs.ReadTrees.{one_entry}

pub entries_of_tree : (nodes : List CertNode) → IsCertTree nodes → All IsEntry nodes
entries_of_tree nodes tree = λ k d h. record {
  in_range = tree.in_range k d h;
  arc = tree.arcs k d h;
}

-- the text does not begin with the line of an entry
abbrev pub HasNoEntry : List ℕ → Type 0
HasNoEntry rest = (node : CertNode) (after : List ℕ) → IsEntry node →
    rest ≡ entry_line node ++ after → ⊥

-- reading ends here: no branch is to come, or no entry follows
abbrev pub EndsHere : ℕ → List ℕ → Type 0
EndsHere left rest = (left ≡ 0) ⊎ HasNoEntry rest

-- the entries that can be read, from the front of a text where so many branches are to come
pub record AreAllRead (start : ℕ) (nodes : List CertNode) (rest : List ℕ) : Type 0 where
  pub entries : All IsEntry nodes
  pub left : ℕ
  pub after : left_after start nodes ≡ Some left
  pub ends : EndsHere left rest

pub record IsSameReading (nodes others : List CertNode) (rest after : List ℕ) : Type 0 where
  pub nodes_are : nodes ≡ others
  pub rest_is : rest ≡ after

no_more : (start : ℕ) (rest : List ℕ) (node : CertNode) (nodes : List CertNode) (after : List ℕ) →
    AreAllRead start [] rest → AreAllRead start (node ∷ nodes) after →
    rest ≡ entry_lines (node ∷ nodes) ++ after → ⊥
no_more start rest node nodes after a b e =
    let same : start ≡ a.left = let f : Some start ≡ Some a.left = a.after in cc in
    ⊎_elim
    (λ none. no_branch start (b.left) (same ∙ none) (b.after))
    (λ no_entry. no_entry node (entry_lines nodes ++ after)
    (All-head IsEntry node nodes (b.entries))
    (e ∙ append_assoc (entry_line node) (entry_lines nodes) after))
    (a.ends)
  where
    no_branch : (start left : ℕ) → start ≡ 0 → left_after start (node ∷ nodes) ≡ Some left → ⊥
    no_branch zero left z h = absurd (let f : None ≡ Some left = h in cc)
    no_branch (suc start) left z h = absurd (omega arith)

pub one_reading : (start : ℕ) (nodes others : List CertNode) (rest after : List ℕ) →
    AreAllRead start nodes rest → AreAllRead start others after →
    entry_lines nodes ++ rest ≡ entry_lines others ++ after → IsSameReading nodes others rest after
one_reading start [] [] rest after a b e = record { nodes_are = refl; rest_is = e }
one_reading start [] (other ∷ others) rest after a b e =
    absurd (no_more start rest other others after a b e)
one_reading start (node ∷ nodes) [] rest after a b e =
    absurd (no_more start after node nodes rest b a (sym e))
one_reading zero (node ∷ nodes) (other ∷ others) rest after a b e =
    absurd (let f : None ≡ Some a.left = a.after in cc)
one_reading (suc start) (node ∷ nodes) (other ∷ others) rest after a b e =
    let first = one_entry node other (entry_lines nodes ++ rest) (entry_lines others ++ after)
    (All-head IsEntry node nodes (a.entries)) (All-head IsEntry other others (b.entries))
    (sym (append_assoc (entry_line node) (entry_lines nodes) rest) ∙ e
    ∙ append_assoc (entry_line other) (entry_lines others) after) in
    let more = one_reading (branches_of node + start) nodes others rest after
    (record {
      entries = All-tail IsEntry node nodes (a.entries);
      left = a.left;
      after = a.after;
      ends = a.ends;
    })
    (record {
      entries = All-tail IsEntry other others (b.entries);
      left = b.left;
      after = ap (λ n. left_after (branches_of n + start) others) (first.node_is) ∙ b.after;
      ends = b.ends;
    })
    (first.rest_is) in
    record { nodes_are = rw (first.node_is, more.nodes_are) refl; rest_is = more.rest_is }
