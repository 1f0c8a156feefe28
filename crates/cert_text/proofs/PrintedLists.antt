-- The texts of lists as the texts of their parts, one after the other.
use Rattle.std.proofs.Common.{◌≡◌, ℕ, List, [], ◌∷◌, ◌++◌, codes, decimal}
use Rattle.std.proofs.Common.{ap, refl, append_assoc, arith}
use Rattle.std.specs.List.{flat_map}
use Rattle.cert_text.specs.declared.tree.CertNode.{CertNode}
use Rattle.cert_text.specs.declared.tree.Load.{Load}
use Rattle.cert_text.specs.Texts.{load_text, loads_text, arcs_text, entry_line, entry_lines}

-- an arc of a cycle, behind a space
abbrev pub arc_text : ℕ → List ℕ
arc_text arc = codes " " ++ decimal arc

pub loads_text_parts : (loads : List Load) → loads_text loads ≡ flat_map load_text loads
loads_text_parts [] = refl
loads_text_parts (load ∷ loads) = ap (λ rest. load_text load ++ rest) (loads_text_parts loads)

pub arcs_text_parts : (arcs : List ℕ) → arcs_text arcs ≡ flat_map arc_text arcs
arcs_text_parts [] = refl
arcs_text_parts (arc ∷ arcs) = ap (λ rest. codes " " ++ decimal arc ++ rest) (arcs_text_parts arcs)

pub entry_lines_parts : (nodes : List CertNode) → entry_lines nodes ≡ flat_map entry_line nodes
entry_lines_parts [] = refl
entry_lines_parts (node ∷ nodes) = ap (λ rest. entry_line node ++ rest) (entry_lines_parts nodes)

-- what three additions make, whatever the first of them is
pub three_added : (old head digits end first second third : List ℕ) → first ≡ old ++ head →
    second ≡ first ++ digits → third ≡ second ++ end → third ≡ old ++ (head ++ digits ++ end)
three_added old head digits end first second third e f g = grind (arith, append_assoc)
