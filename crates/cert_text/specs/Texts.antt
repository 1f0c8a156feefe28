-- The text of a certificate: a head line, and a line for each entry.
use Rattle.std.specs.Prelude.{ℕ, List, [], ◌∷◌, ◌++◌, codes, decimal}
use Rattle.compact_types.specs.declared.places.Axis.{Axis}
use Rattle.compact_types.specs.declared.places.Axis.TheVariants.{X, Y}
use Rattle.cert_text.specs.declared.tree.CertNode.{CertNode}
use Rattle.cert_text.specs.declared.tree.CertNode.TheVariants.{Split, Bound, Cycle}
use Rattle.cert_text.specs.declared.tree.Load.{Load}

-- how a head line begins, whatever its version
abbrev pub head_start : List ℕ
head_start = codes "#! compaction "

-- the head line of a certificate for a drawing with so many units to a grid step
abbrev pub head_line : ℕ → List ℕ
head_line pitch = head_start ++ codes "1 pitch " ++ decimal pitch ++ codes "\n"

-- the arc, a colon and the amount, behind a space
abbrev pub load_text : Load → List ℕ
load_text load = codes " " ++ decimal load.arc ++ codes ":" ++ decimal load.amount

abbrev pub loads_text : List Load → List ℕ
loads_text [] = []
loads_text (load ∷ loads) = load_text load ++ loads_text loads

-- each arc behind a space
abbrev pub arcs_text : List ℕ → List ℕ
arcs_text [] = []
arcs_text (arc ∷ arcs) = codes " " ++ decimal arc ++ arcs_text arcs

abbrev pub axis_text : Axis → List ℕ
axis_text X = codes "x"
axis_text Y = codes "y"

-- the line of an entry
abbrev pub entry_line : CertNode → List ℕ
entry_line (Split s t) = codes "#! split " ++ decimal s ++ codes " " ++ decimal t ++ codes "\n"
entry_line (Bound x y) =
    codes "#! bound x" ++ loads_text x ++ codes " y" ++ loads_text y ++ codes "\n"
entry_line (Cycle axis arcs) =
    codes "#! cycle " ++ axis_text axis ++ arcs_text arcs ++ codes "\n"

abbrev pub entry_lines : List CertNode → List ℕ
entry_lines [] = []
entry_lines (node ∷ nodes) = entry_line node ++ entry_lines nodes

-- the text of a certificate
abbrev pub certificate_text : ℕ → List CertNode → List ℕ
certificate_text pitch nodes = head_line pitch ++ entry_lines nodes
