-- What follows the head line of a certificate.
use Rattle.std.specs.Prelude.{◌≡◌, ℕ, ◌+◌, List, [], ◌++◌, length, All}
use Rattle.cert_text.specs.declared.fault.CertFault.{CertFault}
use Rattle.cert_text.specs.declared.fault.CertKind.TheVariants.{BadLine, MissingBranch}
use Rattle.cert_text.specs.declared.fault.CertKind.TheVariants.{TrailingLine}
use Rattle.cert_text.specs.declared.tree.CertNode.{CertNode}
use Rattle.cert_text.specs.Faults.{fault_at, HasBadLine, IsEntry}
use Rattle.cert_text.specs.Loads.{IsCertTree}
use Rattle.cert_text.specs.Texts.{entry_lines}
use Rattle.cert_text.specs.Trees.{IsUnfinished, IsWhole}

-- the text is the lines of a tree
pub record IsBody (text : List ℕ) (nodes : List CertNode) : Type 0 where
  pub cut : text ≡ entry_lines nodes
  pub tree : IsCertTree nodes

-- the text begins with the lines of these entries, and goes on with the rest
pub record BeginsWith (text : List ℕ) (nodes : List CertNode) (rest : List ℕ) : Type 0 where
  pub cut : text ≡ entry_lines nodes ++ rest
  pub entries : All IsEntry nodes

-- the first fault of a text that is not the lines of a tree
pub data FirstBodyFault (text : List ℕ) : CertFault → Type 0 where
  bad_line : (nodes : List CertNode) (rest : List ℕ) → BeginsWith text nodes rest →
      IsUnfinished nodes → HasBadLine rest →
      FirstBodyFault text (fault_at (length nodes + 2) BadLine)
  missing_branch : (nodes : List CertNode) → BeginsWith text nodes [] → IsUnfinished nodes →
      FirstBodyFault text (fault_at (length nodes + 2) MissingBranch)
  trailing_line : (nodes : List CertNode) (rest : List ℕ) → BeginsWith text nodes rest →
      IsWhole nodes → (rest ≡ [] → ⊥) →
      FirstBodyFault text (fault_at (length nodes + 2) TrailingLine)
