-- The first fault of a text that ends with no certificate.
use Rattle.std.specs.Prelude.{◌≡◌, ℕ, ◌+◌, List, [], ◌++◌, length, All}
use Rattle.cert_text.specs.declared.fault.CertFault.{CertFault}
use Rattle.cert_text.specs.declared.fault.CertKind.{CertKind}
use Rattle.cert_text.specs.declared.fault.CertKind.TheVariants.{NoCertificate, BadLine, MissingBranch, TrailingLine}
use Rattle.cert_text.specs.declared.tree.CertNode.{CertNode}
use Rattle.cert_text.specs.Certificates.{HasNoHead, IsCutAtLastHead, IsPitch}
use Rattle.cert_text.specs.Loads.{HasArc, IsInRange}
use Rattle.cert_text.specs.Texts.{entry_line, entry_lines, head_line}
use Rattle.cert_text.specs.Trees.{IsUnfinished, IsWhole}

abbrev pub fault_at : ℕ → CertKind → CertFault
fault_at line kind = record { line = line; kind = kind }

-- the entry can stand in a certificate
pub record IsEntry (node : CertNode) : Type 0 where
  pub in_range : IsInRange node
  pub arc : HasArc node

-- From the last head line on, the text is a right head line, the lines of these entries, and a
-- rest.
pub record IsReadTo (text : List ℕ) (nodes : List CertNode) (rest : List ℕ) : Type 0 where
  pub front : List ℕ
  pub pitch : ℕ
  pub pitched : IsPitch pitch
  pub cut : IsCutAtLastHead text front (head_line pitch ++ entry_lines nodes ++ rest)
  pub entries : All IsEntry nodes

-- the rest does not begin with a right head line
abbrev pub HasBadHead : List ℕ → Type 0
HasBadHead rest = (pitch : ℕ) (after : List ℕ) → IsPitch pitch → rest ≡ head_line pitch ++ after → ⊥

-- the rest is not empty, and does not begin with the line of an entry
pub record HasBadLine (rest : List ℕ) : Type 0 where
  pub some : rest ≡ [] → ⊥
  pub bad : (node : CertNode) (after : List ℕ) → IsEntry node → rest ≡ entry_line node ++ after → ⊥

-- The first fault of the text, with its line. Lines are counted from 1 at the last head line, so
-- that the line after the head line and n entries is line n + 2.
pub data FirstCertFault (text : List ℕ) : CertFault → Type 0 where
  no_certificate : HasNoHead text → FirstCertFault text (fault_at 0 NoCertificate)
  bad_head : (front rest : List ℕ) → IsCutAtLastHead text front rest → HasBadHead rest →
      FirstCertFault text (fault_at 1 BadLine)
  bad_line : (nodes : List CertNode) (rest : List ℕ) → IsReadTo text nodes rest →
      IsUnfinished nodes → HasBadLine rest →
      FirstCertFault text (fault_at (length nodes + 2) BadLine)
  missing_branch : (nodes : List CertNode) → IsReadTo text nodes [] → IsUnfinished nodes →
      FirstCertFault text (fault_at (length nodes + 2) MissingBranch)
  trailing_line : (nodes : List CertNode) (rest : List ℕ) → IsReadTo text nodes rest →
      IsWhole nodes → (rest ≡ [] → ⊥) →
      FirstCertFault text (fault_at (length nodes + 2) TrailingLine)
