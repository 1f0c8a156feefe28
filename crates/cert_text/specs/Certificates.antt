-- Where the certificate stands in a text, and which one it is.
use Rattle.std.specs.Prelude.{◌≡◌, ◌⊎◌, ℕ, ◌≤◌, List, [], ◌∷◌, ◌++◌, length}
use Rattle.compact_types.specs.declared.limits.TheConstants.{MOST_PITCH}
use Rattle.gml_text.specs.declared.marks.TheConstants.{LINE_FEED}
use Rattle.cert_text.specs.declared.tree.CertNode.{CertNode}
use Rattle.cert_text.specs.Loads.{IsCertTree}
use Rattle.cert_text.specs.Texts.{head_start, certificate_text}

-- a line begins after this text: it is empty, or ends with a line feed
abbrev pub IsBeforeLine : List ℕ → Type 0
IsBeforeLine front = (front ≡ []) ⊎ ((before : List ℕ) × (front ≡ before ++ LINE_FEED ∷ []))

-- the text is a front and a rest that begins with a head line, of whatever version
pub record IsCutAtHead (text front rest : List ℕ) : Type 0 where
  pub cut : text ≡ front ++ rest
  pub at_line : IsBeforeLine front
  pub head : (after : List ℕ) × (rest ≡ head_start ++ after)

-- and that line is the last such line of the text: there the certificate begins
pub record IsCutAtLastHead (text front rest : List ℕ) : Type 0 where
  pub head : IsCutAtHead text front rest
  pub last : (other after : List ℕ) → IsCutAtHead text other after → length other ≤ length front

-- no line of the text begins as a head line
abbrev pub HasNoHead : List ℕ → Type 0
HasNoHead text = (front rest : List ℕ) → IsCutAtHead text front rest → ⊥

-- a number of units to a grid step
pub record IsPitch (pitch : ℕ) : Type 0 where
  pub some : 1 ≤ pitch
  pub most : pitch ≤ MOST_PITCH

-- the text ends with the certificate of this pitch and these entries, and no head line comes later
pub record IsCertificate (text : List ℕ) (pitch : ℕ) (nodes : List CertNode) : Type 0 where
  pub front : List ℕ
  pub cut : IsCutAtLastHead text front (certificate_text pitch nodes)
  pub pitched : IsPitch pitch
  pub tree : IsCertTree nodes
