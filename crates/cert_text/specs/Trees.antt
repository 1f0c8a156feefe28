-- Certificates as trees in preorder: a split is followed by its four branches.
use Rattle.std.specs.Prelude.{◌≡◌, ℕ, zero, suc, ◌+◌, ◌≤◌, List, [], ◌∷◌, ◌++◌, Option, None, Some}
use Rattle.cert_text.specs.declared.tree.CertNode.{CertNode}
use Rattle.cert_text.specs.declared.tree.CertNode.TheVariants.{Split, Bound, Cycle}

-- how many branches an entry opens
abbrev pub branches_of : CertNode → ℕ
branches_of (Split s t) = 4
branches_of (Bound x y) = 0
branches_of (Cycle axis arcs) = 0

-- How many branches are still to come after the entries, where so many were to come before them.
-- There is no such number where an entry comes when no branch is to come.
abbrev pub left_after : ℕ → List CertNode → Option ℕ
left_after left [] = Some left
left_after zero (node ∷ nodes) = None
left_after (suc left) (node ∷ nodes) = left_after (branches_of node + left) nodes

-- the entries are a whole tree: one branch was to come, and none is left
abbrev pub IsWhole : List CertNode → Type 0
IsWhole nodes = left_after 1 nodes ≡ Some 0

-- the entries begin a tree, and some branch is still to come
abbrev pub IsUnfinished : List CertNode → Type 0
IsUnfinished nodes = (left : ℕ) × (left_after 1 nodes ≡ Some (suc left))

-- under how many splits the branches lie that an entry opens
abbrev pub depths_opened : CertNode → ℕ → List ℕ
depths_opened (Split s t) depth = suc depth ∷ suc depth ∷ suc depth ∷ suc depth ∷ []
depths_opened (Bound x y) depth = []
depths_opened (Cycle axis arcs) depth = []

-- No entry lies under more than so many splits, where the branches to come lie under these
-- numbers of splits, the next one first.
abbrev pub AreShallow : ℕ → List ℕ → List CertNode → Type 0
AreShallow most depths [] = Unit {0}
AreShallow most [] (node ∷ nodes) = Unit {0}
AreShallow most (depth ∷ depths) (node ∷ nodes) =
    (depth ≤ most) × AreShallow most (depths_opened node depth ++ depths) nodes

-- no entry of the tree lies under more than so many splits
abbrev pub IsShallow : ℕ → List CertNode → Type 0
IsShallow most nodes = AreShallow most (0 ∷ []) nodes
