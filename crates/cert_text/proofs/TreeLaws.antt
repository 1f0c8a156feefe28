-- How deep the entries of trees lie.
use Rattle.std.proofs.Common.{ℕ, suc, ◌+◌, ◌≤◌, List, [], ◌∷◌, ◌++◌, length, arith}
use Rattle.cert_text.specs.declared.tree.CertNode.{CertNode}
use Rattle.cert_text.specs.declared.tree.CertNode.TheVariants.{Split, Bound, Cycle}
use Rattle.cert_text.specs.Trees.{AreShallow, IsShallow, IsWhole, depths_opened}

-- the branches lie under so few splits that this many more are within the most
abbrev HaveRoom : ℕ → ℕ → List ℕ → Type 0
HaveRoom most more [] = Unit {0}
HaveRoom most more (depth ∷ depths) = (depth + more ≤ suc most) × HaveRoom most more depths

less_room : (most more : ℕ) (depths : List ℕ) → HaveRoom most (suc more) depths → HaveRoom most more depths
less_room most more [] room = tt
less_room most more (depth ∷ depths) room = (let here = room.0 in omega (arith, here), less_room most more depths room.1)

room_opened : (most more : ℕ) (node : CertNode) (depth : ℕ) (depths : List ℕ) → depth + suc more ≤ suc most →
    HaveRoom most more depths → HaveRoom most more (depths_opened node depth ++ depths)
room_opened most more (Split s t) depth depths room rest =
    let here : suc depth + more ≤ suc most = omega (arith, room) in (here, (here, (here, (here, rest))))
room_opened most more (Bound x y) depth depths room rest = rest
room_opened most more (Cycle axis arcs) depth depths room rest = rest

shallow_in_room : (most : ℕ) (nodes : List CertNode) (depths : List ℕ) → HaveRoom most (length nodes) depths → AreShallow most depths nodes
shallow_in_room most [] depths room = tt
shallow_in_room most (node ∷ nodes) [] room = tt
shallow_in_room most (node ∷ nodes) (depth ∷ depths) room = (
  let here = room.0 in omega (arith, here),
  shallow_in_room most nodes (depths_opened node depth ++ depths)
      (room_opened most (length nodes) node depth depths room.0 (less_room most (length nodes) depths room.1)),
)

-- no entry lies under more splits than there are entries
pub whole_shallow : (nodes : List CertNode) → IsWhole nodes → IsShallow (length nodes) nodes
whole_shallow nodes whole = shallow_in_room (length nodes) nodes (0 ∷ []) (omega arith, tt)

pub shallower_from : (most more : ℕ) (nodes : List CertNode) (depths : List ℕ) → most ≤ more → AreShallow most depths nodes → AreShallow more depths nodes
shallower_from most more [] depths low shallow = tt
shallower_from most more (node ∷ nodes) [] low shallow = tt
shallower_from most more (node ∷ nodes) (depth ∷ depths) low shallow =
    (let here = shallow.0 in omega (arith, here, low), shallower_from most more nodes (depths_opened node depth ++ depths) low shallow.1)
