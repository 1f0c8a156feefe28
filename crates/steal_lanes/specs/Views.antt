-- What the owner and the passes of a lane know.
use Rattle.std.specs.Prelude.{◌≡◌, ℕ, ◌==◌, List, [], ◌∷◌, ◌++◌, count_by}
use Rattle.std.specs.List.{sum_by}
use mathlib.Core.Option.{some}
use lib.ListN.{get_elem?}
use Rattle.compact_types.specs.declared.search.Branch.{Branch}
use Rattle.steal_lanes.specs.declared.views.LaneView.{LaneView}

-- who put nothing and got nothing
abbrev pub fresh_view : LaneView
fresh_view = record { put = []; got = [] }

-- the owner put one branch more
abbrev pub with_branch : LaneView → Branch → LaneView
with_branch view branch = record { put = view.put ++ branch ∷ []; got = view.got }

-- one branch more was handed out to the owner or the pass, from this place
abbrev pub with_taken : LaneView → ℕ → Branch → LaneView
with_taken view place branch =
    record { put = view.put; got = view.got ++ (record { place = place; branch = branch }) ∷ [] }

-- The views of the owner and of all passes are listed by the numbers of their seats. The owner's
-- seat is 0, and each pass has another. The seat of a pass that was dropped keeps its view
abbrev pub HasSeat : List LaneView → ℕ → LaneView → Type 0
HasSeat views seat view = get_elem? views seat ≡ some view

-- how often the owner or the pass got a place
abbrev pub times_got : ℕ → LaneView → ℕ
times_got place view = count_by (λ taken. taken.place == place) view.got

-- how often the owner and all passes together got a place
abbrev pub times_got_by_all : ℕ → List LaneView → ℕ
times_got_by_all place views = sum_by (times_got place) views
