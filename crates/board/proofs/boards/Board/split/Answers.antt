use Rattle.std.proofs.Common.{◌≡◌, ◌≤◌, ◌+◌, ◌∷◌, [], ◌++◌, Some, None, set, refl, sym, ap, ◌∙◌, ◌-◌, arith, vec_capacity, vec_len}
use Rattle.std.proofs.lemmas.List.{set-append_left}
use Rattle.board.specs.declared.entries.Settled.TheVariants.{Split}
use Rattle.board.specs.declared.standings.Standing.TheVariants.{Held}
use Rattle.board.specs.Histories.{branch_count}
use Rattle.board.specs.inner.Tables.{owed_by}
use Rattle.board.proofs.StackLemmas.{owed_open, waits_below}
use Rattle.board.proofs.TableLemmas.{kept_roomier, kept_settled, same_board, settling_first, split_keeps}
use Rattle.board.proofs.boards.Board.split.Goals as goal
use Rattle.board.proofs.boards.Board.split.Given.{Over}
use Rattle.board.proofs.boards.Board.split.Goals.{After-push_settled}

-- the places for verdicts, with four more and the verdict
each : (g : Over) (c : After-push_settled g) →
    set c.push_none.new.list.items c.args.id (Some c.args.verdict)
    ≡ set c.self.inside.verdicts.items c.args.id (Some c.args.verdict) ++ None ∷ None ∷ None ∷ None ∷ []
each g c =
    let settling = rw (← c.self.view_is) at c.requires in
    let known = waits_below _ c.args.id (Held c.args.who) settling.held (λ e. cc) in
    let places = c.self.invariant.facts.kept.places in
    rw (c.push_none.ensures, c.in_ok-reserve-2.ensures.items)
    (set-append_left c.self.inside.verdicts.items (None ∷ None ∷ None ∷ None ∷ []) c.args.id (Some c.args.verdict)
    (omega (arith, known, places)))

pub invariant_of-self-2 : goal.invariant_of-self-2
invariant_of-self-2 g c =
    let settling = rw (← c.self.view_is) at c.requires in
    let first : c.args.first ≡ branch_count c.self.inside.branches =
    settling_first _ _ _ _ _ _ _ _ _ settling ∙ sym (ap branch_count c.self.invariant.state) in
    let done = rw (← first) at c.in_ok-split.ensures.ok in
    let more = c.in_ok-reserve.ensures.capacity in
    let same = c.in_ok-reserve.ensures.len in
    let roomy = kept_roomier g.P.Backing.objective g.P.Backing.backs _ c.self.inside.branches _
    (vec_capacity c.reserve.new.self - vec_len c.reserve.new.self) c.self.invariant (omega (arith, more, same)) in
    let open_ones = owed_open c.self.inside.branches.standings in
    let counted = c.open_count-open.ensures in
    let twice = c.saturating_mul.ensures in
    let asked = c.saturating_add-more.ensures in
    let room = c.in_ok-reserve.ensures.ok in
    let small = c.reserve.new.self.small in
    let enough : owed_by c.self.inside.branches.standings + 8 ≤ vec_capacity c.reserve.new.self - vec_len c.reserve.new.self =
    omega (arith, open_ones, counted, twice, asked, room, small) in
    let long = c.push_settled.ensures.len in
    let full = c.push_settled.ensures.capacity in
    rw (done, c.push_settled.ensures.items, c.in_ok-reserve.ensures.items)
    (kept_roomier _ _ _ _ _ _
    (kept_settled g.P.Backing.objective g.P.Backing.backs _ c.self.inside.branches _ c.args.who c.args.id c.args.verdict
    (Split c.args.first c.args.s c.args.t) c.self.inside.incumbent _ roomy settling enough (split_keeps _ _ _ _ _) (each g c))
    (omega (arith, long, full)))

pub returns-clause-ok : goal.returns-clause-ok
returns-clause-ok g c =
    rw (← c.self.view_is, c.push_settled.ensures.items, c.in_ok-reserve.ensures.items)
    (same_board _ _ _ _ _ _ _ _ refl (split_keeps c.self.inside.incumbent c.args.verdict c.args.first c.args.s c.args.t) (each g c))
