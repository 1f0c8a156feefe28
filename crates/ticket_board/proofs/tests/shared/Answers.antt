use Rattle.std.proofs.Common.{◌≡◌, ℕ, ◌+◌, ◌<◌, List, length, ap, ◌∙◌, arith}
use Rattle.std.specs.Prelude.{All, IfOk, Result, Ok, Err}
use Rattle.std.proofs.lemmas.Option.{get_or_from_slice_get}
use Rattle.board.specs.declared.entries.Entry.{Entry}
use Rattle.ticket_board.specs.Passes.{AreNewcomers, BoardHome, PassView}
use Rattle.ticket_board.proofs.tests.shared.Goals as goal

all_there : (home : BoardHome) (first callers : ℕ) (seen : List Entry) (passes : List PassView) → AreNewcomers home first callers seen passes → All (λ pass. pass.home ≡ home) passes
all_there home first callers seen passes are k d below =
    let count = are.count in
    ap (λ (pass : PassView). pass.home) (get_or_from_slice_get passes k _ d (are.each k (omega arith)))

made_there : {E : Type 0} (first callers : ℕ) (seen : List Entry) (result : Result (BoardHome × List PassView) E) → IfOk result (λ made. AreNewcomers made.0 first callers seen made.1) →
    IfOk result (λ made. All (λ (pass : PassView). pass.home ≡ made.0) made.1)
made_there first callers seen (Ok made) are = all_there made.0 first callers seen made.1 are
made_there first callers seen (Err refused) are = tt

pub returns-clause-passes : goal.returns-clause-passes
returns-clause-passes c = made_there _ _ _ c.new.result c.new.ensures.passes
