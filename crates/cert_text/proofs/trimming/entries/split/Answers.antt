use Rattle.std.proofs.Common.{◌≡◌, ap, ◌∙◌}
use Rattle.std.proofs.lemmas.Result.{on_ok_weaker}
use Rattle.board.specs.declared.entries.Settled.{Settled}
use Rattle.board.specs.declared.entries.Settled.TheVariants.{Split}
use Rattle.board.specs.declared.standings.Standing.TheVariants.{Done}
use Rattle.board.specs.Boards.{board_state}
use Rattle.board.specs.Histories.{standing_of}
use Rattle.cert_text.proofs.BranchLemmas.{settled, split_at, still_at}
use Rattle.cert_text.proofs.OutlineLemmas.{further_at}
use Rattle.cert_text.proofs.trimming.entries.split.Goals as goal

pub unreachable-requires : goal.unreachable-requires
unreachable-requires c =
    c.in_default.ensures.outcome (settled c.args.board.now c.args.nodes.now c.args.waiting.now.items c.args.id c.requires.begun)

pub unreachable-requires-in_default-what : goal.unreachable-requires-in_default-what
unreachable-requires-in_default-what c =
    split_at c.args.board.now c.args.nodes.now c.args.waiting.now.items c.args.id c.requires.begun c.requires.first
    c.in-Some.what c.in-Some.ensures.outcome.done c.in_default-what.not-Split

pub returns : goal.returns
returns c =
    let done : standing_of (board_state c.args.board.now) c.args.id ≡ Done (Split c.in-Split.first c.in-Split.s c.in-Split.t) =
    c.in-Some.ensures.outcome.done ∙ ap (λ (w : Settled). Done w) c.in-Split.is in
    let still = still_at c.args.board.now c.args.nodes.now c.args.waiting.now.items c.args.id c.requires.begun c.requires.first
    c.in-Split.first c.in-Split.s c.in-Split.t done in
    on_ok_weaker c.push_branches.result
    (λ waiting. further_at c.args.board.now c.args.nodes.now c.push.new.self c.args.waiting.now.items c.push_branches.new.waiting.items
    c.args.id c.requires.begun c.in-Split.first c.in-Split.s c.in-Split.t still c.in_ok-push.ensures.ok waiting)
    c.push_branches.ensures
