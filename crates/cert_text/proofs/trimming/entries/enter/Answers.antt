use Rattle.std.proofs.Common.{sym}
use Rattle.std.proofs.lemmas.Result.{on_ok_weaker}
use Rattle.cert_text.proofs.BranchLemmas.{closed_at, few_at, settled}
use Rattle.cert_text.proofs.trimming.entries.enter.Goals as goal

pub unreachable-requires : goal.unreachable-requires
unreachable-requires c =
    let is = c.in_default.ensures.settled.1 (settled c.args.board.now c.args.nodes.now c.args.waiting.now.items c.args.id c.requires.begun) in
    cc

pub closing_entry-requires : goal.closing_entry-requires
closing_entry-requires c =
    few_at c.args.board.now c.args.nodes.now c.args.waiting.now.items c.args.id c.requires.begun c.in-Some.verdict.now (sym c.in-Some.ensures.verdict)

pub returns-in_ok-closing_entry : goal.returns-in_ok-closing_entry
returns-in_ok-closing_entry c =
    on_ok_weaker c.push.result
    (λ pushed. closed_at c.args.board.now c.args.nodes.now c.push.new.self c.args.waiting.now.items c.args.id c.requires.begun
    c.args.best.now c.requires.best c.in-Some.verdict.now (sym c.in-Some.ensures.verdict)
    c.comes_first.result c.comes_first.ensures c.if-comes_first.false c.in_ok-closing_entry.field-0 c.in_ok-closing_entry.ensures pushed)
    c.push.ensures.ok
