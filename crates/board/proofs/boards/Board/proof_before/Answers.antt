use Rattle.std.proofs.Common.{◌≡◌, Some, sym, ap, ◌∙◌}
use Rattle.std.specs.Option.{option_copied}
use Rattle.shape_graphs.specs.declared.measure.Verdict.TheVariants.{Cyclic, Above}
use Rattle.board.specs.Boards.{board_state, verdict_of}
use Rattle.board.specs.Histories.{IsOpenedFrom}
use Rattle.board.proofs.ParentLaws.{never_above, never_cyclic, never_none}
use Rattle.board.proofs.boards.Board.proof_before.Goals as goal

pub unreachable-requires : goal.unreachable-requires
unreachable-requires g c =
    let from : IsOpenedFrom (board_state c.args.self.now) c.in-Some.parent c.args.id =
    rw (← c.self.view_is, ← c.self.invariant.state) c.in-Some.ensures in
    let is : verdict_of c.args.self.now c.in-Some.parent ≡ Some (Cyclic c.in-Some-Cyclic.field-0-0 c.in-Some-Cyclic.field-0-1) =
    sym c.verdict.ensures.verdict ∙ ap option_copied c.in-Some-Cyclic.is ∙ ap (λ v. Some v) c.in-Some-Cyclic.field-0-is in
    never_cyclic g.P.Backing.objective g.P.Backing.backs c.args.self.now c.in-Some.parent c.args.id c.verdict.ensures.facts from _ _ is

pub unreachable-requires-in-Some-Above : goal.unreachable-requires-in-Some-Above
unreachable-requires-in-Some-Above g c =
    let from : IsOpenedFrom (board_state c.args.self.now) c.in-Some.parent c.args.id =
    rw (← c.self.view_is, ← c.self.invariant.state) c.in-Some.ensures in
    let is : verdict_of c.args.self.now c.in-Some.parent
    ≡ Some (Above c.in-Some-Above.field-0-0 c.in-Some-Above.field-0-1 c.in-Some-Above.field-0-2) =
    sym c.verdict.ensures.verdict ∙ ap option_copied c.in-Some-Above.is ∙ ap (λ v. Some v) c.in-Some-Above.field-0-is in
    never_above g.P.Backing.objective g.P.Backing.backs c.args.self.now c.in-Some.parent c.args.id c.verdict.ensures.facts from _ _ _ is

pub unreachable-requires-in-None : goal.unreachable-requires-in-None
unreachable-requires-in-None g c =
    let from : IsOpenedFrom (board_state c.args.self.now) c.in-Some.parent c.args.id =
    rw (← c.self.view_is, ← c.self.invariant.state) c.in-Some.ensures in
    never_none g.P.Backing.objective g.P.Backing.backs c.args.self.now c.in-Some.parent c.args.id c.verdict.ensures.facts from
    (sym c.verdict.ensures.verdict ∙ ap option_copied c.in-None.is)
