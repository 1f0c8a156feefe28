use Rattle.std.proofs.Common.{sym, ◌∙◌, arith}
use Rattle.bars.proofs.SharedVertices.{row_below, column_below, share_turned, shared_by_cross, shared_by_lines, tests_same, tests_differ, tests_differ_back}
use Rattle.bars.proofs.segments.Bars.share_vertex.Goals as goal

pub cross-requires-clause-row : goal.cross-requires-clause-row
cross-requires-clause-row c =
    let is_row = sym c.is_row-is_row.ensures ∙ c.if-is_row-2.true in
    let is_column = sym c.is_row.ensures ∙ tests_differ _ _ c.if-is_row.false c.if-is_row-2.true in
    let below = row_below c.args.self.now c.args.s c.args.t c.requires.s c.requires.t is_row is_column in
    omega (arith, below, c.line-first.ensures)

pub cross-requires-clause-column : goal.cross-requires-clause-column
cross-requires-clause-column c =
    let is_row = sym c.is_row-is_row.ensures ∙ c.if-is_row-2.true in
    let is_column = sym c.is_row.ensures ∙ tests_differ _ _ c.if-is_row.false c.if-is_row-2.true in
    let below = column_below c.args.self.now c.args.s c.args.t c.requires.s c.requires.t is_row is_column in
    omega (arith, below, c.line-second.ensures)

pub cross-requires-else-is_row-2-clause-row : goal.cross-requires-else-is_row-2-clause-row
cross-requires-else-is_row-2-clause-row c =
    let is_row = sym c.is_row.ensures ∙ tests_differ_back _ _ c.if-is_row.false c.if-is_row-2.false in
    let is_column = sym c.is_row-is_row.ensures ∙ c.if-is_row-2.false in
    let below = row_below c.args.self.now c.args.t c.args.s c.requires.t c.requires.s is_row is_column in
    omega (arith, below, c.line-second.ensures)

pub cross-requires-else-is_row-2-clause-column : goal.cross-requires-else-is_row-2-clause-column
cross-requires-else-is_row-2-clause-column c =
    let is_row = sym c.is_row.ensures ∙ tests_differ_back _ _ c.if-is_row.false c.if-is_row-2.false in
    let is_column = sym c.is_row-is_row.ensures ∙ c.if-is_row-2.false in
    let below = column_below c.args.self.now c.args.t c.args.s c.requires.t c.requires.s is_row is_column in
    omega (arith, below, c.line-first.ensures)

pub returns-then-is_row : goal.returns-then-is_row
returns-then-is_row c =
    shared_by_lines c.args.self.now c.args.s c.args.t c.requires.s c.requires.t _ _ c.is_row-is_row.result c.is_row.result
    c.line-first.ensures c.line-second.ensures c.is_row-is_row.ensures c.is_row.ensures (tests_same _ _ c.if-is_row.true)

pub returns-then-is_row-2 : goal.returns-then-is_row-2
returns-then-is_row-2 c =
    shared_by_cross c.args.self.now c.args.s c.args.t c.requires.s c.requires.t _ _ _ c.line-first.ensures c.line-second.ensures
    (sym c.is_row-is_row.ensures ∙ c.if-is_row-2.true) (sym c.is_row.ensures ∙ tests_differ _ _ c.if-is_row.false c.if-is_row-2.true) c.cross.ensures

pub returns-else-is_row-2 : goal.returns-else-is_row-2
returns-else-is_row-2 c =
    let both = shared_by_cross c.args.self.now c.args.t c.args.s c.requires.t c.requires.s _ _ _ c.line-second.ensures c.line-first.ensures
    (sym c.is_row.ensures ∙ tests_differ_back _ _ c.if-is_row.false c.if-is_row-2.false) (sym c.is_row-is_row.ensures ∙ c.if-is_row-2.false) c.cross-else-is_row-2.ensures in (
      λ holds. share_turned c.args.self.now c.args.t c.args.s (both.0 holds),
      λ shared. both.1 (share_turned c.args.self.now c.args.s c.args.t shared),
    )
