use Rattle.std.proofs.Common.{◌≡◌, ◌<◌, ap, arith, List, ℕ, slice_index, refl, length}
use Rattle.bars.proofs.CrossingTable.{crossing_more}
use Rattle.bars.proofs.crossings.crossings_of.Goals as goal

pub loop-v-preserved : goal.loop-v-preserved
loop-v-preserved c =
    let v = c.loop-v.v in
    let row : slice_index c.as_slice-row_of.result.now v ≡ slice_index c.args.rows.now.of.items v = ap (λ (l : List ℕ). slice_index l v) c.as_slice-row_of.ensures.value in
    let column : slice_index c.as_slice-column_of.result.now v ≡ slice_index c.args.columns.now.of.items v = ap (λ (l : List ℕ). slice_index l v) c.as_slice-column_of.ensures.value in
    let inside : v < length c.args.rows.now.of.items = omega (arith, ap length c.as_slice-row_of.ensures.value) in
    let row_below = c.requires.rows v inside in
    let column_below = c.requires.columns v (omega (arith, inside, c.requires.fit)) in
    crossing_more c.args.rows.now c.args.columns.now v _ _ c.args.columns.now.count c.loop-v.marks c.mark.new.marks refl row column
    (omega (arith, row, row_below)) (omega (arith, column, column_below)) c.mark.ensures c.loop-v.invariant
