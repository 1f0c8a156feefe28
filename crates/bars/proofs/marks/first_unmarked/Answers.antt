use Rattle.std.proofs.Common.{◌≡◌, ◌+◌, ◌-◌, ℕ, suc, subst, ap, refl, arith, List, slice_index}
use Rattle.bars.specs.inner.Marks.{AreFirstUnmarked}
use Rattle.bars.proofs.MarkTables.{first_before}
use Rattle.bars.proofs.marks.first_unmarked.Goals as goal

pub loop-v-preserved : goal.loop-v-preserved
loop-v-preserved c =
    let v = c.loop-v.v - 1 in
    let next : c.loop-v.v ≡ v + 1 = omega arith in
    let longer : suc (c.args.vertices - c.loop-v.v) ≡ c.args.vertices - v = omega (arith, c.loop-v.invariant.within) in
    let before = subst (λ (a : ℕ). AreFirstUnmarked c.args.lines.now c.args.marked.now a (c.args.vertices - c.loop-v.v) c.loop-v.places) next c.loop-v.invariant.found in
    let is_line : slice_index c.as_slice-numbers.result.now v ≡ slice_index c.args.lines.now.of.items v = ap (λ (l : List ℕ). slice_index l v) c.as_slice-numbers.ensures.value in
    record {
      within = omega (arith, c.loop-v.invariant.within);
      found = subst (λ (n : ℕ). AreFirstUnmarked c.args.lines.now c.args.marked.now v n c.put_unless.new.found) longer
          (first_before c.args.lines.now c.args.marked.now v (c.args.vertices - c.loop-v.v) c.loop-v.places c.put_unless.new.found _ _ before
          is_line (let below = c.requires.numbers v (omega (arith, c.loop-v.invariant.within)) in omega (arith, is_line, below)) refl c.put_unless.ensures);
    }
