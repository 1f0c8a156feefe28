use Rattle.std.proofs.Common.{◌≤◌, arith}
use Rattle.compact_types.specs.declared.search.Extension.{Extension}
use Rattle.bars.specs.Segments.{segment_count}
use Rattle.bars.proofs.Laws.{few_segments}
use Rattle.separation.proofs.EndLemmas.{room_for_all}
use Rattle.separation.proofs.ChoosingLemmas.{if_ok_more, extension_fits, extension_complete, extension_solved}
use Rattle.separation.proofs.extension.extension_of.Goals as goal

pub extension_in-requires-clause-room : goal.extension_in-requires-clause-room
extension_in-requires-clause-room c =
    let few = few_segments c.args.bars.now c.shape-small.ensures.sound.drawable in
    let small = c.shape-small.ensures.sound.few_vertices in
    omega (arith, few, small)

pub extension_in-requires-clause-few : goal.extension_in-requires-clause-few
extension_in-requires-clause-few c =
    room_for_all c.args.bars.now 1000 c.shape-small.ensures.sound.drawable c.shape-small.ensures.sound.few_vertices

pub returns-clause-fits : goal.returns-clause-fits
returns-clause-fits c =
    let few = few_segments c.args.bars.now c.shape-small.ensures.sound.drawable in
    let small = c.shape-small.ensures.sound.few_vertices in
    let most : segment_count c.args.bars.now ≤ 1000 = omega (arith, few, small) in
    if_ok_more _ _ _ (λ (extension : Extension) is. extension_fits c.args.bars.now c.args.places.now extension.choices most is) c.extension_in.ensures.chosen

pub returns-clause-complete : goal.returns-clause-complete
returns-clause-complete c =
    if_ok_more _ _ _ (λ (extension : Extension) is. extension_complete c.args.bars.now c.args.places.now extension.choices is) c.extension_in.ensures.chosen

pub returns-clause-solved : goal.returns-clause-solved
returns-clause-solved c =
    if_ok_more _ _ _ (λ (extension : Extension) is. extension_solved c.args.bars.now c.args.places.now extension.choices c.requires is) c.extension_in.ensures.chosen
