use Rattle.std.proofs.Common.{◌≡◌, ◌+◌, ◌-◌, ◌++◌, length, min, arith, ap, sym, ◌∙◌, length-take-le}
use Rattle.std.proofs.lemmas.Slice.{take-put_mid}
use Rattle.compact_main.specs.declared.note.TheConstants.{NOTE_ROOM}
use Rattle.compact_main.proofs.LineLengths.{fitted}
use Rattle.compact_main.proofs.note.Note.push.Goals as goal

pub returns : goal.returns
returns c =
    let held = sym c.self.view_is in
    let long : length c.args.self.now ≡ c.self.inside.length =
    ap length held ∙ length-take-le c.self.inside.length c.self.inside.bytes (omega arith) in
    let count = c.min-count.result in
    let most : count ≡ min (NOTE_ROOM - length c.args.self.now) (length c.args.text.now) =
    c.min-count.ensures ∙ ap (λ n. min (NOTE_ROOM - n) (length c.args.text.now)) (sym long) in
    let part : length c.copy_from_slice.new.self ≡ count =
    ap length c.copy_from_slice.ensures.after ∙ length-take-le count c.args.text.now (omega arith) in
    fitted c.args.self.now c.args.text.now c.copy_from_slice.new.self _ count (omega arith) most c.copy_from_slice.ensures.after
    (take-put_mid c.self.inside.length _ c.self.inside.bytes c.copy_from_slice.new.self (c.self.inside.length + count) (omega arith) (omega arith)
    ∙ ap (λ xs. xs ++ c.copy_from_slice.new.self) (sym held))
