use Rattle.std.proofs.Common.{[], ◌∷◌, length-append, arith}
use Rattle.compact_main.specs.Notes.{status_text}
use Rattle.compact_main.proofs.LineLengths.{then, added_whole}
use Rattle.compact_main.proofs.notify.note_of.Goals as goal

pub returns : goal.returns
returns c =
    added_whole (rw c.new-note.ensures at (then c.push_status.ensures.added c.push.ensures))
    (omega (arith, c.push_status.ensures.short, length-append (status_text c.args.limit c.args.status) (10 ∷ [])))
