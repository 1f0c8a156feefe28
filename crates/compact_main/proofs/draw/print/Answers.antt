use Rattle.compact_main.proofs.BestDrawings.{can_put}
use Rattle.compact_main.proofs.draw.print.Goals as goal

pub with_places-requires : goal.with_places-requires
with_places-requires c =
    can_put _ _ _ _ _ c.requires.read.read c.requires.read.checked c.requires.best c.requires.pitch.some c.requires.pitch.most
