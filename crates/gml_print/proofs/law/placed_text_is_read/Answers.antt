use Rattle.drawing_read.proofs.Laws.{reading_alike}
use Rattle.gml_print.specs.Places.{placed, moved_reading}
use Rattle.gml_print.proofs.ReadsBack.{reads_back}
use Rattle.gml_print.proofs.PlacedGrammar.{placed_within}
use Rattle.gml_print.proofs.PlacedReadings.{placed_reading}
use Rattle.gml_print.proofs.law.placed_text_is_read.Goals as goal

pub returns-clause-tree : goal.returns-clause-tree
returns-clause-tree c = λ tree reading places pitch can grammar.
    reads_back (placed tree reading.spots places pitch) (placed_within tree reading.spots places pitch can.within can.most_pitch grammar)

pub returns-clause-reading : goal.returns-clause-reading
returns-clause-reading c = λ tree read reading places pitch shape can grammar same crossing_free spelled.
    let new = placed tree reading.spots places pitch in
    let back = reads_back new (placed_within tree reading.spots places pitch can.within can.most_pitch grammar) in
    reading_alike new read (moved_reading reading places pitch) (back.only read spelled)
    (placed_reading tree reading places pitch shape can same crossing_free)
