use Rattle.compact_types.proofs.MoveLemmas.{crossing_free-moved, drawing-moved, plain_length-moved, difference-moved, distance_places-moved}
use Rattle.compact_types.proofs.moves.moves_keep_drawings.Goals as goal

pub returns-clause-crossing_free : goal.returns-clause-crossing_free
returns-clause-crossing_free c = crossing_free-moved

pub returns-clause-drawing : goal.returns-clause-drawing
returns-clause-drawing c = drawing-moved

pub returns-clause-plain_length : goal.returns-clause-plain_length
returns-clause-plain_length c = plain_length-moved

pub returns-clause-total_length : goal.returns-clause-total_length
returns-clause-total_length c = plain_length-moved

pub returns-clause-differences : goal.returns-clause-differences
returns-clause-differences c = difference-moved

pub returns-clause-distances : goal.returns-clause-distances
returns-clause-distances c = distance_places-moved
