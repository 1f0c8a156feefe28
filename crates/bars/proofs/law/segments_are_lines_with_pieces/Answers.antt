use Rattle.bars.proofs.FewSegments.{few_segments}
use Rattle.bars.proofs.LineOrder.{of_some_segment, two_on, row_and_column}
use Rattle.bars.proofs.SegmentEnds.{piece_on}
use Rattle.bars.proofs.SegmentLists.{segments_differ}
use Rattle.bars.proofs.law.segments_are_lines_with_pieces.Goals as goal

pub returns-clause-of_piece : goal.returns-clause-of_piece
returns-clause-of_piece c = λ shape i inside. of_some_segment shape i inside

pub returns-clause-piece : goal.returns-clause-piece
returns-clause-piece c = λ shape s within. piece_on shape s within

pub returns-clause-two_vertices : goal.returns-clause-two_vertices
returns-clause-two_vertices c = λ shape s drawing within. two_on shape s drawing within

pub returns-clause-different : goal.returns-clause-different
returns-clause-different c = λ shape s t less within same_axis same_line. segments_differ shape s t less within same_axis same_line

pub returns-clause-rows_first : goal.returns-clause-rows_first
returns-clause-rows_first c = λ shape s t less within share. row_and_column shape s t less within share

pub returns-clause-few : goal.returns-clause-few
returns-clause-few c = λ shape drawing. few_segments shape drawing
