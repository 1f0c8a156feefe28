use Rattle.board.proofs.SplitLaws.{splits_have_children}
use Rattle.board.proofs.law.histories.splits_have_children.Goals as goal

pub returns : goal.returns
returns c = splits_have_children
