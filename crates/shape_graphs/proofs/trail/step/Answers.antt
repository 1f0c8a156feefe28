use Rattle.std.proofs.Common.{refl}
use Rattle.shape_graphs.proofs.TrailLemmas.{left_at}
use Rattle.shape_graphs.proofs.PassLemmas.{passed_at, followed_at}
use Rattle.shape_graphs.proofs.trail.step.Goals as goal

pub returns-then-entry-eq0 : goal.returns-then-entry-eq0
returns-then-entry-eq0 c =
    left_at _ _ _ _ _ _ _ c.requires.trail c.requires.some c.as_slice-walk.ensures c.as_slice.ensures refl c.if-entry-eq0.true c.leave.ensures

pub returns-in_ok-pass-in-Left : goal.returns-in_ok-pass-in-Left
returns-in_ok-pass-in-Left c =
    passed_at _ _ _ _ _ _ _ _ _ _ _ c.requires.trail c.requires.linked c.requires.some c.as_slice-walk.ensures c.as_slice.ensures
    c.as_slice-2.ensures c.as_slice-3.ensures refl refl c.if-entry-eq0.false c.in-Left.is c.in_ok-pass-in-Left.ensures

pub returns-in_ok-enter-in-Fresh : goal.returns-in_ok-enter-in-Fresh
returns-in_ok-enter-in-Fresh c =
    followed_at _ _ _ _ _ _ _ _ _ _ _ c.requires.trail c.args.graph.now.ends c.requires.some c.as_slice-walk.ensures c.as_slice.ensures
    c.as_slice-2.ensures c.as_slice-3.ensures refl refl c.if-entry-eq0.false refl c.in-Fresh.is c.in_ok-enter-in-Fresh.ensures
