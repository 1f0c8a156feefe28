use Rattle.cert_text.specs.inner.Reading.{arc_of, no_bound, arcs_read}
use Rattle.cert_text.proofs.ReadItems.{read_none, read_more, read_all}
use Rattle.cert_text.proofs.reading.loads.read_arcs.Goals as goal

pub loop-arc-init : goal.loop-arc-init
loop-arc-init c = read_none arc_of no_bound _ _ c.requires

pub loop-arc-preserved : goal.loop-arc-preserved
loop-arc-preserved c = read_more arc_of no_bound _ _ _ _ _ _ _ c.loop-arc.invariant
    c.in-Some.ensures.arc c.in-Some.ensures.shorter c.in_ok-push.ensures.ok

pub returns : goal.returns
unfolding arcs_read
returns c = read_all arc_of no_bound _ _ _ _ c.loop-arc.invariant c.in_default.ensures.arc
