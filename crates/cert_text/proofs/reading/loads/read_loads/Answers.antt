use Rattle.cert_text.specs.inner.Reading.{load_read, arc_after, loads_of}
use Rattle.cert_text.proofs.ReadItems.{read_none, read_more, read_all}
use Rattle.cert_text.proofs.reading.loads.read_loads.Goals as goal

pub loop-found-init : goal.loop-found-init
loop-found-init c = read_none load_read arc_after _ _ c.requires

pub loop-found-preserved : goal.loop-found-preserved
loop-found-preserved c = read_more load_read arc_after _ _ _ _ _ _ _ c.loop-found.invariant
    c.in-Some.ensures.load c.in-Some.ensures.shorter c.in_ok-push.ensures.ok

pub returns : goal.returns
unfolding loads_of
returns c = read_all load_read arc_after _ _ _ _ c.loop-found.invariant c.in_default.ensures.load
