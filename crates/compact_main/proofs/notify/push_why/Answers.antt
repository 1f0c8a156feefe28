use Rattle.compact_main.proofs.notify.push_why.Goals as goal

pub returns-in-Gml-clause-added : goal.returns-in-Gml-clause-added
returns-in-Gml-clause-added c = rw (c.in-Gml.is, ← c.kind_of.ensures.is) c.push_at.ensures.added
