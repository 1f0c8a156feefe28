use Rattle.std.proofs.Common.{◌≡◌, ◌++◌, take}
use Rattle.std.specs.List.{flat_map}
use Rattle.cert_text.proofs.PrintedLists.{arc_text}
use Rattle.cert_text.proofs.printing.write_arcs.Given as goal

-- the text has grown by the parts so far
abbrev pub invariant-loop-arc : goal.invariant-loop-arc
invariant-loop-arc l = l.text ≡ l.initial.text ++ flat_map arc_text (take l.arc-index l.arcs)
