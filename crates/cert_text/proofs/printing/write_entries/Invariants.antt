use Rattle.std.proofs.Common.{◌≡◌, ◌++◌, take}
use Rattle.std.specs.List.{flat_map}
use Rattle.cert_text.specs.Texts.{entry_line}
use Rattle.cert_text.proofs.printing.write_entries.Given as goal

-- the text has grown by the parts so far
abbrev pub invariant-loop-node : goal.invariant-loop-node
invariant-loop-node l = l.text ≡ l.initial.text ++ flat_map entry_line (take l.node-index l.nodes)
