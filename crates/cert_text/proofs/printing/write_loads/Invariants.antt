use Rattle.std.proofs.Common.{◌≡◌, ◌++◌, take}
use Rattle.std.specs.List.{flat_map}
use Rattle.cert_text.specs.Texts.{load_text}
use Rattle.cert_text.proofs.printing.write_loads.Given as goal

-- the text has grown by the parts so far
abbrev pub invariant-loop-load : goal.invariant-loop-load
invariant-loop-load l = l.text ≡ l.initial.text ++ flat_map load_text (take l.load-index l.loads)
