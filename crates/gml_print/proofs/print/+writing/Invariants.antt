use Rattle.std.proofs.Common.{◌≡◌, ℕ, ◌++◌, take}
use Rattle.std.specs.List.{flat_map}
use Rattle.gml_print.specs.Printing.{indentation}
use Rattle.gml_print.specs.inner.Pieces.{pair_text}
use Rattle.gml_print.proofs.print.+writing.Given as goal

-- the indentation is that of the start, and the text has the lines of the pairs so far
abbrev pub invariant-write_tree-loop-pair : goal.invariant-write_tree-loop-pair
invariant-write_tree-loop-pair l = record {
  same : l.indent ≡ l.initial.indent;
  lines : (depth : ℕ) → l.initial.indent ≡ indentation depth →
      l.text ≡ l.initial.text ++ flat_map (λ pair. pair_text pair depth) (take l.pair-index l.pair-items);
}
