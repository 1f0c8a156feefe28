-- What the text of a tree is read as.
use Rattle.std.specs.Prelude.{◌≡◌}
use Rattle.gml_text.specs.declared.tree.Tree.{Tree}
use Rattle.gml_text.specs.Alike.{IsAlike}
use Rattle.gml_text.specs.Grammar.{IsWithinGrammar}
use Rattle.gml_text.specs.Texts.{Spells}
use Rattle.gml_print.specs.Printing.{printed}

-- the printed text of the tree has a tree alike to it, within the grammar and with the same text,
-- and no tree that is not alike
pub record ReadsBack (tree : Tree) : Type 0 where
  pub read : Tree
  pub alike : IsAlike tree read
  pub spelled : Spells (printed tree) read
  pub within : IsWithinGrammar read
  pub again : printed read ≡ printed tree
  pub only : (other : Tree) → Spells (printed tree) other → IsAlike tree other
