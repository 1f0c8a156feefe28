use Rattle.gml_text.proofs.OneAnswer.{given_decides, given_readable}
use Rattle.gml_text.proofs.read.read_tree.Goals as goal

pub returns : goal.returns
returns c = record {
  decides = given_decides c.args.bytes.now c.read.result c.read.ensures;
  readable = given_readable c.args.bytes.now c.read.result c.requires c.read.ensures;
}
