use Rattle.std.proofs.Common.{List, ◌∷◌, ◌++◌, sym, ap, ◌∙◌}
use Rattle.compact_types.specs.declared.search.Choice.{Choice}
use Rattle.cert_text.specs.declared.tree.CertNode.{CertNode}
use Rattle.cert_text.specs.Accepting.{opened_by}
use Rattle.cert_check.specs.inner.Branches.{later}
use Rattle.cert_check.proofs.BranchLemmas.{split_next}
use Rattle.cert_check.proofs.walk.step.Goals as goal

pub returns-in_ok-split-in-Split-clause-next : goal.returns-in_ok-split-in-Split-clause-next
returns-in_ok-split-in-Split-clause-next c = record {
  at = c.in_ok-split-in-Split.ensures.at;
  first = ap (λ (node : CertNode). opened_by node c.args.branch.now.choices ++ later c.args.branch.now.choices) c.in-Split.is
      ∙ split_next c.args.branch.now.choices c.in-Split.s c.in-Split.t
      ∙ ap (λ (l : List Choice). l ∷ later l) (sym c.in_ok-split-in-Split.ensures.choices);
}
