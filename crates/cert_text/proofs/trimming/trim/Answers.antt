use Rattle.std.proofs.Common.{◌≡◌, List, ℕ, [], ◌∷◌, ◌++◌, ap, ◌∙◌, length, arith}
use Rattle.cert_text.proofs.OutlineLemmas.{begun_at}
use Rattle.cert_text.proofs.TreeLemmas.{made_accepted, made_entries, made_shallow, made_tree}
use Rattle.cert_text.proofs.trimming.trim.Goals as goal

pub loop-id-init : goal.loop-id-init
loop-id-init c =
    let one : c.push.new.self.items ≡ 0 ∷ [] = c.in_ok-push.ensures.items ∙ ap (λ (l : List ℕ). l ++ 0 ∷ []) c.new-waiting.ensures.items in
    begun_at c.args.board.now c.best-best.ensures.facts c.requires.none_open
    c.new-nodes.result c.new-nodes.ensures c.push.new.self.items one

pub returns-clause-accepted : goal.returns-clause-accepted
returns-clause-accepted c =
    let none : length c.loop-id.waiting.items ≡ 0 = omega (arith, c.in_default.ensures.cases, c.loop-id.waiting.ok.0) in
    made_accepted c.args.board.now c.loop-id.nodes c.loop-id.waiting.items none c.loop-id.invariant c.args.bars.now c.requires.shape

pub returns-clause-tree : goal.returns-clause-tree
returns-clause-tree c =
    let none : length c.loop-id.waiting.items ≡ 0 = omega (arith, c.in_default.ensures.cases, c.loop-id.waiting.ok.0) in
    made_tree c.args.board.now c.loop-id.nodes c.loop-id.waiting.items none c.loop-id.invariant

pub returns-clause-shallow : goal.returns-clause-shallow
returns-clause-shallow c =
    let none : length c.loop-id.waiting.items ≡ 0 = omega (arith, c.in_default.ensures.cases, c.loop-id.waiting.ok.0) in
    made_shallow c.args.board.now c.loop-id.nodes c.loop-id.waiting.items none c.loop-id.invariant

pub returns-clause-entries : goal.returns-clause-entries
returns-clause-entries c =
    let none : length c.loop-id.waiting.items ≡ 0 = omega (arith, c.in_default.ensures.cases, c.loop-id.waiting.ok.0) in
    made_entries c.args.board.now c.loop-id.nodes c.loop-id.waiting.items none c.loop-id.invariant
