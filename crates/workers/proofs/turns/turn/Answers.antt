use Rattle.std.proofs.Common.{◌≡◌, ℤ, w64, to_z, of_z, List, MatchOption, subst, sym, arith}
use Rattle.std.proofs.lemmas.Int.{ints}
use Rattle.compact_types.specs.declared.plan.Shape.{Shape}
use Rattle.compact_types.specs.declared.search.Choice.{Choice}
use Rattle.compact_types.specs.Bests.{IsAttained}
use Rattle.shape_graphs.specs.Measures.{BacksBefore}
use Rattle.board.specs.Boards.{board_state}
use Rattle.board.specs.Histories.{HasNoParent, choices_of}
use Rattle.workers.proofs.TurnLemmas.{after_turn, claimed_from, pair_on_board, sound_on_board, start_from}
use Rattle.workers.proofs.turns.turn.Goals as goal

pub solve_branch-requires-clause-fit : goal.solve_branch-requires-clause-fit
solve_branch-requires-clause-fit g c κs within =
    let known =
    claimed_from g.M.Proof.Backing.objective g.M.Proof.Backing.backs c.args.bars.now c.args.who c.args.board.now c.requires.between
    c.args.branch.now c.requires.branch c.claim.new.board c.claim.ensures c.stop_of-stop.ensures.facts in
    known.fit

pub solve_branch-requires-clause-start : goal.solve_branch-requires-clause-start
solve_branch-requires-clause-start g c κs within =
    let known =
    claimed_from g.M.Proof.Backing.objective g.M.Proof.Backing.backs c.args.bars.now c.args.who c.args.board.now c.requires.between
    c.args.branch.now c.requires.branch c.claim.new.board c.claim.ensures c.stop_of-stop.ensures.facts in
    subst (λ (shape : Shape). MatchOption c.proof_before-start.result (Unit {0})
    (λ proof. BacksBefore (g.M.Proof.Backing.backs shape) c.args.branch.now.choices.choices proof.now)) known.shape_kept
    (subst (λ (choices : List Choice). MatchOption c.proof_before-start.result (Unit {0})
    (λ proof. BacksBefore (g.M.Proof.Backing.backs c.claim.new.board.shape) choices proof.now)) known.choices
    (start_from c.proof_before-start.result (HasNoParent (board_state c.claim.new.board) c.args.branch.now.id)
    (λ proof. BacksBefore (g.M.Proof.Backing.backs c.claim.new.board.shape) (choices_of (board_state c.claim.new.board) c.args.branch.now.id) proof.now)
    c.proof_before-start.ensures.proof))

pub solve_branch-requires-clause-stop : goal.solve_branch-requires-clause-stop
solve_branch-requires-clause-stop g c κs within =
    let same : to_z w64 (of_z w64 c.stop_of-stop.result) ≡ c.stop_of-stop.result = omega (arith, ints) in
    let known =
    claimed_from g.M.Proof.Backing.objective g.M.Proof.Backing.backs c.args.bars.now c.args.who c.args.board.now c.requires.between
    c.args.branch.now c.requires.branch c.claim.new.board c.claim.ensures c.stop_of-stop.ensures.facts in
    subst (λ (z : ℤ). IsAttained g.M.Proof.Backing.objective c.args.bars.now z) (sym same)
    (subst (λ (shape : Shape). IsAttained g.M.Proof.Backing.objective shape c.stop_of-stop.result) known.shape_kept c.stop_of-stop.ensures.attained)

pub settle-requires-clause-held : goal.settle-requires-clause-held
settle-requires-clause-held g c κs within =
    let known =
    claimed_from g.M.Proof.Backing.objective g.M.Proof.Backing.backs c.args.bars.now c.args.who c.args.board.now c.requires.between
    c.args.branch.now c.requires.branch c.claim.new.board c.claim.ensures c.stop_of-stop.ensures.facts in
    known.held

pub settle-requires-clause-sound : goal.settle-requires-clause-sound
settle-requires-clause-sound g c κs within =
    let known =
    claimed_from g.M.Proof.Backing.objective g.M.Proof.Backing.backs c.args.bars.now c.args.who c.args.board.now c.requires.between
    c.args.branch.now c.requires.branch c.claim.new.board c.claim.ensures c.stop_of-stop.ensures.facts in
    sound_on_board g.M.Proof.Backing.objective g.M.Proof.Backing.backs c.claim.new.board c.args.bars.now known.shape_kept
    (choices_of (board_state c.claim.new.board) c.args.branch.now.id) c.args.branch.now.choices.choices known.choices c.in_ok-solved.solved.verdict
    c.in_ok-solved.ensures.sound

pub settle-requires-clause-pair : goal.settle-requires-clause-pair
settle-requires-clause-pair g c κs within =
    let known =
    claimed_from g.M.Proof.Backing.objective g.M.Proof.Backing.backs c.args.bars.now c.args.who c.args.board.now c.requires.between
    c.args.branch.now c.requires.branch c.claim.new.board c.claim.ensures c.stop_of-stop.ensures.facts in
    pair_on_board c.claim.new.board c.args.bars.now known.shape_kept
    (choices_of (board_state c.claim.new.board) c.args.branch.now.id) c.args.branch.now.choices.choices known.choices c.in_ok-solved.solved.verdict
    c.in_ok-solved.solved.pair c.in_ok-solved.ensures.pair

pub returns-clause-settled : goal.returns-clause-settled
returns-clause-settled g c =
    after_turn g.M.Proof.Backing.objective g.M.Proof.Backing.backs c.args.bars.now c.args.who c.args.board.now c.requires.between
    c.args.branch.now c.requires.branch c.claim.new.board c.settle.new.board c.in_ok-solved.solved.verdict _ c.claim.ensures
    c.in_ok-settle.ensures.settled c.settle.ensures.facts
