use Rattle.std.proofs.Common.{List, [], refl, subst}
use Rattle.std.proofs.lemmas.Result.{on_err_weaker, on_ok_weaker}
use Rattle.compact_types.specs.declared.search.Branch.{Branch}
use Rattle.board.specs.declared.entries.Claim.{Claim}
use Rattle.ticket_board.specs.Turns.{IsClaimed, IsGranted}
use Rattle.workers.specs.inner.Sharing.{HasPut}
use Rattle.workers.proofs.HandLemmas.{going_by_look, going_by_offer, going_by_read, going_by_settle, going_further, granted_known, not_granted, stopped_by_settle, stopped_further, stopped_where_going}
use Rattle.workers.proofs.SharingLemmas.{err_has}
use Rattle.workers.proofs.StartLemmas.{taken_up_later}
use Rattle.workers.proofs.steps.advance.Goals as goal

pub returns-in-Taken : goal.returns-in-Taken
returns-in-Taken g c = record {
  serves = c.requires.serves;
  ready = tt;
  taken = c.claim_with_start-claim.ensures.taken;
  going =
      going_by_look c.args.hand.now c.claim_with_start-claim.new.pass c.claim_with_start-claim.ensures.more
      (not_granted c.args.hand.now.pass c.claim_with_start-claim.new.pass c.args.next.branch c.claim_with_start-claim.result.0
      c.claim_with_start-claim.ensures.answer c.in-Taken.is);
  stopped = tt;
}

pub returns-in_err-start-clause-stopped : goal.returns-in_err-start-clause-stopped
returns-in_err-start-clause-stopped g c =
    let granted : IsGranted c.args.hand.now.pass c.args.next.branch c.claim_with_start-claim.new.pass =
    subst (λ (claim : Claim). IsClaimed c.args.hand.now.pass c.args.next.branch claim c.claim_with_start-claim.new.pass) c.in-Yours.is
    c.claim_with_start-claim.ensures.answer in
    err_has c.from_residual.result (stopped_where_going c.args.hand.now _ (going_by_read c.args.hand.now c.args.next.branch c.claim_with_start-claim.new.pass c.claim_with_start-claim.ensures.more granted
    c.read-stop.new.seat c.read-stop.result c.read-stop.ensures.load))

pub returns-in_err-solved-clause-stopped : goal.returns-in_err-solved-clause-stopped
returns-in_err-solved-clause-stopped g c =
    let granted : IsGranted c.args.hand.now.pass c.args.next.branch c.claim_with_start-claim.new.pass =
    subst (λ (claim : Claim). IsClaimed c.args.hand.now.pass c.args.next.branch claim c.claim_with_start-claim.new.pass) c.in-Yours.is
    c.claim_with_start-claim.ensures.answer in
    err_has c.from_residual-in_err-solved.result (stopped_where_going c.args.hand.now _ (going_by_read c.args.hand.now c.args.next.branch c.claim_with_start-claim.new.pass c.claim_with_start-claim.ensures.more granted
    c.read-stop.new.seat c.read-stop.result c.read-stop.ensures.load))

pub returns-in_err-copy-clause-stopped : goal.returns-in_err-copy-clause-stopped
returns-in_err-copy-clause-stopped g c =
    let granted : IsGranted c.args.hand.now.pass c.args.next.branch c.claim_with_start-claim.new.pass =
    subst (λ (claim : Claim). IsClaimed c.args.hand.now.pass c.args.next.branch claim c.claim_with_start-claim.new.pass) c.in-Yours.is
    c.claim_with_start-claim.ensures.answer in
    err_has c.from_residual-in_err-copy.result
    (stopped_where_going c.args.hand.now _
    (going_by_offer c.args.hand.now c.args.next.branch c.claim_with_start-claim.new.pass c.claim_with_start-claim.ensures.more granted
    c.read-stop.new.seat c.read-stop.result c.read-stop.ensures.load c.offer.new.seat c.offer.ensures.home c.offer.ensures.quiet))

pub returns-in_err-what-clause-stopped : goal.returns-in_err-what-clause-stopped
returns-in_err-what-clause-stopped g c =
    let granted : IsGranted c.args.hand.now.pass c.args.next.branch c.claim_with_start-claim.new.pass =
    subst (λ (claim : Claim). IsClaimed c.args.hand.now.pass c.args.next.branch claim c.claim_with_start-claim.new.pass) c.in-Yours.is
    c.claim_with_start-claim.ensures.answer in
    err_has c.from_residual-in_err-what.result
    (stopped_where_going c.args.hand.now _ (going_further c.args.hand.now (record c.args.hand.now { pass = c.claim_with_start-claim.new.pass; seat = c.offer.new.seat }) _
    (going_by_offer c.args.hand.now c.args.next.branch c.claim_with_start-claim.new.pass c.claim_with_start-claim.ensures.more granted
    c.read-stop.new.seat c.read-stop.result c.read-stop.ensures.load c.offer.new.seat c.offer.ensures.home c.offer.ensures.quiet)
    (going_by_look (record c.args.hand.now { pass = c.claim_with_start-claim.new.pass; seat = c.offer.new.seat }) c.settle.new.pass c.settle.ensures.more c.in_err-what.ensures.answer)))

pub returns-clause-going : goal.returns-clause-going
returns-clause-going g c =
    let granted : IsGranted c.args.hand.now.pass c.args.next.branch c.claim_with_start-claim.new.pass =
    subst (λ (claim : Claim). IsClaimed c.args.hand.now.pass c.args.next.branch claim c.claim_with_start-claim.new.pass) c.in-Yours.is
    c.claim_with_start-claim.ensures.answer in
    on_ok_weaker c.go_on.result
    (λ (put : HasPut c.args.next.branch c.in_ok-what.what [] c.args.hand.now.lane c.go_on.new.lane). going_further c.args.hand.now (record c.args.hand.now { pass = c.claim_with_start-claim.new.pass; seat = c.offer.new.seat }) _
    (going_by_offer c.args.hand.now c.args.next.branch c.claim_with_start-claim.new.pass c.claim_with_start-claim.ensures.more granted
    c.read-stop.new.seat c.read-stop.result c.read-stop.ensures.load c.offer.new.seat c.offer.ensures.home c.offer.ensures.quiet)
    (going_by_settle _ _ (record c.args.hand.now { pass = c.claim_with_start-claim.new.pass; seat = c.offer.new.seat }) c.args.next.branch _ _ c.in_ok-what.what c.settle.new.pass c.go_on.new.lane []
    (granted_known c.args.hand.now.pass c.claim_with_start-claim.new.pass c.args.next.branch granted) c.settle.ensures.more c.in_ok-what.ensures.answer put refl))
    c.go_on.ensures.all

pub returns-clause-stopped : goal.returns-clause-stopped
returns-clause-stopped g c =
    let granted : IsGranted c.args.hand.now.pass c.args.next.branch c.claim_with_start-claim.new.pass =
    subst (λ (claim : Claim). IsClaimed c.args.hand.now.pass c.args.next.branch claim c.claim_with_start-claim.new.pass) c.in-Yours.is
    c.claim_with_start-claim.ensures.answer in
    on_err_weaker c.go_on.result
    (λ (some : (left : List Branch) × HasPut c.args.next.branch c.in_ok-what.what left c.args.hand.now.lane c.go_on.new.lane). stopped_further c.args.hand.now (record c.args.hand.now { pass = c.claim_with_start-claim.new.pass; seat = c.offer.new.seat }) _
    (going_by_offer c.args.hand.now c.args.next.branch c.claim_with_start-claim.new.pass c.claim_with_start-claim.ensures.more granted
    c.read-stop.new.seat c.read-stop.result c.read-stop.ensures.load c.offer.new.seat c.offer.ensures.home c.offer.ensures.quiet)
    (stopped_by_settle _ _ (record c.args.hand.now { pass = c.claim_with_start-claim.new.pass; seat = c.offer.new.seat }) c.args.next.branch _ _ c.in_ok-what.what c.settle.new.pass c.go_on.new.lane some.0
    (granted_known c.args.hand.now.pass c.claim_with_start-claim.new.pass c.args.next.branch granted) c.settle.ensures.more c.in_ok-what.ensures.answer some.1))
    c.go_on.ensures.some

pub returns-in_err-what-clause-taken : goal.returns-in_err-what-clause-taken
returns-in_err-what-clause-taken g c =
    taken_up_later c.args.hand.now.pass c.claim_with_start-claim.new.pass c.settle.new.pass c.args.next.branch
    c.claim_with_start-claim.ensures.more.later c.settle.ensures.more.later c.claim_with_start-claim.ensures.taken

pub returns-clause-taken : goal.returns-clause-taken
returns-clause-taken g c =
    taken_up_later c.args.hand.now.pass c.claim_with_start-claim.new.pass c.settle.new.pass c.args.next.branch
    c.claim_with_start-claim.ensures.more.later c.settle.ensures.more.later c.claim_with_start-claim.ensures.taken
