use Rattle.std.proofs.Common.{arith, ◌≡◌, ◌+◌, ◌≤◌, ◌<◌, refl, ap, sym, subst, ◌∙◌, [], vec_len, ℕ}
use Rattle.ticket_board.specs.Passes.{AreNewcomers, BoardHome, PassView, new_pass}
use Rattle.ticket_board.specs.inner.Views.{dealer_after, dealt_next, pass_of, view_in}
use Rattle.ticket_board.proofs.DealtSeats.{deals}
use Rattle.ticket_board.proofs.NewPasses.{newcomers_with}
use Rattle.ticket_board.proofs.dealing.deal.Goals as goal

pub split_seat-seat-requires : goal.split_seat-seat-requires
split_seat-seat-requires g c =
    let words = c.requires.sized.0 in
    let me = c.loop-k.invariant.2.me_is in
    let few = c.requires.founded.few in
    let given = c.requires.founded.given in
    let more = c.loop-k.auto.k in
    let below = c.loop-k-test.true in
    let dealt : c.loop-k.dealer.me.0.dealt ≡ c.loop-k.k = ap (λ me. me.0.dealt) me in
    let number : c.loop-k.dealer.me.0.number ≡ c.args.first = ap (λ me. me.0.number) me in
    let known : c.loop-k.dealer.me.0.given ≡ c.args.desk.now.key.board.value.given = ap (λ me. me.0.given) me in (
      c.loop-k.invariant.0,
      omega (arith, words),
      deals c.args.desk.now.key.board.value c.args.desk.now.key.first _ _ c.loop-k.invariant.1 (ap (λ me. me.0.stage) me) (omega arith) (omega arith) (omega arith),
    )

pub loop-k-preserved : goal.loop-k-preserved
loop-k-preserved g c =
    let me = c.loop-k.invariant.2.me_is in
    let split = c.split_seat-seat.ensures in
    let start = c.args.desk.now.key.board.value in
    let home : BoardHome = record { table = c.args.desk.now.table_id; shape = start.shape } in
    let badge = c.into_badge.ensures in
    let table = split.3 ∙ c.loop-k.invariant.0 in
    let count : vec_len c.loop-k.passes + 1 ≡ c.loop-k.k = c.loop-k.invariant.4 in
    let number : c.args.first + c.loop-k.k ≡ c.args.first + 1 + vec_len c.loop-k.passes = omega arith in
    let last : pass_of c.into_badge.result.table_id (view_in c.into_badge.result.views) ≡ new_pass home (c.args.first + 1 + vec_len c.loop-k.passes) start.entries =
    (λ i. pass_of (badge.0 i) (view_in (badge.2 i))) ∙ (λ i. pass_of (table i) (split.4 i).0) ∙ (λ i. pass_of c.args.desk.now.table_id (dealt_next (me i).0)) ∙ ap (λ n. new_pass home n start.entries) number in
    let longer : vec_len c.push_reserved.new.self ≡ vec_len c.loop-k.passes + 1 = c.push_reserved.ensures.len in
    let with = newcomers_with home (c.args.first + 1) (vec_len c.loop-k.passes) start.entries _ _ c.loop-k.invariant.3 last in (
      split.0 ∙ c.loop-k.invariant.0,
      split.1 ∙ c.loop-k.invariant.1,
      record { me_is = split.2 ∙ (λ i. (dealer_after (me i).0, (me i).1)) },
      subst (λ (x : ℕ × Rattle.std.proofs.Common.List PassView). AreNewcomers home (c.args.first + 1) x.0 start.entries x.1) (λ i. (sym longer i, sym c.push_reserved.ensures.items i)) with,
      omega arith,
      subst (λ n. c.args.callers ≤ n) (sym c.push_reserved.ensures.capacity) c.loop-k.invariant.5,
    )
