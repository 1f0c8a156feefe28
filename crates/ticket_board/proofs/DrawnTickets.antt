-- A draw keeps the rule.
use Rattle.std.proofs.Common.{◌≡◌, ◌≢◌, inl, inr, ⊎_elim, ℕ, ◌+◌, ◌%◌, ◌^◌, List, [], ◌∷◌, length, sym, ap, refl, ◌∙◌, subst, arith, get_or, set, length-set}
use Rattle.std.specs.Prelude.{Option, cond}
use mathlib.Core.Option.{some, none}
use native.Mathlib.Nat.{mod-add-mod}
use lib.ListN.{get_elem?}
use Rattle.atomic_table.specs.Table.{State, step, keeps, Allows}
use Rattle.board.specs.Boards.{BoardView}
use Rattle.ticket_board.specs.declared.views.Stage.TheVariants.{Idle}
use Rattle.ticket_board.specs.declared.views.CallerView.{CallerView}
use Rattle.ticket_board.specs.inner.Views.{has_ticket, IsThere, with_ticket}
use Rattle.ticket_board.specs.inner.Rules.{IsInQueue, IsOut, IsSeated, KeepsTicketRule, tickets_out}
use Rattle.ticket_board.specs.inner.Plays.{Sat, drew}
use Rattle.ticket_board.proofs.OtherSeats.{put, put_here, put_else, weight, IsServingStage, tickets_set, each_set, seated_set, queue_stays, stays_in_queue, out_stays}

module _ {P : Type 0} (start : BoardView P) (first : ℕ) where
  drawn_rule : (s : State (Option (BoardView P)) CallerView) (r : KeepsTicketRule start first s) (me : ℕ) (v : CallerView) → v.stage ≡ Idle → get_elem? s.views me ≡ some v →
      KeepsTicketRule start first record {
        words = set s.words 0 ((get_or s.words 0 0 + 1) % 2 ^ 64);
        homes = s.homes;
        views = set s.views me (with_ticket v (r.served + tickets_out s.views));
      }
  drawn_rule s r me v idle at =
      let drawn : ℕ = r.served + tickets_out s.views in
      let w : CallerView = with_ticket v drawn in
      let views : List CallerView = set s.views me w in
      let holder : ℕ → ℕ = put r.holder drawn me in
      let light : weight v ≡ 0 = ap (λ stage. cond (has_ticket stage) 1 0) idle in
      let counted : tickets_out views + weight v ≡ tickets_out s.views + 1 = tickets_set s.views me v w at in
      let more : drawn + 1 ≡ r.served + tickets_out views = omega arith in
      let known : IsSeated start first (length s.views) r.history me v = r.seated me v at (subst IsThere (sym idle) tt) in
      let long = length-set s.views me w in record {
        served = r.served;
        holder = holder;
        history = r.history;
        words = ap (λ words. set words 0 ((get_or words 0 0 + 1) % 2 ^ 64)) r.words
            ∙ ap (λ n. n ∷ (r.served % 2 ^ 64) ∷ []) (mod-add-mod drawn (2 ^ 64) 1 ∙ ap (λ n. n % 2 ^ 64) more);
        few = let few = r.few in omega arith;
        slot = ⊎_elim (λ home. inl home) (λ (out : IsOut s.homes s.views (r.holder r.served)).
            let serves = subst (λ stage. IsInQueue r.served drawn r.holder r.history s.homes (r.holder r.served) out.view stage) out.stage (r.queue (r.holder r.served) out.view out.at) in
            let from = serves.0.from in
            let below = serves.0.below in
            let apart : r.served ≢ drawn = λ same. omega arith in
            inr (subst (λ seat. IsOut s.homes views seat) (sym (put_else r.holder drawn me r.served apart))
            (out_stays s.homes s.views (r.holder r.served) me v w at (λ serves. subst IsServingStage idle serves) out))) r.slot;
        seated = seated_set start first r.history s.views me w (λ there. record {
          shape = known.shape;
          given = known.given;
          number = known.number;
          caller = known.caller;
          seen = known.seen;
          told = known.told;
          own = known.own;
          deals = known.deals;
        }) (λ seat u other here there. r.seated seat u here there);
        queue = each_set (λ seat u. IsInQueue r.served (r.served + tickets_out views) holder r.history s.homes seat u u.stage) s.views me w
            (record { from = omega arith; below = omega arith; alone = put_here r.holder drawn me })
            (λ seat u other here. queue_stays r.served drawn r.served (r.served + tickets_out views) r.holder holder r.history r.history s.homes s.homes seat u
            (λ ticket holds. stays_in_queue r.served drawn r.served (r.served + tickets_out views) r.holder holder seat ticket
            (λ from below alone. (from, omega arith, put_else r.holder drawn me ticket (λ same. omega arith) ∙ alone)) holds)
            (λ holds turn. turn) u.stage (r.queue seat u here));
        unused = λ number above. r.unused number (omega arith);
      }

  pub draws : (slots me : ℕ) (sat : Sat P) → sat.0.stage ≡ Idle →
      Allows (KeepsTicketRule start first) slots me sat 0 (λ n. (n + 1) % 2 ^ 64) (drew (step slots 0 1 0 none) sat)
  draws slots me sat idle s r sized at small = (
    with_ticket sat.0 (r.served + tickets_out s.views),
    keeps,
    tt,
    drawn_rule s r me sat.0 idle at,
    record { ticket = r.served + tickets_out s.views; me = refl; word = ap (λ words. get_or words 0 0) r.words },
  )
