-- A watch keeps the rule.
use Rattle.std.proofs.Common.{◌≡◌, inr, ⊎_elim, ℕ, ◌+◌, ◌%◌, ◌^◌, List, [], ◌∷◌, length, sym, ap, refl, ◌∙◌, subst, arith, get_or, set, length-set}
use Rattle.std.specs.Prelude.{Option, Some, cond}
use mathlib.Core.Logic.{dite}
use mathlib.Core.Option.{some, none, some-injective, some-ne-none}
use mathlib.Core.Option as maybe
use native.Mathlib.Decide.{ℕ_discrete}
use lib.ListN.{get_elem?}
use lib.Seq.{set-get_or}
use Rattle.atomic_table.specs.Table.{State, step, keeps, takes, Allows}
use Rattle.atomic_table.proofs.Lists.{one_turn, set_again, set_here}
use Rattle.board.specs.Boards.{BoardView, IsCaller}
use Rattle.ticket_board.specs.declared.views.Stage.TheVariants.{Waiting, Serving}
use Rattle.ticket_board.specs.declared.views.CallerView.{CallerView}
use Rattle.ticket_board.specs.Passes.{Begins, entries_by}
use Rattle.ticket_board.specs.inner.Views.{has_ticket, IsThere, serving}
use Rattle.ticket_board.specs.inner.Rules.{HoldsTicket, IsInQueue, IsOut, IsAtHome, IsSeated, KeepsTicketRule, tickets_out}
use Rattle.ticket_board.specs.inner.Plays.{Sat, IsBoardOf, watched}
use Rattle.ticket_board.proofs.OtherSeats.{Homes, weight, IsServingStage, inside, same_view, tickets_set, tickets_few, each_set, seated_set, queue_stays, stays_in_queue}

-- what is in a slot that is at home
module _ {P : Type 0} where
  IsFilled : maybe.Option (Option (BoardView P)) → Type 0
  IsFilled none = ⊥
  IsFilled (some inside) = Unit {0}

  abbrev head_of : Homes P → maybe.Option (Option (BoardView P))
  head_of [] = none
  head_of (home ∷ homes) = home

  -- a slot is not at home and out
  pub not_both : (homes : Homes P) (board : BoardView P) → homes ≡ some (Some board) ∷ [] → homes ≡ none ∷ [] → ⊥
  unfolding IsFilled
  not_both homes board home out = subst (λ (homes : Homes P). IsFilled (head_of homes)) (sym home ∙ out) tt

module _ {P : Type 0} (start : BoardView P) (first : ℕ) where
  -- the ticket that the seat holds
  pub held : (s : State (Option (BoardView P)) CallerView) (r : KeepsTicketRule start first s) (me : ℕ) (v : CallerView) → v.stage ≡ Waiting → get_elem? s.views me ≡ some v →
      HoldsTicket r.served (r.served + tickets_out s.views) r.holder me v.ticket
  held s r me v waits at = subst (λ stage. IsInQueue r.served (r.served + tickets_out s.views) r.holder r.history s.homes me v stage) waits (r.queue me v at)

  -- the board at home is the one that the seat serves
  pub is_its : (s : State (Option (BoardView P)) CallerView) (r : KeepsTicketRule start first s) (me : ℕ) (v : CallerView) (home : IsAtHome start r.history s.homes) →
      IsSeated start first (length s.views) r.history me v → IsBoardOf v home.board
  is_its s r me v home known = record {
    shape = home.shape ∙ sym known.shape;
    given = home.given ∙ sym known.given;
    caller = subst (λ given. IsCaller given v.number) (sym home.given) known.caller;
    later = subst (λ history. Begins v.seen history) (sym home.entries) known.seen;
    own = ap (entries_by v.number) home.entries ∙ known.own;
  }

  served_rule : (s : State (Option (BoardView P)) CallerView) (r : KeepsTicketRule start first s) (me : ℕ) (v : CallerView) → v.stage ≡ Waiting → get_elem? s.views me ≡ some v →
      r.served ≡ v.ticket → (home : IsAtHome start r.history s.homes) →
      KeepsTicketRule start first record {
        words = set s.words 1 (get_or s.words 1 0);
        homes = set s.homes 0 none;
        views = set s.views me (serving v home.board.entries);
      }
  served_rule s r me v waits at its home =
      let w : CallerView = serving v home.board.entries in
      let views : List CallerView = set s.views me w in
      let heavy : weight v ≡ 1 = ap (λ stage. cond (has_ticket stage) 1 0) waits in
      let counted : tickets_out views + weight v ≡ tickets_out s.views + 1 = tickets_set s.views me v w at in
      let same : tickets_out s.views ≡ tickets_out views = omega arith in
      let known : IsSeated start first (length s.views) r.history me v = r.seated me v at (subst IsThere (sym waits) tt) in
      let holds = held s r me v waits at in
      let from = holds.from in
      let below = holds.below in
      let alone = holds.alone in
      let long = length-set s.views me w in
      let out : set s.homes 0 none ≡ none ∷ [] = ap (λ (homes : Homes P). set homes 0 none) home.home in record {
        served = r.served;
        holder = r.holder;
        history = r.history;
        words = set-get_or s.words 1 0 ∙ r.words ∙ ap (λ n. ((r.served + n) % 2 ^ 64) ∷ (r.served % 2 ^ 64) ∷ []) same;
        few = let few = r.few in omega arith;
        slot = inr (record {
          out = out;
          view = w;
          at = subst (λ seat. get_elem? views seat ≡ some w) (sym (ap r.holder its ∙ alone)) (set_here s.views me w (inside s.views me v at));
          stage = refl;
        });
        seated = seated_set start first r.history s.views me w (λ there. record {
          shape = known.shape;
          given = known.given;
          number = known.number;
          caller = known.caller;
          seen = known.seen;
          told = known.told;
          own = known.own;
          deals = known.deals;
        }) (λ seat u other here there. r.seated seat u here there);
        queue = each_set (λ seat u. IsInQueue r.served (r.served + tickets_out views) r.holder r.history (set s.homes 0 none) seat u u.stage) s.views me w
            (record { from = from; below = omega arith; alone = alone }, record { its = sym its; out = out; noted = home.entries })
            (λ seat u other here. queue_stays r.served (r.served + tickets_out s.views) r.served (r.served + tickets_out views) r.holder r.holder r.history r.history s.homes (set s.homes 0 none) seat u
            (λ ticket holds. stays_in_queue r.served (r.served + tickets_out s.views) r.served (r.served + tickets_out views) r.holder r.holder seat ticket
            (λ from below alone. (from, omega arith, alone)) holds)
            (λ holds turn. absurd (not_both s.homes home.board home.home turn.out)) u.stage (r.queue seat u here));
        unused = λ number above. r.unused number (omega arith);
      }

  served_now : (slots me : ℕ) (sat : Sat P) → sat.0.stage ≡ Waiting → (s : State (Option (BoardView P)) CallerView) (r : KeepsTicketRule start first s) → get_elem? s.views me ≡ some sat.0 →
      get_or s.words 1 0 ≡ sat.0.ticket % 2 ^ 64 → r.served ≡ sat.0.ticket
  served_now slots me sat waits s r at same =
      let holds = held s r me sat.0 waits at in
      let from = holds.from in
      let below = holds.below in
      let few = r.few in
      let fewer = tickets_few s.views in
      one_turn r.served sat.0.ticket (2 ^ 64) from (omega arith) (sym (ap (λ words. get_or words 1 0) r.words) ∙ same)

  pub watches : (slots me : ℕ) (sat : Sat P) → sat.0.stage ≡ Waiting → Allows (KeepsTicketRule start first) slots me sat 1 (λ n. n) (watched (step slots 1 0 0 none) sat)
  watches slots me sat waits s r sized at small = dite (ℕ_discrete (get_or s.words 1 0) (sat.0.ticket % 2 ^ 64))
      (λ same.
      let its = served_now slots me sat waits s r at same in
      let alone = (held s r me sat.0 waits at).alone in
      ⊎_elim (λ (home : IsAtHome start r.history s.homes). (
        serving sat.0 home.board.entries,
        takes 0 (Some home.board),
        ap (λ (homes : Homes P). get_elem? homes 0) home.home,
        served_rule s r me sat.0 waits at its home,
        (
          λ found. record { board = home.board; is_its = is_its s r me sat.0 home (r.seated me sat.0 at (subst IsThere (sym waits) tt)); me = refl },
          λ other. absurd (other same),
        ),
      )) (λ (out : IsOut s.homes s.views (r.holder r.served)).
      let there : get_elem? s.views me ≡ some out.view = subst (λ seat. get_elem? s.views seat ≡ some out.view) (ap r.holder its ∙ alone) out.at in
      let stage : sat.0.stage ≡ Serving = ap (λ (view : CallerView). view.stage) (same_view s.views me sat.0 out.view at there) ∙ out.stage in
      absurd (subst IsServingStage (sym stage ∙ waits) tt)) r.slot)
      (λ other. (
        sat.0,
        keeps,
        tt,
        subst (λ (x : List ℕ × List CallerView). KeepsTicketRule start first record { words = x.0; homes = s.homes; views = x.1 })
            (λ i. (sym (set-get_or s.words 1 0) i, sym (set_again s.views me sat.0 at) i)) r,
        (λ same. absurd (other same), λ _. refl),
      ))
