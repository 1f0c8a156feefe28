-- Passing the turn on keeps the rule.
use Rattle.std.proofs.Common.{◌≡◌, ◌≢◌, inl, ℕ, ◌+◌, ◌%◌, ◌^◌, List, [], ◌∷◌, ◌++◌, length, sym, ap, refl, ◌∙◌, subst, arith, get_or, set, length-set}
use Rattle.std.specs.Prelude.{Option, Some, cond}
use Rattle.std.proofs.lemmas.List.{append-nil}
use mathlib.Core.Option.{some, none}
use native.Mathlib.Nat.{mod-add-mod}
use lib.ListN.{get_elem?}
use Rattle.atomic_table.specs.Table.{State, step, gives, Allows}
use Rattle.board.specs.declared.entries.Entry.{Entry}
use Rattle.board.specs.Boards.{BoardView}
use Rattle.ticket_board.specs.declared.views.Stage.TheVariants.{Serving}
use Rattle.ticket_board.specs.declared.views.CallerView.{CallerView}
use Rattle.ticket_board.specs.Passes.{Begins, entries_by}
use Rattle.ticket_board.specs.inner.Views.{has_ticket, IsThere, after_turn}
use Rattle.ticket_board.specs.inner.Rules.{IsInQueue, IsSeated, KeepsTicketRule, tickets_out}
use Rattle.ticket_board.specs.inner.Plays.{Sat, passed_on}
use Rattle.ticket_board.specs.inner.Turns.{Adds}
use Rattle.ticket_board.proofs.Histories.{begins_itself, begins_longer, begins_with, by-append}
use Rattle.ticket_board.proofs.HeldSlots.{one_inside}
use Rattle.ticket_board.proofs.OtherSeats.{Homes, weight, inside, tickets_set, each_set, seated_set, queue_stays, stays_in_queue}

-- of a caller to which nothing was added there are the entries that there were
by_unchanged : (number : ℕ) (front added whole : List Entry) → whole ≡ front ++ added → entries_by number added ≡ [] → entries_by number whole ≡ entries_by number front
by_unchanged number front added whole is none_added =
    ap (entries_by number) is ∙ by-append number front added ∙ ap (λ more. entries_by number front ++ more) none_added ∙ append-nil (entries_by number front)

module _ {P : Type 0} (start : BoardView P) (first : ℕ) where
  passed_rule : (s : State (Option (BoardView P)) CallerView) (r : KeepsTicketRule start first s) (me : ℕ) (v : CallerView) (board : BoardView P) → v.stage ≡ Serving → Adds v board → get_elem? s.views me ≡ some v →
      KeepsTicketRule start first record {
        words = set s.words 1 ((get_or s.words 1 0 + 1) % 2 ^ 64);
        homes = set s.homes 0 (some (Some board));
        views = set s.views me (after_turn v board.entries);
      }
  passed_rule s r me v board serves adds at =
      let drawn : ℕ = r.served + tickets_out s.views in
      let w : CallerView = after_turn v board.entries in
      let views : List CallerView = set s.views me w in
      let heavy : weight v ≡ 1 = ap (λ stage. cond (has_ticket stage) 1 0) serves in
      let counted : tickets_out views + weight v ≡ tickets_out s.views + 0 = tickets_set s.views me v w at in
      let same : drawn ≡ (r.served + 1) + tickets_out views = omega arith in
      let known : IsSeated start first (length s.views) r.history me v = r.seated me v at (subst IsThere (sym serves) tt) in
      let stands = subst (λ stage. IsInQueue r.served drawn r.holder r.history s.homes me v stage) serves (r.queue me v at) in
      let mine : r.holder r.served ≡ me = ap r.holder (sym stands.1.its) ∙ stands.0.alone in
      let whole : board.entries ≡ r.history ++ adds.added = adds.entries ∙ ap (λ front. front ++ adds.added) stands.1.noted in
      let longer : Begins r.history board.entries = begins_with r.history adds.added board.entries whole in
      let home : set s.homes 0 (some (Some board)) ≡ some (Some board) ∷ [] = ap (λ (homes : Homes P). set homes 0 (some (Some board))) stands.1.out in
      let number = known.number in
      let within = inside s.views me v at in
      let long = length-set s.views me w in record {
        served = r.served + 1;
        holder = r.holder;
        history = board.entries;
        words = ap (λ words. set words 1 ((get_or words 1 0 + 1) % 2 ^ 64)) r.words
            ∙ (λ i. (same i % 2 ^ 64) ∷ mod-add-mod r.served (2 ^ 64) 1 i ∷ []);
        few = let few = r.few in omega arith;
        slot = inl (record { board = board; home = home; entries = refl; shape = adds.shape ∙ known.shape; given = adds.given ∙ known.given });
        seated = seated_set start first board.entries s.views me w (λ there. record {
          shape = known.shape;
          given = known.given;
          number = known.number;
          caller = known.caller;
          seen = begins_itself board.entries;
          told = begins_longer v.told r.history board.entries known.told longer;
          own = refl;
          deals = known.deals;
        }) (λ seat u other here there. let its = r.seated seat u here there in let apart = its.number in record {
          shape = its.shape;
          given = its.given;
          number = its.number;
          caller = its.caller;
          seen = begins_longer u.seen r.history board.entries its.seen longer;
          told = begins_longer u.told r.history board.entries its.told longer;
          own = by_unchanged u.number r.history adds.added board.entries whole (adds.no_other u.number (λ equal. other (omega arith))) ∙ its.own;
          deals = its.deals;
        });
        queue = each_set (λ seat u. IsInQueue (r.served + 1) ((r.served + 1) + tickets_out views) r.holder board.entries (set s.homes 0 (some (Some board))) seat u u.stage) s.views me w
            tt
            (λ seat u other here. queue_stays r.served drawn (r.served + 1) ((r.served + 1) + tickets_out views) r.holder r.holder r.history board.entries s.homes (set s.homes 0 (some (Some board))) seat u
            (λ ticket holds. stays_in_queue r.served drawn (r.served + 1) ((r.served + 1) + tickets_out views) r.holder r.holder seat ticket
            (λ from below alone. let apart : ticket ≢ r.served = λ equal. other (sym alone ∙ ap r.holder equal ∙ mine) in (omega arith, omega arith, alone)) holds)
            (λ holds turn. absurd (other (sym holds.alone ∙ ap r.holder turn.its ∙ mine))) u.stage (r.queue seat u here));
        unused = λ number above. by_unchanged number r.history adds.added board.entries whole (adds.no_other number (λ equal. omega arith)) ∙ r.unused number (omega arith);
      }

  passes_at : (slots me : ℕ) (v : CallerView) (board : BoardView P) → v.stage ≡ Serving → Adds v board →
      Allows (KeepsTicketRule start first) slots me (v, (0, Some board) ∷ []) 1 (λ n. (n + 1) % 2 ^ 64) (passed_on (step slots 1 1 0 none) (v, (0, Some board) ∷ []))
  passes_at slots me v board serves adds s r sized at small = (
    after_turn v board.entries,
    gives,
    tt,
    passed_rule s r me v board serves adds at,
    λ other held. ap (λ (inside : BoardView P). (after_turn v inside.entries, [])) (one_inside board other held),
  )

  pub passes : (slots me : ℕ) (sat : Sat P) (board : BoardView P) → sat.0.stage ≡ Serving → sat.1 ≡ (0, Some board) ∷ [] → Adds sat.0 board →
      Allows (KeepsTicketRule start first) slots me sat 1 (λ n. (n + 1) % 2 ^ 64) (passed_on (step slots 1 1 0 none) sat)
  passes slots me sat board serves slot adds =
      subst (λ (held : List (ℕ × Option (BoardView P))). Allows (KeepsTicketRule start first) slots me (sat.0, held) 1 (λ n. (n + 1) % 2 ^ 64) (passed_on (step slots 1 1 0 none) (sat.0, held)))
      (sym slot) (passes_at slots me sat.0 board serves adds)
