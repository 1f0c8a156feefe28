-- Joining two seats, and comparing what was seen with what was told, keep the rule.
use Rattle.std.proofs.Common.{◌≡◌, ◌⊎◌, inl, inr, ⊎_elim, ℕ, ◌+◌, ◌%◌, ◌^◌, ◌<◌, ◌≤◌, List, [], ◌∷◌, ◌++◌, length, sym, ap, refl, ◌∙◌, subst, arith, get_or, set, length-set}
use Rattle.std.specs.Prelude.{Option, cond}
use Rattle.std.proofs.lemmas.Bool.{cases_lt}
use Rattle.std.proofs.lemmas.List.{append-nil, length-append, nil_from_length}
use mathlib.Core.Option.{some, none}
use lib.ListN.{get_elem?}
use lib.Seq.{set-get_or}
use Rattle.atomic_table.specs.Table.{State, Me, step, keeps, stepped, Allows, Joins}
use Rattle.board.specs.declared.entries.Entry.{Entry}
use Rattle.board.specs.Boards.{BoardView}
use Rattle.ticket_board.specs.declared.views.Stage.TheVariants.{Idle}
use Rattle.ticket_board.specs.declared.views.CallerView.{CallerView}
use Rattle.ticket_board.specs.Passes.{Begins, entries_by}
use Rattle.ticket_board.specs.inner.Views.{has_ticket, IsThere, told_of, nobody}
use Rattle.ticket_board.specs.inner.Rules.{IsInQueue, IsOut, IsSeated, KeepsTicketRule, tickets_out}
use Rattle.ticket_board.specs.inner.Plays.{Sat, compared}
use Rattle.ticket_board.proofs.Histories.{begins_itself, shorter_begins, by-append}
use Rattle.ticket_board.proofs.OtherSeats.{weight, IsServingStage, tickets_set, each_set, seated_set, out_stays}

-- between two histories that have the same entries of a caller there is none of its own
same_between : (number : ℕ) (a b whole mine : List Entry) → Begins a b → Begins b whole → entries_by number a ≡ mine → entries_by number whole ≡ mine → entries_by number b ≡ mine
same_between number a b whole mine first second short full =
    let front : entries_by number b ≡ entries_by number a ++ entries_by number first.rest = ap (entries_by number) first.whole_is ∙ by-append number a first.rest in
    let all : entries_by number whole ≡ entries_by number b ++ entries_by number second.rest = ap (entries_by number) second.whole_is ∙ by-append number b second.rest in
    let lengths : length mine ≡ length (entries_by number b ++ entries_by number second.rest) = ap length (sym full ∙ all) in
    let parts = length-append (entries_by number b) (entries_by number second.rest) in
    let inner : length (entries_by number b) ≡ length (entries_by number a ++ entries_by number first.rest) = ap length front in
    let pieces = length-append (entries_by number a) (entries_by number first.rest) in
    let shorts : length (entries_by number a) ≡ length mine = ap length short in
    let none_more : length (entries_by number first.rest) ≡ 0 = omega arith in
    front ∙ ap (λ more. entries_by number a ++ more) (nil_from_length (entries_by number first.rest) none_more) ∙ append-nil (entries_by number a) ∙ short

module _ {P : Type 0} (start : BoardView P) (first : ℕ) where
  -- an idle seat whose view changes, and stays out of the queue
  idle_rule : (s : State (Option (BoardView P)) CallerView) (r : KeepsTicketRule start first s) (me : ℕ) (v w : CallerView) → v.stage ≡ Idle → get_elem? s.views me ≡ some v →
      weight w ≡ 0 → IsInQueue r.served (r.served + tickets_out s.views) r.holder r.history s.homes me w w.stage →
      (IsThere w.stage → IsSeated start first (length s.views) r.history me w) →
      KeepsTicketRule start first record { words = s.words; homes = s.homes; views = set s.views me w }
  idle_rule s r me v w idle at light stands known =
      let views : List CallerView = set s.views me w in
      let was : weight v ≡ 0 = ap (λ stage. cond (has_ticket stage) 1 0) idle in
      let counted : tickets_out views + weight v ≡ tickets_out s.views + weight w = tickets_set s.views me v w at in
      let same : tickets_out s.views ≡ tickets_out views = omega arith in
      let long = length-set s.views me w in record {
        served = r.served;
        holder = r.holder;
        history = r.history;
        words = r.words ∙ ap (λ n. ((r.served + n) % 2 ^ 64) ∷ (r.served % 2 ^ 64) ∷ []) same;
        few = let few = r.few in omega arith;
        slot = ⊎_elim (λ home. inl home)
            (λ (out : IsOut s.homes s.views (r.holder r.served)). inr (out_stays s.homes s.views (r.holder r.served) me v w at (λ serves. subst IsServingStage idle serves) out)) r.slot;
        seated = seated_set start first r.history s.views me w known (λ seat u other here there. r.seated seat u here there);
        queue = subst (λ n. (seat : ℕ) (u : CallerView) → get_elem? views seat ≡ some u → IsInQueue r.served (r.served + n) r.holder r.history s.homes seat u u.stage) same
            (each_set (λ seat u. IsInQueue r.served (r.served + tickets_out s.views) r.holder r.history s.homes seat u u.stage) s.views me w stands (λ seat u other here. r.queue seat u here));
        unused = λ number above. r.unused number (omega arith);
      }

  seated_of : (s : State (Option (BoardView P)) CallerView) (r : KeepsTicketRule start first s) (me : ℕ) (v : CallerView) → v.stage ≡ Idle → get_elem? s.views me ≡ some v → IsSeated start first (length s.views) r.history me v
  seated_of s r me v idle at = r.seated me v at (subst IsThere (sym idle) tt)

  light_of : (w : CallerView) → w.stage ≡ Idle → weight w ≡ 0
  light_of w idle = ap (λ stage. cond (has_ticket stage) 1 0) idle

  compares_to : (s : State (Option (BoardView P)) CallerView) (r : KeepsTicketRule start first s) (me : ℕ) (v : CallerView) → v.stage ≡ Idle → get_elem? s.views me ≡ some v → (history : List Entry) → Begins history r.history →
      KeepsTicketRule start first record { words = set s.words 1 (get_or s.words 1 0); homes = s.homes; views = set s.views me (record v { seen = history }) }
  compares_to s r me v idle at history front =
      let known = seated_of s r me v idle at in
      subst (λ words. KeepsTicketRule start first record { words = words; homes = s.homes; views = set s.views me (record v { seen = history }) }) (sym (set-get_or s.words 1 0))
      (idle_rule s r me v (record v { seen = history }) idle at (light_of v idle)
      (subst (λ stage. IsInQueue r.served (r.served + tickets_out s.views) r.holder r.history s.homes me (record v { seen = history }) stage) (sym idle) tt)
      (λ there. record {
        shape = known.shape;
        given = known.given;
        number = known.number;
        caller = known.caller;
        seen = front;
        told = known.told;
        own = known.own;
        deals = known.deals;
      }))

  pub compares : (slots me : ℕ) (sat : Sat P) → sat.0.stage ≡ Idle → Allows (KeepsTicketRule start first) slots me sat 1 (λ n. n) (compared (step slots 1 0 0 none) sat)
  compares slots me sat idle s r sized at small =
      let v : CallerView = sat.0 in
      let known = seated_of s r me v idle at in
      by_length known (cases_lt (length v.seen) (length v.told))
    where
      by_length : IsSeated start first (length s.views) r.history me sat.0 → (length sat.0.seen < length sat.0.told) ⊎ (length sat.0.told ≤ length sat.0.seen) →
          (w : CallerView) × (a : Rattle.atomic_table.specs.Table.Act (Option (BoardView P))) × Rattle.atomic_table.specs.Table.Valid s.homes sat.1 a
          × KeepsTicketRule start first (stepped s 1 (get_or s.words 1 0) me sat.1 w a) × compared (step slots 1 0 0 none) sat (get_or s.words 1 0) (w, Rattle.atomic_table.specs.Table.carried_after sat.1 a)
      by_length known (inl longer) =
          let begins = shorter_begins sat.0.seen sat.0.told r.history known.seen known.told (omega arith) in (
            record sat.0 { seen = sat.0.told },
            keeps,
            tt,
            compares_to s r me sat.0 idle at sat.0.told known.told,
            (
              record {
                same = refl;
                one = inr refl;
                seen = begins;
                told = begins_itself sat.0.told;
                own = λ own. same_between sat.0.number sat.0.seen sat.0.told r.history sat.0.mine begins known.told own known.own;
              },
              refl,
            ),
          )
      by_length known (inr shorter) = (
        sat.0,
        keeps,
        tt,
        compares_to s r me sat.0 idle at sat.0.seen known.seen,
        (
          record {
            same = refl;
            one = inl refl;
            seen = begins_itself sat.0.seen;
            told = shorter_begins sat.0.told sat.0.seen r.history known.told known.seen shorter;
            own = λ own. own;
          },
          refl,
        ),
      )

  pub meets : (me other : ℕ) (v w : CallerView) → v.stage ≡ Idle → w.stage ≡ Idle → Joins (KeepsTicketRule start first) me v other w (told_of v w) nobody
  meets me other v w idle rests s r at apart there =
      let known = seated_of s r me v idle at in
      let told = told_of v w in
      let before = r.seated other w (away s at apart there) (subst IsThere (sym rests) tt) in
      let one = idle_rule s r me v told idle at (light_of v idle)
      (subst (λ stage. IsInQueue r.served (r.served + tickets_out s.views) r.holder r.history s.homes me told stage) (sym idle) tt)
      (λ there. record {
        shape = known.shape;
        given = known.given;
        number = known.number;
        caller = known.caller;
        seen = known.seen;
        told = before.seen;
        own = known.own;
        deals = known.deals;
      }) in
      idle_rule (record { words = s.words; homes = s.homes; views = set s.views me told }) one other w nobody rests there refl tt (λ there. absurd there)
    where
      away : (s : State (Option (BoardView P)) CallerView) → get_elem? s.views me ≡ some v → ¬ (other ≡ me) → get_elem? (set s.views me (told_of v w)) other ≡ some w → get_elem? s.views other ≡ some w
      away s at apart there = sym (Rattle.atomic_table.proofs.Lists.set_else s.views me other (told_of v w) apart) ∙ there
