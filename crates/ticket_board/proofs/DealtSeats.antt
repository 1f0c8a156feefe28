-- The table at the start, and dealing out one more seat.
use Rattle.std.proofs.Common.{◌≡◌, inl, inr, ⊎_elim, ℕ, zero, suc, ◌+◌, ◌%◌, ◌^◌, ◌<◌, ◌≤◌, List, [], ◌∷◌, ◌++◌, length, sym, ap, refl, ◌∙◌, subst, arith, set, length-set}
use Rattle.std.specs.Prelude.{Some, cond}
use Rattle.std.proofs.lemmas.List.{length-append}
use mathlib.Core.Option.{some, some-injective, some-ne-none}
use lib.ListN.{get_elem?}
use Rattle.atomic_table.specs.Table.{Splits, opening}
use Rattle.atomic_table.proofs.Lists.{at_longer}
use Rattle.board.specs.Boards.{BoardView}
use Rattle.ticket_board.specs.declared.views.Stage.TheVariants.{Idle}
use Rattle.ticket_board.specs.declared.views.CallerView.{CallerView}
use Rattle.ticket_board.specs.inner.Views.{has_ticket, IsThere, first_view, dealer_after, dealt_next}
use Rattle.ticket_board.specs.inner.Rules.{IsInQueue, IsOut, IsSeated, KeepsTicketRule, tickets_out}
use Rattle.ticket_board.specs.inner.Dealing.{IsFounded}
use Rattle.ticket_board.proofs.Histories.{begins_itself, nothing_begins}
use Rattle.ticket_board.proofs.OtherSeats.{weight, IsServingStage, tickets_set, tickets_with, each_set, each_with, out_stays}

one_seat : (K : ℕ → CallerView → Type 0) (v : CallerView) → K 0 v → (seat : ℕ) (u : CallerView) → get_elem? (v ∷ []) seat ≡ some u → K seat u
one_seat K v first zero u at = subst (K 0) (some-injective v u at) first
one_seat K v first (suc seat) u at = absurd (some-ne-none u (sym at))

module _ {P : Type 0} (start : BoardView P) (first : ℕ) where
  pub opens : (callers : ℕ) → IsFounded start first callers → KeepsTicketRule start first (opening (0 ∷ 0 ∷ []) (Some start ∷ []) (first_view start first))
  opens callers founded =
      let some_caller = founded.some in
      let positive = founded.positive in
      let given = founded.given in record {
        served = 0;
        holder = λ ticket. 0;
        history = start.entries;
        words = refl;
        few = omega arith;
        slot = inl (record { board = start; home = refl; entries = refl; shape = refl; given = refl });
        seated = one_seat (λ seat u. IsThere u.stage → IsSeated start first 1 start.entries seat u) (first_view start first) (λ there. record {
          shape = refl;
          given = refl;
          number = omega arith;
          caller = record { positive = positive; known = omega arith };
          seen = begins_itself start.entries;
          told = nothing_begins start.entries;
          own = founded.none_yet first (omega arith);
          deals = λ deals. (refl, refl);
        });
        queue = one_seat (λ seat u. IsInQueue 0 0 (λ ticket. 0) start.entries (some (Some start) ∷ []) seat u u.stage) (first_view start first) tt;
        unused = λ number above. founded.none_yet number (omega arith);
      }

  pub deals : (me : ℕ) (v : CallerView) → me ≡ 0 → v.stage ≡ Idle → 0 < v.dealt → v.dealt + 1 ≤ 1000 → v.number + v.dealt ≤ v.given →
      Splits (KeepsTicketRule start first) me v (dealer_after v) (dealt_next v)
  deals me v dealer idle some_dealt few room s r at =
      let left : CallerView = dealer_after v in
      let right : CallerView = dealt_next v in
      let middle : List CallerView = set s.views me left in
      let views : List CallerView = middle ++ right ∷ [] in
      let light : weight v ≡ 0 = ap (λ stage. cond (has_ticket stage) 1 0) idle in
      let left_light : weight left ≡ 0 = light in
      let right_light : weight right ≡ 0 = light in
      let counted : tickets_out middle + weight v ≡ tickets_out s.views + weight left = tickets_set s.views me v left at in
      let with = tickets_with middle right in
      let same : tickets_out s.views ≡ tickets_out views = omega arith in
      let known : IsSeated start first (length s.views) r.history me v = r.seated me v at (subst IsThere (sym idle) tt) in
      let many : v.dealt ≡ length s.views = (known.deals some_dealt).1 in
      let long : length middle ≡ length s.views = length-set s.views me left in
      let longer : length views ≡ length middle + 1 = length-append middle (right ∷ []) in
      let number = known.number in
      let given = known.given in
      let caller = known.caller.positive in record {
        served = r.served;
        holder = r.holder;
        history = r.history;
        words = r.words ∙ ap (λ n. ((r.served + n) % 2 ^ 64) ∷ (r.served % 2 ^ 64) ∷ []) same;
        few = omega arith;
        slot = ⊎_elim (λ home. inl home) (λ (out : IsOut s.homes s.views (r.holder r.served)).
            let stays = out_stays s.homes s.views (r.holder r.served) me v left at (λ serves. subst IsServingStage idle serves) out in
            inr (record { out = stays.out; view = stays.view; at = at_longer middle (right ∷ []) (r.holder r.served) stays.view stays.at; stage = stays.stage })) r.slot;
        seated = each_with (λ seat u. IsThere u.stage → IsSeated start first (length views) r.history seat u) middle right (λ there. record {
          shape = known.shape;
          given = known.given;
          number = omega arith;
          caller = record { positive = omega arith; known = omega arith };
          seen = known.seen;
          told = nothing_begins r.history;
          own = r.unused (v.number + v.dealt) (omega arith);
          deals = λ deals. absurd (omega arith);
        }) (each_set (λ seat u. IsThere u.stage → IsSeated start first (length views) r.history seat u) s.views me left (λ there. record {
          shape = known.shape;
          given = known.given;
          number = known.number;
          caller = known.caller;
          seen = known.seen;
          told = known.told;
          own = known.own;
          deals = λ deals. (dealer, omega arith);
        }) (λ seat u other here there. let its = r.seated seat u here there in record {
          shape = its.shape;
          given = its.given;
          number = its.number;
          caller = its.caller;
          seen = its.seen;
          told = its.told;
          own = its.own;
          deals = λ deals. absurd (other ((its.deals deals).0 ∙ sym dealer));
        }));
        queue = subst (λ n. (seat : ℕ) (u : CallerView) → get_elem? views seat ≡ some u → IsInQueue r.served (r.served + n) r.holder r.history s.homes seat u u.stage) same
            (each_with (λ seat u. IsInQueue r.served (r.served + tickets_out s.views) r.holder r.history s.homes seat u u.stage) middle right
            (subst (λ stage. IsInQueue r.served (r.served + tickets_out s.views) r.holder r.history s.homes (length middle) right stage) (sym idle) tt)
            (each_set (λ seat u. IsInQueue r.served (r.served + tickets_out s.views) r.holder r.history s.homes seat u u.stage) s.views me left
            (subst (λ stage. IsInQueue r.served (r.served + tickets_out s.views) r.holder r.history s.homes me left stage) (sym idle) tt)
            (λ seat u other here. r.queue seat u here)));
        unused = λ number above. r.unused number (omega arith);
      }
