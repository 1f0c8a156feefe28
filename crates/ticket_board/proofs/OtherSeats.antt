-- What stays true of the other seats when one of them changes.
use Rattle.std.proofs.Common.{◌≡◌, ◌≢◌, ◌⊎◌, inl, inr, ⊎_elim, ℕ, zero, suc, ◌+◌, ◌<◌, ◌≤◌, eqb, Bool, List, [], ◌∷◌, ◌++◌, length, sym, ap, refl, ◌∙◌, subst, arith, get_or, set, ne_eqb, eq-eqb, length-set}
use Rattle.std.specs.Prelude.{Option, if◌then◌else◌, cond}
use Rattle.std.proofs.lemmas.List.Sums.{sum_by-append, sum_by-set, count_by-le-length}
use mathlib.Core.Option.{some, none, some-injective, some-ne-none}
use mathlib.Core.Option as maybe
use lib.ListN.{get_elem?}
use Rattle.atomic_table.proofs.Lists.{at_set}
use Rattle.board.specs.declared.entries.Entry.{Entry}
use Rattle.board.specs.Boards.{BoardView}
use Rattle.ticket_board.specs.declared.views.Stage.{Stage}
use Rattle.ticket_board.specs.declared.views.Stage.TheVariants.{Gone, Idle, Waiting, Serving}
use Rattle.ticket_board.specs.declared.views.CallerView.{CallerView}
use Rattle.ticket_board.specs.inner.Views.{has_ticket, IsThere}
use Rattle.ticket_board.specs.inner.Rules.{HoldsTicket, IsInQueue, IsInTurn, IsOut, IsSeated, tickets_out}

-- the function f, with x at the number n
abbrev pub put : (ℕ → ℕ) → ℕ → ℕ → ℕ → ℕ
put f n x k = if eqb k n then x else f k

pub put_here : (f : ℕ → ℕ) (n x : ℕ) → put f n x n ≡ x
put_here f n x = ap (λ (b : Bool). if b then x else f n) (eq-eqb n n refl)

pub put_else : (f : ℕ → ℕ) (n x k : ℕ) → k ≢ n → put f n x k ≡ f k
put_else f n x k other = ap (λ (b : Bool). if b then x else f k) (ne_eqb k n other)

-- what a seat counts for among those that hold a ticket
abbrev pub weight : CallerView → ℕ
weight view = cond (has_ticket view.stage) 1 0

-- the seat is in its turn
abbrev pub IsServingStage : Stage → Type 0
IsServingStage Gone = ⊥
IsServingStage Idle = ⊥
IsServingStage Waiting = ⊥
IsServingStage Serving = Unit {0}

get_or_from : (views : List CallerView) (seat : ℕ) (view d : CallerView) → get_elem? views seat ≡ some view → (seat < length views) × (get_or views seat d ≡ view)
get_or_from [] seat view d at = absurd (some-ne-none view (sym at))
get_or_from (v ∷ views) zero view d at = (omega arith, some-injective v view at)
get_or_from (v ∷ views) (suc seat) view d at = let more = get_or_from views seat view d at in let inside : seat < length views = more.0 in (omega arith, more.1)

pub inside : (views : List CallerView) (seat : ℕ) (view : CallerView) → get_elem? views seat ≡ some view → seat < length views
inside views seat view at = (get_or_from views seat view view at).0

pub tickets_set : (views : List CallerView) (seat : ℕ) (v w : CallerView) → get_elem? views seat ≡ some v →
    tickets_out (set views seat w) + weight v ≡ tickets_out views + weight w
tickets_set views seat v w at =
    let found = get_or_from views seat v v at in
    subst (λ (u : CallerView). tickets_out (set views seat w) + weight u ≡ tickets_out views + weight w) found.1
    (sum_by-set weight views seat w v found.0)

pub tickets_with : (views : List CallerView) (w : CallerView) → tickets_out (views ++ w ∷ []) ≡ tickets_out views + weight w
tickets_with views w = let added : tickets_out (views ++ w ∷ []) ≡ tickets_out views + (0 + weight w) = sum_by-append weight views (w ∷ []) in omega arith

pub tickets_few : (views : List CallerView) → tickets_out views ≤ length views
tickets_few views = count_by-le-length (λ view. has_ticket view.stage) views

pub at_with : (views : List CallerView) (w : CallerView) (seat : ℕ) (v : CallerView) → get_elem? (views ++ w ∷ []) seat ≡ some v →
    (get_elem? views seat ≡ some v) ⊎ ((seat ≡ length views) × (w ≡ v))
at_with [] w zero v at = inr (refl, some-injective w v at)
at_with [] w (suc seat) v at = absurd (some-ne-none v (sym at))
at_with (u ∷ views) w zero v at = inl at
at_with (u ∷ views) w (suc seat) v at = ⊎_elim (λ here. inl here) (λ last. inr (ap suc last.0, last.1)) (at_with views w seat v at)

-- a fact on each seat and its view stays when one view changes
pub each_set : (K : ℕ → CallerView → Type 0) (views : List CallerView) (me : ℕ) (w : CallerView) → K me w →
    ((seat : ℕ) (v : CallerView) → seat ≢ me → get_elem? views seat ≡ some v → K seat v) →
    (seat : ℕ) (v : CallerView) → get_elem? (set views me w) seat ≡ some v → K seat v
each_set K views me w mine others seat v at =
    ⊎_elim (λ here. subst (λ (x : ℕ × CallerView). K x.0 x.1) (λ i. (sym here.0 i, here.1 i)) mine)
    (λ other. others seat v other.0 other.1) (at_set views me seat w v at)

pub each_with : (K : ℕ → CallerView → Type 0) (views : List CallerView) (w : CallerView) → K (length views) w →
    ((seat : ℕ) (v : CallerView) → get_elem? views seat ≡ some v → K seat v) →
    (seat : ℕ) (v : CallerView) → get_elem? (views ++ w ∷ []) seat ≡ some v → K seat v
each_with K views w last others seat v at =
    ⊎_elim (λ here. others seat v here)
    (λ new. subst (λ (x : ℕ × CallerView). K x.0 x.1) (λ i. (sym new.0 i, new.1 i)) last) (at_with views w seat v at)

pub same_view : (views : List CallerView) (seat : ℕ) (v w : CallerView) → get_elem? views seat ≡ some v → get_elem? views seat ≡ some w → v ≡ w
same_view views seat v w first second = some-injective v w (sym first ∙ second)

-- a ticket of another seat stays in the queue
pub stays_in_queue : (served drawn served' drawn' : ℕ) (holder holder' : ℕ → ℕ) (seat ticket : ℕ) →
    (served ≤ ticket → ticket < drawn → holder ticket ≡ seat → (served' ≤ ticket) × (ticket < drawn') × (holder' ticket ≡ seat)) →
    HoldsTicket served drawn holder seat ticket → HoldsTicket served' drawn' holder' seat ticket
stays_in_queue served drawn served' drawn' holder holder' seat ticket more holds =
    let now = more holds.from holds.below holds.alone in record { from = now.0; below = now.1; alone = now.2 }

abbrev pub Homes : Type 0 → Type 0
Homes P = List (maybe.Option (Option (BoardView P)))

module _ {P : Type 0} where
  -- another seat stays in the queue, if its ticket does and what is known in a turn does
  pub queue_stays : (served drawn served' drawn' : ℕ) (holder holder' : ℕ → ℕ) (history history' : List Entry) (homes homes' : Homes P)
      (seat : ℕ) (view : CallerView) →
      ((ticket : ℕ) → HoldsTicket served drawn holder seat ticket → HoldsTicket served' drawn' holder' seat ticket) →
      (HoldsTicket served drawn holder seat view.ticket → IsInTurn served history homes view → IsInTurn served' history' homes' view) →
      (stage : Stage) → IsInQueue served drawn holder history homes seat view stage →
      IsInQueue served' drawn' holder' history' homes' seat view stage
  queue_stays served drawn served' drawn' holder holder' history history' homes homes' seat view tickets turn Gone known = tt
  queue_stays served drawn served' drawn' holder holder' history history' homes homes' seat view tickets turn Idle known = tt
  queue_stays served drawn served' drawn' holder holder' history history' homes homes' seat view tickets turn Waiting known = tickets view.ticket known
  queue_stays served drawn served' drawn' holder holder' history history' homes homes' seat view tickets turn Serving known =
      (tickets view.ticket known.0, turn known.0 known.1)

  -- a slot that is out stays out with its seat, when a seat that is not in its turn changes
  pub out_stays : (homes : Homes P) (views : List CallerView) (holder me : ℕ) (v w : CallerView) → get_elem? views me ≡ some v →
      (IsServingStage v.stage → ⊥) → IsOut homes views holder → IsOut homes (set views me w) holder
  out_stays homes views holder me v w at not_serving out = record {
    out = out.out;
    view = out.view;
    at = set_apart views me holder w (λ same. not_serving (subst IsServingStage
        (sym (ap (λ (view : CallerView). view.stage) (same_view views me v out.view at (subst (λ (seat : ℕ). get_elem? views seat ≡ some out.view) same out.at)) ∙ out.stage)) tt)) ∙ out.at;
    stage = out.stage;
  }
    where
      set_apart : (views : List CallerView) (me seat : ℕ) (w : CallerView) → seat ≢ me → get_elem? (set views me w) seat ≡ get_elem? views seat
      set_apart views me seat w other = Rattle.atomic_table.proofs.Lists.set_else views me seat w other

  pub seated_set : (start : BoardView P) (first : ℕ) (history : List Entry) (views : List CallerView) (me : ℕ) (w : CallerView) →
      (IsThere w.stage → IsSeated start first (length views) history me w) →
      ((seat : ℕ) (v : CallerView) → seat ≢ me → get_elem? views seat ≡ some v → IsThere v.stage → IsSeated start first (length views) history seat v) →
      (seat : ℕ) (v : CallerView) → get_elem? (set views me w) seat ≡ some v → IsThere v.stage → IsSeated start first (length (set views me w)) history seat v
  seated_set start first history views me w mine others seat v at there =
      subst (λ (n : ℕ). IsSeated start first n history seat v) (sym (length-set views me w))
      (each_set (λ seat v. IsThere v.stage → IsSeated start first (length views) history seat v) views me w mine others seat v at there)

  -- what is true of a seat in itself depends on these parts of its view
  pub seated_as : (start : BoardView P) (first seats seats' : ℕ) (history : List Entry) (seat : ℕ) (view : CallerView) → seats ≡ seats' →
      IsSeated start first seats history seat view → IsSeated start first seats' history seat view
  seated_as start first seats seats' history seat view same known =
      subst (λ (n : ℕ). IsSeated start first n history seat view) same known
