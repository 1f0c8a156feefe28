-- How a list holds its values, so that a type may lead back to itself through `Items`.
use mathlib.Core.Path.{◌≡◌, refl, sym}
use mathlib.Core.List.{List, []}
use mathlib.Core.Former.{Former, this, list, via, children}
use base.Stored.{code_map}
use denote.RattleType.{RattleType}
use denote.HoleLaws.{Alike}
use denote.HolePlaces.{Recodes, struct_places, laid}
use denote.Hole.Carrier.{listed, list-listed}
use denote.Hole.Fix.{over}
use denote.Param.Weighed.{Weighed, w_list}
use denote.Model.Placed.{view_places}
use Rattle.std.specs.formers.vec.Vec as vec
use Rattle.std.specs.declared.alloc.Global.{Global}
use Rattle.std.specs.contracts.alloc.Global as heap
use Rattle.std.specs.contracts.impls.GlobalAllocator.TheImpl.{ghosts}
use Rattle.compact_types.specs.declared.items.Items.TheInside.{Inside}
use Rattle.compact_types.specs.declared.items.Items.TheView.{view, invariant}
use Rattle.compact_types.specs.contracts.items.Items as contracts
use Rattle.compact_types.specs.contracts.items.Items.TheInside as inside

-- the values are those of the list
abbrev pub the_former : Former {0} → Former {0}
the_former held = list held

-- the depth is the greatest among the values
abbrev pub the_weighed : {held : Former {0}} → Weighed held → Weighed (the_former held)
the_weighed weighed = w_list weighed

pub the_empty : List ⊥
the_empty = []

abbrev pub the_items : (X : Type 0) → List X → List X
the_items X values = values

pub the_items_listed : (X : Type 0) (values : List X) →
    listed _ (children (the_former this) X values) ≡ the_items X values
the_items_listed X values = list-listed X values

-- the one field, a `Vec` with the same values
abbrev in_vec : Former {0}
in_vec = via (vec.the_former this Global) Inside (λ X fields. fields.items)
    (λ X items. record { items = items }) (λ X fields. refl) (λ X items. refl)

module _ (R S : RattleType) (h : R.Denot → S.Denot) where
  pub the_places : Alike R S h →
      Alike (contracts.the_row R) (contracts.the_row S) ((the_former this).map R.Denot S.Denot h)
  the_places alike = view_places in_vec (list this) view
      (λ X Y k fields. refl) (λ X fields. refl) R.Denot S.Denot h
      (contracts.the_row R).coded (contracts.the_row S).coded
      (invariant R.Denot) (invariant S.Denot)
      (λ fields p q. refl) (λ fields p q. refl) (λ fields e. tt) (λ fields e. tt)
      (over (inside.the_row R)) (over (inside.the_row S))
      (struct_places (inside.the_type R) (inside.the_type S) (vec.mapped h, tt) _
      (λ values. refl) refl
      (laid _ _ _ (vec.the_places heap.the_row ghosts R S h alike), tt))

  pub the_codes_placed : Recodes R S h →
      Recodes (contracts.the_row R) (contracts.the_row S) ((the_former this).map R.Denot S.Denot h)
  the_codes_placed recodes values =
      sym (code_map R.coded.code S.coded.code h (λ value. sym (recodes value)) values)
