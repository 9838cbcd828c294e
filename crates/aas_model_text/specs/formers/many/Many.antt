-- How a `Many` holds its items, so that a type may hold itself through it.
-- Rattle looks these names up: each `the_..` is part of its own account of the type.
use mathlib.Core.Path.{◌≡◌, refl, sym}
use mathlib.Core.List.{List, []}
use mathlib.Core.Former.{Former, this, list, via, children}
use base.Stored.{code_map}
use denote.RattleType.{RattleType}
use denote.HoleLaws.{Alike}
use denote.HolePlaces.{Recodes, struct_places, laid}
use denote.Hole.Carrier.{listed, list-listed}
use denote.Hole.Fix.{over}
use denote.Param.Weighed.{Weighed, w_list}
use denote.Model.Placed.{view_places}
use Rattle.std.specs.formers.vec.Vec as vec
use Rattle.std.specs.declared.alloc.Global.{Global}
use Rattle.std.specs.contracts.alloc.Global as global
use Rattle.std.specs.contracts.impls.GlobalAllocator.TheImpl.{ghosts}
use Rattle.aas_model_text.specs.declared.many.Many.TheInside.{Inside}
use Rattle.aas_model_text.specs.declared.many.Many.TheView.{view, invariant}
use Rattle.aas_model_text.specs.contracts.many.Many as contract
use Rattle.aas_model_text.specs.contracts.many.Many.TheInside as fields

-- what the list contains: a list of items
abbrev pub the_former : Former {0} → Former {0}
the_former item = list item

-- its measure is the greatest of its items' measures
abbrev pub the_weighed : {item : Former {0}} → Weighed item → Weighed (the_former item)
the_weighed w = w_list w

-- a list can be had before there is an item
pub the_empty : List ⊥
the_empty = []

-- the items in their order
abbrev pub the_items : (X : Type 0) → List X → List X
the_items X xs = xs

pub the_items_listed : (X : Type 0) (xs : List X) → listed _ (children (the_former this) X xs) ≡ the_items X xs
the_items_listed X xs = list-listed X xs

-- the struct's one field, a `Vec`, as what it contains
abbrev in_vec : Former {0}
in_vec = via (vec.the_former this Global) Inside (λ X many. many.items) (λ X v. record { items = v }) (λ X many. refl) (λ X v. refl)

-- for two item types that lie in memory alike, the lists of both lie in memory alike, and their code is one
module _ (R S : RattleType) (h : R.Denot → S.Denot) where
  pub the_places : Alike R S h → Alike (contract.the_row R) (contract.the_row S) ((the_former this).map R.Denot S.Denot h)
  the_places alike =
      let the_vec = vec.the_places global.the_row ghosts R S h alike in
      view_places in_vec (list this) view (λ X Y k many. refl) (λ X many. refl) R.Denot S.Denot h (contract.the_row R).coded (contract.the_row S).coded
      (invariant R.Denot) (invariant S.Denot) (λ many p q. refl) (λ many p q. refl) (λ many p. tt) (λ many p. tt)
      (over (fields.the_row R)) (over (fields.the_row S))
      (struct_places (fields.the_type R) (fields.the_type S) (vec.mapped h, tt) _ (λ many. refl) refl (laid _ _ _ the_vec, tt))

  pub the_codes_placed : Recodes R S h → Recodes (contract.the_row R) (contract.the_row S) ((the_former this).map R.Denot S.Denot h)
  the_codes_placed recodes xs = sym (code_map R.coded.code S.coded.code h (λ x. sym (recodes x)) xs)
