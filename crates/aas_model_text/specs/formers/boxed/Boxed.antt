-- How a `Boxed` holds its value, so that a type may hold itself through it.
-- Rattle looks these names up: each `the_..` is part of its own account of the type.
use mathlib.Core.Path.{refl}
use mathlib.Core.Former.{Former, this, const, pair, via}
use base.Stored.{gnil}
use base.Fml.{ftrue}
use denote.RattleType.{RattleType}
use denote.Memory.{part_of}
use denote.RawPtr.{Ptr}
use denote.Sharing.{nothing}
use denote.HoleLaws.{Alike}
use denote.HolePlaces.{Recodes, struct_places, laid, one_value}
use denote.Hole.Fix.{over}
use denote.Param.Weighed.{Weighed}
use denote.Model.Placed.{view_places}
use Rattle.std.specs.declared.boxed.Box.{Box}
use Rattle.std.specs.contracts.boxed.Box as box
use Rattle.std.specs.declared.alloc.Global.{Global}
use Rattle.std.specs.contracts.alloc.Global as global
use Rattle.std.specs.contracts.impls.GlobalAllocator.TheImpl.{ghosts}
use Rattle.aas_model_text.specs.declared.boxed.Boxed.TheInside.{Inside}
use Rattle.aas_model_text.specs.declared.boxed.Boxed.TheView.{view, invariant}
use Rattle.aas_model_text.specs.contracts.boxed.Boxed as contract
use Rattle.aas_model_text.specs.contracts.boxed.Boxed.TheInside as fields

-- what the box contains: its value alone
abbrev pub the_former : Former {0} → Former {0}
the_former item = item

-- its measure is its value's
abbrev pub the_weighed : {item : Former {0}} → Weighed item → Weighed (the_former item)
the_weighed w = w

-- the struct's one field, a `Box`: where it lies, its allocator, and its value
abbrev in_box : Former {0}
in_box = via (pair (const (Ptr × Global)) this) Inside (λ X boxed. ((boxed.inner.ptr, boxed.inner.alloc), boxed.inner.value))
    (λ X v. record { inner = record { ptr = v.0.0; alloc = v.0.1; value = v.1 } }) (λ X boxed. refl) (λ X v. refl)

-- the same box around another value
abbrev around : {X Y : Type 0} → Box X Global → Y → Box Y Global
around b y = record { ptr = b.ptr; alloc = b.alloc; value = y }

abbrev box_row : RattleType → RattleType
box_row R = box.the_row R global.the_row ghosts

-- for two types of values that lie in memory alike, the boxes of both lie in memory alike, and their code is one
module _ (R S : RattleType) (h : R.Denot → S.Denot) where
  box_places : Alike R S h → Alike (box_row R) (box_row S) (λ b. around b (h b.value))
  unfolding part_of
  box_places alike = record {
    mir_same = λ i. (box_row (one_value R (alike.mir_same i) (λ _. ftrue) (λ _ _. nothing) gnil)).mir;
    own_same = λ b i. (box_row (one_value R (alike.mir_same i) (alike.own_same b.value i) (alike.shr_same b.value i) gnil)).own_val (around b tt);
    shr_same = λ b i. (box_row (one_value R (alike.mir_same i) (alike.own_same b.value i) (alike.shr_same b.value i) gnil)).shr_at (around b tt);
  }

  pub the_places : Alike R S h → Alike (contract.the_row R) (contract.the_row S) ((the_former this).map R.Denot S.Denot h)
  the_places alike =
      view_places in_box this view (λ X Y k boxed. refl) (λ X boxed. refl) R.Denot S.Denot h (contract.the_row R).coded (contract.the_row S).coded
      (invariant R.Denot) (invariant S.Denot) (λ boxed p q. refl) (λ boxed p q. refl) (λ boxed p. tt) (λ boxed p. tt)
      (over (fields.the_row R)) (over (fields.the_row S))
      (struct_places (fields.the_type R) (fields.the_type S) ((λ b. around b (h b.value)), tt) _ (λ boxed. refl) refl (laid _ _ _ (box_places alike), tt))

  pub the_codes_placed : Recodes R S h → Recodes (contract.the_row R) (contract.the_row S) ((the_former this).map R.Denot S.Denot h)
  the_codes_placed recodes x = recodes x
