use Rattle.std.proofs.Common.{ℕ, List, sym, ap₂, ◌∙◌, subst}
use Rattle.std.specs.FinMap as fin
use Rattle.aas_store.specs.Places.{IsGapFor}
use Rattle.aas_store.proofs.Shelves.{entry_at, replaced, stands_for, length_is, sorted_after_insert, stands_after_insert}
use Rattle.aas_store.proofs.shelf.Shelf.put.Goals as goal
use Rattle.aas_store.proofs.shelf.Shelf.put.Goals.{in-Some, in_default}

pub invariant_of-self : goal.invariant_of-self
invariant_of-self g c = elim c.match-get_mut.branch [
  | in-Some w ↦ rw w.self-inside-is (stands_for _ _ (replaced c.self.inside.entries c.self.invariant c.args.self.now c.self.view_is c.as_str.result.now c.in-Ok.place w.in-Some.entry.now c.in_ok-document.document c.in-Ok.ensures (sym w.in-Some.ensures.value))).0
  | in_default w ↦ let e = entry_at c.self.inside.entries c.self.invariant c.args.self.now c.self.view_is c.in-Ok.place _ c.in-Ok.ensures.1 in let none = w.in_default.ensures.value in absurd (cc)
]

pub insert-requires : goal.insert-requires
insert-requires g c = rw (length_is c.self.inside.entries c.self.invariant c.args.self.now c.self.view_is) c.in-Err.ensures.within

pub invariant_of-self-in-Err : goal.invariant_of-self-in-Err
invariant_of-self-in-Err g c =
    sorted_after_insert c.self.inside.entries c.self.invariant c.args.self.now c.self.view_is c.insert.result c.insert.new.self _ c.in-Err.place (subst (λ (id : List ℕ). IsGapFor c.args.self.now id c.in-Err.place) c.as_str.ensures.bytes c.in-Err.ensures) c.insert.ensures.ok c.insert.ensures.err

pub returns-after-get_mut-clause-ok : goal.returns-after-get_mut-clause-ok
returns-after-get_mut-clause-ok g c = elim c.match-get_mut.branch [
  | in-Some w ↦ rw w.self-inside-is (stands_for _ _ (replaced c.self.inside.entries c.self.invariant c.args.self.now c.self.view_is c.as_str.result.now c.in-Ok.place w.in-Some.entry.now c.in_ok-document.document c.in-Ok.ensures (sym w.in-Some.ensures.value))).1
      ∙ ap₂ (fin.insert c.args.self.now) c.as_str.ensures.bytes c.in_ok-document.ensures
  | in_default w ↦ let e = entry_at c.self.inside.entries c.self.invariant c.args.self.now c.self.view_is c.in-Ok.place _ c.in-Ok.ensures.1 in let none = w.in_default.ensures.value in absurd (cc)
]

pub returns-in-Err-clause-ok : goal.returns-in-Err-clause-ok
returns-in-Err-clause-ok g c =
    stands_after_insert c.self.inside.entries c.self.invariant c.args.self.now c.self.view_is c.insert.result c.insert.new.self _ c.in-Err.place c.args.document (subst (λ (id : List ℕ). IsGapFor c.args.self.now id c.in-Err.place) c.as_str.ensures.bytes c.in-Err.ensures) c.in_ok-document.ensures c.insert.ensures.ok
