use mathlib.Core.Logic.{inr}
use Rattle.std.proofs.Common.{◌∙◌, sym, ap, subst}
use Rattle.std.specs.FinMap as fin
use Rattle.aas_store.specs.Documents.{Map}
use Rattle.aas_store.specs.Places.{IsAt, IsGapFor}
use Rattle.aas_store.proofs.Shelves.{absent_there, lent, lent_value, same_read}
use Rattle.aas_store.proofs.shelf.Shelf.get_mut.Goals as goal

pub invariant_of-self-lent : goal.invariant_of-self-lent
invariant_of-self-lent g c =
    let at = subst (λ (m : Map g.row.D.Denot). IsAt m c.args.id.now c.in-Ok.place) c.self.view_is c.in-Ok.ensures in
    λ _. (λ w. (lent c.self.inside.entries c.self.invariant c.args.self.now c.self.view_is c.args.id.now c.in-Ok.place w at).0, c.self.invariant)

pub returns-in-Ok : goal.returns-in-Ok
returns-in-Ok g c =
    let at = subst (λ (m : Map g.row.D.Denot). IsAt m c.args.id.now c.in-Ok.place) c.self.view_is c.in-Ok.ensures in (
      same_read c.document_mut.result _ (fin.insert c.args.self.now c.args.id.now) _ _
          (λ w. (lent c.self.inside.entries c.self.invariant c.args.self.now c.self.view_is c.args.id.now c.in-Ok.place w at).1) c.self.view_is,
      c.document_mut.ensures.value ∙ lent_value c.self.inside.entries c.self.invariant c.args.self.now c.self.view_is c.args.id.now c.in-Ok.place at,
    )

pub returns-in-Err : goal.returns-in-Err
returns-in-Err g c =
    let gap = subst (λ (m : Map g.row.D.Denot). IsGapFor m c.args.id.now c.in-Err.field-0) c.self.view_is c.in-Err.ensures in
    (ap inr c.self.view_is, sym (absent_there c.args.self.now c.args.id.now c.in-Err.field-0 gap))
