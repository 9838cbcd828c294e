use Rattle.std.proofs.Common.{rules, refl, sym, ap, ◌∙◌, Some}
use Rattle.std.proofs.lemmas.Option.{slice_get_read}
use Rattle.aas_store.proofs.Shelves.{is_within, document_at, absent_there}
use Rattle.aas_store.proofs.shelf.Shelf.get.Goals as goal

pub bounds-as_slice-place : goal.bounds-as_slice-place
bounds-as_slice-place g c = rw c.as_slice.ensures (is_within c.self.inside.entries c.self.invariant c.args.self.now c.self.view_is c.args.id.now c.in-Ok.place c.in-Ok.ensures)

pub offset_bounds-as_slice-place : goal.offset_bounds-as_slice-place
offset_bounds-as_slice-place g c =
    let within = is_within c.self.inside.entries c.self.invariant c.args.self.now c.self.view_is c.args.id.now c.in-Ok.place c.in-Ok.ensures in
    search rules

pub returns-in-Ok : goal.returns-in-Ok
returns-in-Ok g c =
    let within = is_within c.self.inside.entries c.self.invariant c.args.self.now c.self.view_is c.args.id.now c.in-Ok.place c.in-Ok.ensures in
    let at = slice_get_read c.self.inside.entries _ c.in-Ok.place c.index-as_slice-place.result refl within (rw c.as_slice.ensures at c.index-as_slice-place.is) in
    ap (λ d. Some d) c.deref.ensures ∙ ap (λ e. Some e.document.value) (sym c.index-as_slice-place.is)
    ∙ sym (document_at c.self.inside.entries c.self.invariant c.args.self.now c.self.view_is c.args.id.now c.in-Ok.place c.index-as_slice-place.result c.in-Ok.ensures at)

pub returns-in-Err : goal.returns-in-Err
returns-in-Err g c = sym (absent_there c.args.self.now c.args.id.now c.in-Err.field-0 c.in-Err.ensures)
