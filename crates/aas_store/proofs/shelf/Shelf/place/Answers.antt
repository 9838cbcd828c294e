use Rattle.std.proofs.Common.{rules, ap, sym, subst, ◌∙◌, ◌-◌, List, length, slice_get}
use Rattle.std.specs.List.Sorted.{IsBinarySearchResult, IsSearchInRange}
use Rattle.std.specs.Str.{encode_utf8_all}
use Rattle.std.proofs.lemmas.Fn.{always_returns_same}
use Rattle.aas_lemmas.proofs.Truth.{Less-from_is_lt}
use Rattle.aas_store.specs.declared.shelf.Entry.{Entry}
use Rattle.aas_store.specs.Places.{IsGapFor}
use Rattle.aas_store.proofs.Ordered.{order}
use Rattle.aas_store.proofs.Shelves.{behind_last, searched}
use Rattle.aas_store.proofs.shelf.Shelf.place.Goals as goal

pub returns-in-Some : goal.returns-in-Some
returns-in-Some g c =
    let last = c.in-Some.ensures.value
    ∙ ap (λ (es : List (Entry g.row.D.Denot)). slice_get es (length es - 1)) c.as_slice-entries.ensures in
    subst (λ (es : List (Entry g.row.D.Denot)). IsGapFor c.args.self.now c.args.id.now (length es))
    (sym c.as_slice-entries.ensures)
    (behind_last c.self.inside.entries c.self.invariant c.args.self.now c.self.view_is c.args.id.now
    c.in-Some.last.now (sym last)
    (sym c.compare.ensures ∙ Less-from_is_lt c.compare.result (sym c.is_lt.ensures ∙ c.if-is_lt.true)))

pub returns-in_default : goal.returns-in_default
returns-in_default g c =
    let result = c.binary_search_by.result in
    let position = c.binary_search_by.ensures.position (λ (e : Entry g.row.D.Denot). order (encode_utf8_all e.id) c.args.id.now) (always_returns_same _ _ _ (λ a r k called. search rules)) in
    searched c.self.inside.entries c.self.invariant c.args.self.now c.self.view_is c.args.id.now result
    (subst (λ (es : List (Entry g.row.D.Denot)). IsSearchInRange result (length es)) c.as_slice-entries.ensures c.binary_search_by.ensures.bound)
    (subst (λ (es : List (Entry g.row.D.Denot)). IsBinarySearchResult (λ e. order (encode_utf8_all e.id) c.args.id.now) es result) c.as_slice-entries.ensures position)
