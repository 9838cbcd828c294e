use Rattle.std.proofs.Common.{rules, ap, sym, subst, ◌∙◌, ◌-◌, List, ℕ, length, slice_get}
use Rattle.std.specs.List.Sorted.{IsBinarySearchResult, IsSearchInRange}
use Rattle.std.specs.Str.{encode_utf8_all}
use Rattle.std.proofs.lemmas.Fn.{always_returns_same}
use Rattle.aas_lemmas.proofs.Truth.{Less-from_is_lt}
use Rattle.aas_store.proofs.Ordered.{order}
use Rattle.aas_store.specs.Places.{IsGapFor}
use Rattle.aas_discovery.proofs.Marks.{behind_last, searched}
use Rattle.aas_discovery.proofs.ids.Ids.place.Goals as goal

pub returns-in-Some : goal.returns-in-Some
returns-in-Some c =
    let last = c.in-Some.ensures.value
    ∙ ap (λ (ids : List (List ℕ)). slice_get ids (length ids - 1)) c.as_slice-ids.ensures in
    subst (λ (ids : List (List ℕ)). IsGapFor c.args.self.now c.args.id.now (length ids)) (sym c.as_slice-ids.ensures)
    (behind_last c.self.inside.ids c.self.invariant c.args.self.now c.self.view_is c.args.id.now
    c.in-Some.last.now (sym last)
    (sym c.compare.ensures ∙ Less-from_is_lt c.compare.result (sym c.is_lt.ensures ∙ c.if-is_lt.true)))

pub returns-in_default : goal.returns-in_default
returns-in_default c =
    let result = c.binary_search_by.result in
    let position = c.binary_search_by.ensures.position (λ (own : List ℕ). order (encode_utf8_all own) c.args.id.now)
    (always_returns_same _ _ _ (λ a r k called. search rules)) in
    searched c.self.inside.ids c.self.invariant c.args.self.now c.self.view_is c.args.id.now result
    (subst (λ (ids : List (List ℕ)). IsSearchInRange result (length ids)) c.as_slice-ids.ensures
    c.binary_search_by.ensures.bound)
    (subst (λ (ids : List (List ℕ)). IsBinarySearchResult (λ own. order (encode_utf8_all own) c.args.id.now) ids result)
    c.as_slice-ids.ensures position)
