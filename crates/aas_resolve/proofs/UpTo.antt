-- A loop over the documents of a collection, by their identifiers in order.
use Rattle.std.proofs.Common.{◌≡◌, List, ◌++◌, flat_map, Option, Some, None, sym, ap, ◌∙◌, append_assoc}
use Rattle.std.proofs.lemmas.List.{append-nil}
use Rattle.aas_model_names.specs.declared.collection.Collection.{Collection}
use Rattle.aas_store.specs.Documents.{Documents, Identifier, first_above, ids}
use Rattle.aas_store.proofs.Above.{above, all_above_none, ids_rise, next, none_above}
use Rattle.aas_resolve.specs.Dangling.{dangling_among, dangling_in}
use Rattle.aas_resolve.specs.declared.report.Dangling.{Dangling}

-- the dangling references of those up to an identifier were added to what was found at first
abbrev pub UpTo : Documents → Collection → List Dangling → List Dangling → Option Identifier → Type 0
UpTo m c start now after = start ++ dangling_among m c ≡ now ++ flat_map (dangling_in m c) (above after (ids c m))

pub at_first : (m : Documents) (c : Collection) (start : List Dangling) → UpTo m c start start None
at_first m c start = ap (λ all. start ++ flat_map (dangling_in m c) all) (sym (all_above_none (ids c m)))

pub one_more : (m : Documents) (c : Collection)
    (start now new : List Dangling) (after : Option Identifier) (id : Identifier)
    → first_above after (ids c m) ≡ Some id → new ≡ now ++ dangling_in m c id
    → UpTo m c start now after → UpTo m c start new (Some id)
one_more m c start now new after id is added so_far =
    let rest = flat_map (dangling_in m c) (above (Some id) (ids c m)) in
    so_far ∙ ap (λ all. now ++ flat_map (dangling_in m c) all) (next after id (ids c m) (ids_rise c m) is)
    ∙ sym (append_assoc now (dangling_in m c id) rest) ∙ ap (λ l. l ++ rest) (sym added)

pub all_done : (m : Documents) (c : Collection) (start now : List Dangling) (after : Option Identifier)
    → first_above after (ids c m) ≡ None → UpTo m c start now after → now ≡ start ++ dangling_among m c
all_done m c start now after is so_far =
    sym (so_far ∙ ap (λ all. now ++ flat_map (dangling_in m c) all) (none_above after (ids c m) is) ∙ append-nil now)
