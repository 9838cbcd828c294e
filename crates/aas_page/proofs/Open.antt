-- Where nothing is asked for, each document passes that is there.
use Rattle.std.proofs.Common.{◌≡◌, ◌&&◌, Bool, true, false, Option, Some, None, is_some, ap, ap₂, ◌∙◌}
use Rattle.std.specs.List.{list_all}
use Rattle.std.specs.Option.{option_map_or}
use Rattle.std.specs.FinMap as fin
use Rattle.std.specs.FinMap.{entries_sorted, get-entries}
use Rattle.aas_model.specs.declared.documents.Concept.{Concept}
use Rattle.aas_model.specs.declared.documents.Shell.{Shell}
use Rattle.aas_model.specs.declared.documents.Submodel.{Submodel}
use Rattle.aas_model_names.specs.declared.collection.Collection.{Collection}
use Rattle.aas_model_names.specs.declared.collection.Collection.TheVariants.{Shells, Submodels, Concepts}
use Rattle.aas_store.specs.Documents.{Documents, Identifier, Map, first_above, has, ids, is_above}
use Rattle.aas_store.proofs.Ordered.{found_at}
use Rattle.aas_page.specs.Filters.{AsksNothing, has_asset_id, has_reference, has_reference_among, has_text, passes_concept, passes_shell, passes_submodel}
use Rattle.aas_page.specs.Pages.{passes_at}
use Rattle.aas_page.specs.declared.filter.Filter.{Filter}
use Rattle.aas_page.proofs.Following.{found_entry}

-- ---- each document passes

open_shell : (f : Filter) (s : Shell) → AsksNothing f → passes_shell f s ≡ true
open_shell f s o = ap₂ (λ wanted ids. has_text wanted s.head.id_short && list_all (has_asset_id s.asset) ids) o.id_short o.asset_ids

open_submodel : (f : Filter) (s : Submodel) → AsksNothing f → passes_submodel f s ≡ true
open_submodel f s o = ap₂ (λ wanted meant. has_text wanted s.head.id_short && has_reference meant s.semantics.semantic_id) o.id_short o.semantic_id

open_concept : (f : Filter) (c : Concept) → AsksNothing f → passes_concept f c ≡ true
open_concept f c o = ap₂ (λ wanted case. has_text wanted c.head.id_short && has_reference_among case c.is_case_of) o.id_short o.is_case_of

where_there : {X : Type 0} (p : X → Bool) (o : Option X) → ((x : X) → p x ≡ true) → is_some o ≡ true → option_map_or p o false ≡ true
where_there p None each there = absurd (cc)
where_there p (Some x) each there = each x

pub open_passes : (c : Collection) (f : Filter) (id : Identifier) (d : Documents) → AsksNothing f → has c id d ≡ true → passes_at c f id d ≡ true
open_passes Shells f id d o there = where_there (passes_shell f) (fin.get d.shells id) (λ s. open_shell f s o) there
open_passes Submodels f id d o there = where_there (passes_submodel f) (fin.get d.submodels id) (λ s. open_submodel f s o) there
open_passes Concepts f id d o there = where_there (passes_concept f) (fin.get d.concepts id) (λ c. open_concept f c o) there

-- ---- what is listed is there

listed_there : {X : Type 0} (m : Map X) (after : Option Identifier) (id : Identifier) → first_above after (fin.keys m) ≡ Some id → is_some (fin.get m id) ≡ true
listed_there m after id is =
    let entry = found_entry (is_above after) (fin.entries m) id is in
    ap is_some (get-entries m id ∙ found_at (fin.entries m) entry.0 id entry.1 (entries_sorted m) entry.2)

pub next_is_there : (c : Collection) (after : Option Identifier) (d : Documents) (id : Identifier) → first_above after (ids c d) ≡ Some id → has c id d ≡ true
next_is_there Shells after d id is = listed_there d.shells after id is
next_is_there Submodels after d id is = listed_there d.submodels after id is
next_is_there Concepts after d id is = listed_there d.concepts after id is
