-- The references in some documents that lead nowhere, and where they stand: by collection, shells, submodels and then
-- concept descriptions; in it by identifier in byte order; in a submodel its own references and then those of its
-- elements in preorder; at one document or element in the order of Held. This profile's own rule, for the command
-- `check`.
use Rattle.std.specs.Prelude.{ℕ, if◌then◌else◌, List, [], ◌∷◌, ◌++◌, map, filter_map, flat_map, Option, Some, None}
use Rattle.std.specs.Prelude.{Result, Ok, Err}
use Rattle.std.specs.FinMap as fin
use Rattle.std.specs.Option.{option_map_or}
use Rattle.std.specs.Str.{chars}
use Rattle.aas_model.specs.declared.documents.Submodel.{Submodel}
use Rattle.aas_model.specs.declared.path.PathStep.{PathStep}
use Rattle.aas_model.specs.declared.reference.Reference.{Reference, out-Reference}
use Rattle.aas_model_names.specs.declared.collection.Collection.{Collection}
use Rattle.aas_model_names.specs.declared.collection.Collection.TheVariants.{Shells, Submodels, Concepts}
use Rattle.aas_constraint_rules.specs.Faults.{sites_of}
use Rattle.aas_constraint_rules.specs.Sites.{Site}
use Rattle.aas_reference.specs.Rules.{is_external}
use Rattle.aas_store.specs.Documents.{Documents, Identifier, ids}
use Rattle.aas_resolve.specs.Held.{held_by_concept, held_by_element, held_by_shell, held_by_submodel}
use Rattle.aas_resolve.specs.Resolved.{resolved}
use Rattle.aas_resolve.specs.declared.report.Dangling.{Dangling}
use Rattle.aas_resolve.specs.declared.target.Target.{Target}
use Rattle.aas_resolve.specs.declared.target.Unresolved.{Unresolved}

abbrev pub lost_in : Result Target Unresolved → Option ℕ
lost_in (Ok target) = None
lost_in (Err unresolved) = Some unresolved.key

-- the first key that leads nowhere, or none
abbrev pub first_lost_key : Documents → Reference → Option ℕ
first_lost_key m r = lost_in (resolved m r)

-- of a reference that says that it leads to something of the model
abbrev pub dangling_key : Documents → Reference → Option ℕ
dangling_key m r = if is_external (out-Reference r).ref_type then None else first_lost_key m r

abbrev pub dangling_keys : Documents → List Reference → List ℕ
dangling_keys m rs = filter_map (dangling_key m) rs

abbrev pub at_place : Collection → Identifier → List PathStep → ℕ → Dangling
at_place c id p key = record { collection = c; id = chars id; path = record { steps = p }; key = key }

-- those of the references that a document, or the element to which a path leads in it, holds
abbrev pub dangling_at : Documents → Collection → Identifier → List PathStep → List Reference → List Dangling
dangling_at m c id p rs = map (at_place c id p) (dangling_keys m rs)

abbrev pub dangling_at_site : Documents → Identifier → List PathStep → Site → List Dangling
dangling_at_site m id p x = dangling_at m Submodels id (p ++ x.path) (held_by_element x.own)

abbrev pub dangling_in_submodel : Documents → Identifier → Submodel → List Dangling
dangling_in_submodel m id d =
    dangling_at m Submodels id [] (held_by_submodel d) ++ flat_map (dangling_at_site m id []) (sites_of d)

abbrev pub dangling_in : Documents → Collection → Identifier → List Dangling
dangling_in m Shells id = option_map_or (λ s. dangling_at m Shells id [] (held_by_shell s)) (fin.get m.shells id) []
dangling_in m Submodels id = option_map_or (dangling_in_submodel m id) (fin.get m.submodels id) []
dangling_in m Concepts id =
    option_map_or (λ c. dangling_at m Concepts id [] (held_by_concept c)) (fin.get m.concepts id) []

abbrev pub dangling_among : Documents → Collection → List Dangling
dangling_among m c = flat_map (dangling_in m c) (ids c m)

abbrev pub dangling : Documents → List Dangling
dangling m = flat_map (dangling_among m) (Shells ∷ Submodels ∷ Concepts ∷ [])
