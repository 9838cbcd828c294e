use Rattle.std.proofs.Common.{◌≡◌, [], sym, ap, ◌∙◌}
use Rattle.std.specs.FinMap as map
use Rattle.std.specs.Option.{option_map_or}
use Rattle.aas_json_mapping.specs.Trees.{concepts, shells}
use Rattle.aas_json_spelling.specs.Spells.{canonical_text}
use Rattle.aas_model_names.specs.declared.collection.Collection.{Collection}
use Rattle.aas_model_names.specs.declared.collection.Collection.TheVariants.{Concepts, Shells, Submodels}
use Rattle.aas_model_names.specs.declared.modifiers.Extent.{Extent}
use Rattle.aas_model_names.specs.declared.modifiers.Level.{Level}
use Rattle.aas_out.specs.Adds.{Adds}
use Rattle.aas_out.specs.Told.{Told}
use Rattle.aas_out.specs.declared.pouring.Pouring.{Pouring}
use Rattle.aas_out.proofs.Adding.{adds_nothing, adds_same}
use Rattle.aas_store.specs.Documents.{Documents, Identifier}
use Rattle.aas_answer.specs.Answers.{submodel_shown}
use Rattle.aas_answer.specs.Shown.{document_shown}
use Rattle.aas_answer.proofs.Stored.{has_lines, low_lines, storable}
use Rattle.aas_answer.proofs.pouring.pour_document.Goals as goal

-- of a document that isn't there nothing is shown
absent : {K : Type 0} (c k : Collection) (level : Level) (extent : Extent) (id : Identifier) (d : Documents)
    (s : Pouring) (t : Told K) → c ≡ k → document_shown k level extent id d ≡ []
    → Adds s s t t (document_shown c level extent id d)
absent c k level extent id d s t is none =
    adds_same s s t t [] (document_shown c level extent id d) (adds_nothing s t)
    (sym none ∙ ap (λ k. document_shown k level extent id d) (sym is))

pub returns-in-None : goal.returns-in-None
returns-in-None g c =
    absent c.args.collection Shells c.args.level c.args.extent c.args.id.now (g.S.Store.documents c.args.store.now)
    c.args.so_far (g.O.TextEnd.told c.args.out.now) c.in-Shells.is
    (ap (λ o. option_map_or (canonical_text shells) o []) (sym c.in-None.ensures))

pub pour_submodel-requires : goal.pour_submodel-requires
pour_submodel-requires g c =
    let d = g.S.Store.documents c.args.store.now in
    let found = map.get d.submodels c.args.id.now in
    low_lines found c.new-rows.result (storable d c.args.id.now c.valid_submodels_are_storable.ensures c.requires)
    (has_lines found (g.S.Table.Table.kept c.in-Some-table.table.now) c.new-rows.result c.in-Some-table.ensures
    c.new-rows.ensures)

pub returns-in-None-table : goal.returns-in-None-table
returns-in-None-table g c =
    absent c.args.collection Submodels c.args.level c.args.extent c.args.id.now (g.S.Store.documents c.args.store.now)
    c.args.so_far (g.O.TextEnd.told c.args.out.now) c.in-Submodels.is
    (ap (λ o. option_map_or (submodel_shown c.args.level c.args.extent) o []) (sym c.in-None-table.ensures))

pub returns-in-None-concept : goal.returns-in-None-concept
returns-in-None-concept g c =
    absent c.args.collection Concepts c.args.level c.args.extent c.args.id.now (g.S.Store.documents c.args.store.now)
    c.args.so_far (g.O.TextEnd.told c.args.out.now) c.in-Concepts.is
    (ap (λ o. option_map_or (canonical_text concepts) o []) (sym c.in-None-concept.ensures))
