-- What a store of tables holds.
use Rattle.std.specs.Prelude.{map}
use Rattle.std.specs.FinMap as fin
use Rattle.aas_model.specs.declared.documents.Submodel.{Submodel}
use Rattle.aas_store.specs.Documents.{Documents, Identifier, Map}
use Rattle.aas_store.specs.declared.document_store.DocumentStore.{DocumentStore}

-- under each identifier what f says of what stands there
unfoldable pub kept_all : {D E : Type 0} → (D → E) → Map D → Map E
kept_all f m = fin.from_sorted (map (λ e. (e.0, f e.1)) (fin.entries m))

-- the documents of a store; kept says which submodel a table keeps
abbrev pub documents : {T : Type 0} → (T → Submodel) → DocumentStore T → Documents
documents kept store = record { shells = store.shells; submodels = kept_all kept store.submodels; concepts = store.concepts }

-- the store with a table put under an identifier
abbrev pub with_table : {T : Type 0} → DocumentStore T → Identifier → T → DocumentStore T
with_table store id table = record store { submodels = fin.insert store.submodels id table }
