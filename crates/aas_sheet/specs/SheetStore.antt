-- What a store of tables of rows holds. Such a table is seen as the submodel that it keeps.
use Rattle.aas_model.specs.declared.documents.Submodel.{Submodel}
use Rattle.aas_store.specs.DocumentStore as store
use Rattle.aas_store.specs.Documents.{Documents}
use Rattle.aas_store.specs.declared.document_store.DocumentStore.{DocumentStore}

abbrev pub SheetStore : Type 0
SheetStore = DocumentStore Submodel

abbrev pub documents : SheetStore → Documents
documents held = store.documents (λ s. s) held

-- the store that holds d
abbrev pub holding : Documents → SheetStore
holding d = record { shells = d.shells; submodels = d.submodels; concepts = d.concepts }
