-- What is lent of a shelf for writing.
use denote.RattleType.{RattleType}
use Rattle.std.specs.Prelude.{ℕ, List, slice_get, slice_set}
use Rattle.std.specs.Option.{option_map_or}
use Rattle.aas_model_text.specs.contracts.many.Many as many
use Rattle.aas_store.specs.contracts.shelf.Entry as entry
use Rattle.aas_store.specs.declared.shelf.Entry.{Entry}

abbrev pub entry_type : RattleType → RattleType
entry_type d = entry.the_row d

abbrev pub entries_type : RattleType → RattleType
entries_type d = many.the_row (entry.the_row d)

-- e with w for its document
abbrev pub with_document : {D : Type 0} → Entry D → D → Entry D
with_document e w = record e { document = record e.document { value = w } }

-- the entry in a place with w for its document
abbrev pub with_document_at : {D : Type 0} → List (Entry D) → ℕ → D → List (Entry D)
with_document_at es place w = option_map_or (λ e. slice_set es place (with_document e w)) (slice_get es place) es
