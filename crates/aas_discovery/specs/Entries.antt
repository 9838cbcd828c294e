-- Entries of an index, as they are listed.
use Rattle.std.specs.Prelude.{◌≡◌, ◌&&◌, ◌||◌, ℕ, List, Bool, true, bytes_eq}
use Rattle.std.specs.List.{list_any}
use Rattle.std.specs.Str.{encode_utf8_all}
use Rattle.aas_model.specs.declared.documents.Shell.{Shell}
use Rattle.aas_page.specs.Filters.{carries}
use Rattle.aas_store.specs.Documents.{Identifier, Map}
use Rattle.aas_discovery.specs.Index.{Index, bears, carried}
use Rattle.aas_discovery.specs.declared.entry.Entry.{Entry}

-- it is that of an identifier under a name and a value
abbrev pub is_entry : List ℕ → List ℕ → Identifier → Entry → Bool
is_entry name value id e = bytes_eq (encode_utf8_all e.name) name
    && (bytes_eq (encode_utf8_all e.value) value && bytes_eq (encode_utf8_all e.id) id)

abbrev pub lists : List Entry → List ℕ → List ℕ → Identifier → Bool
lists entries name value id = list_any (is_entry name value id) entries

-- a shell has the identifier, and it or the one of its identifier among these shells carries the name and the value
abbrev pub touches : Map Shell → List ℕ → List ℕ → Identifier → Shell → Bool
touches shells name value id s = bytes_eq (encode_utf8_all s.head.id) id
    && (carried shells name value id || carries s.asset name value)

-- an index keeps what it has, and gets nothing but some of the entries
pub record IsGrown (old : Index) (entries : List Entry) (new : Index) : Type 0 where
  pub keeps : (name value : List ℕ) (id : Identifier) → bears old name value id ≡ true → bears new name value id ≡ true
  pub gets : (name value : List ℕ) (id : Identifier) → bears new name value id ≡ true
      → (bears old name value id || lists entries name value id) ≡ true
