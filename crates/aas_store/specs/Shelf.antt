-- What a shelf's list of entries stands for.
use Rattle.std.specs.Prelude.{ℕ, List, map}
use Rattle.std.specs.Str.{encode_utf8_all}
use Rattle.aas_store.specs.declared.shelf.Entry.{Entry}

-- identifiers as their UTF-8 bytes, each with its document
abbrev pub pairs : {D : Type 0} → List (Entry D) → List (List ℕ × D)
pairs entries = map (λ e. (encode_utf8_all e.id, e.document.value)) entries
