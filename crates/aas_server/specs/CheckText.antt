-- What `check` prints: a line for each reference that leads nowhere, and how many there are. This profile's own rule.
use Rattle.std.specs.Prelude.{ℕ, List, ◌++◌, codes, decimal, flat_map, length}
use Rattle.std.specs.Str.{encode_utf8_all}
use Rattle.aas_model_names.specs.CollectionNames.{name_of}
use Rattle.aas_path.specs.PathText.{fault_path_text}
use Rattle.aas_resolve.specs.Dangling.{dangling}
use Rattle.aas_resolve.specs.declared.report.Dangling.{Dangling}
use Rattle.aas_store.specs.Documents.{Documents}
use Rattle.aas_server.specs.Answer.{line}

-- `$` is the document itself
abbrev pub dangling_line : Dangling → List ℕ
dangling_line x = line (codes "dangling " ++ name_of x.collection ++ codes " " ++ encode_utf8_all x.id
    ++ codes " at " ++ fault_path_text x.path.steps ++ codes " key " ++ decimal x.key)

abbrev pub total_line : ℕ → List ℕ
total_line n = line (codes "total " ++ decimal n)

abbrev pub dangling_text : List Dangling → List ℕ
dangling_text xs = flat_map dangling_line xs ++ total_line (length xs)

abbrev pub check_text : Documents → List ℕ
check_text d = dangling_text (dangling d)
