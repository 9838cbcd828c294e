-- What the parts of all objects are read as, whether they are whole or not, and what is answered on the way.
use Rattle.std.specs.Prelude.{◌≡◌, Option, Some, None, Result, Ok, Err, ⊤}
use Rattle.serde_json.specs.Data.{Data}
use Rattle.serde_json.specs.View.{view}
use Rattle.serde_json.specs.declared.value.Value.{Value}
use Rattle.aas_json_table.specs.Table.{Sort, one}
use Rattle.aas_json_table.specs.Misfit.{misfit}
use Rattle.aas_json_table.specs.TooDeep.{Levels, too_deep}
use Rattle.aas_model.specs.declared.read_fault.ReadFault.{ReadFault}
use Rattle.aas_model.specs.declared.read_fault.ReadFault.TheVariants.{NotJson, NotMapping, TooDeep, NoMemory}
use Rattle.aas_json_spelling.specs.Spells.{Trees}
use Rattle.aas_json_spelling.specs.Reads.{IsFault}

-- all trees of a sort, whole or not
abbrev pub said : {A : Type 0} → Sort → (A → Data) → Trees A
said sort spell = record { sort = sort; spell = spell; IsWhole = λ levels t. ⊤ }

-- j has no fault as a value of a sort, or this is its first one
abbrev pub Checks : Sort → Levels → Result ⊤ ReadFault → Data → Type 0
Checks sort levels (Ok _) j = (misfit (one sort) j ≡ None) × (too_deep (one sort) j levels ≡ None)
Checks sort levels (Err fault) j = IsFault (said sort (λ (d : Data). d)) levels fault j

-- the value that there is, or NotJson where there is none
abbrev pub GivesValue : Result Value ReadFault → Option Data → Type 0
GivesValue (Ok v) found = found ≡ Some (view v)
GivesValue (Err NotJson) found = found ≡ None
GivesValue (Err (NotMapping p)) found = ⊥
GivesValue (Err (TooDeep p)) found = ⊥
GivesValue (Err NoMemory) found = ⊤
