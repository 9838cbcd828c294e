-- What a reader answers for a JSON value, and for bytes: the one tree that is spelled, or the first fault. The order of faults is this profile's own rule. Want of memory may come at any time.
use Rattle.std.specs.Prelude.{◌≡◌, ◌⊎◌, ℕ, List, Option, Some, None, option_map, Result, Ok, Err, ⊤}
use Rattle.std.specs.Str.{encode_utf8_all}
use Rattle.serde_json.specs.Data.{Data}
use Rattle.aas_json_table.specs.Table.{one}
use Rattle.aas_json_table.specs.Rows.{Pointer}
use Rattle.aas_json_table.specs.Misfit.{misfit}
use Rattle.aas_json_table.specs.TooDeep.{Levels, too_deep}
use Rattle.aas_json_table.specs.Pointer.{pointer_text}
use Rattle.aas_model.specs.declared.read_fault.ReadFault.{ReadFault}
use Rattle.aas_model.specs.declared.read_fault.ReadFault.TheVariants.{NotJson, NotMapping, TooDeep, NoMemory}
use Rattle.aas_json_spelling.specs.Spells.{Trees, Spells}
use Rattle.aas_json_spelling.specs.Reading.{reading}

-- the characters p write the pointer that is there
abbrev pub IsPointer : Option Pointer → List ℕ → Type 0
IsPointer found p = option_map pointer_text found ≡ Some (encode_utf8_all p)

-- a fault of j, as a value of a sort
abbrev pub IsFault : {A : Type 0} → Trees A → Levels → ReadFault → Data → Type 0
IsFault trees levels NotJson j = ⊥
IsFault trees levels (NotMapping p) j = IsPointer (misfit (one trees.sort) j) p
IsFault trees levels (TooDeep p) j = (misfit (one trees.sort) j ≡ None) × IsPointer (too_deep (one trees.sort) j levels) p
IsFault trees levels NoMemory j = ⊤

-- the whole tree that j spells where so many levels are left, or the fault of j
abbrev pub Reads : {A : Type 0} → Trees A → Levels → Result A ReadFault → Data → Type 0
Reads trees levels (Ok t) j = Spells trees levels j t
Reads trees levels (Err fault) j = IsFault trees levels fault j

-- each tree that j spells is the answer, unless memory was refused
abbrev pub ReadsEach : {A : Type 0} → Trees A → Levels → Result A ReadFault → Data → Type 0
ReadsEach {A = A} trees levels result j = (t : A) → Spells trees levels j t → (result ≡ Ok t) ⊎ (result ≡ Err NoMemory)

-- the same, where there may be no value: NotJson exactly there
abbrev pub ReadsIf : {A : Type 0} → Trees A → Levels → Result A ReadFault → Option Data → Type 0
ReadsIf trees levels result None = (result ≡ Err NotJson) ⊎ (result ≡ Err NoMemory)
ReadsIf trees levels result (Some j) = Reads trees levels result j

abbrev pub ReadsEachIf : {A : Type 0} → Trees A → Levels → Result A ReadFault → Option Data → Type 0
ReadsEachIf trees levels result None = ⊤
ReadsEachIf trees levels result (Some j) = ReadsEach trees levels result j

-- what is answered for bytes, by the value that they are read as
abbrev pub ReadsBytes : {A : Type 0} → Trees A → Levels → Result A ReadFault → List ℕ → Type 0
ReadsBytes trees levels result bytes = ReadsIf trees levels result (reading bytes)

abbrev pub ReadsEachOfBytes : {A : Type 0} → Trees A → Levels → Result A ReadFault → List ℕ → Type 0
ReadsEachOfBytes trees levels result bytes = ReadsEachIf trees levels result (reading bytes)
