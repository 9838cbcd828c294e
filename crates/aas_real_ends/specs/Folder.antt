-- The files of a folder that are open. This profile's own rule.
use Rattle.std.specs.Prelude.{◌≡◌, ℕ, List, codes, Option, Some, IsNone, IsSome, IsTrue, IfSome}
use Rattle.std.specs.Option.{ForSome}
use Rattle.aas_outside_disk.specs.declared.part.Part.{Part}
use Rattle.aas_outside_disk.specs.declared.part.Part.TheVariants.{Main, Spare, Selector}
use Rattle.aas_real_ends.specs.declared.folder.Folder.{Folder}
use Rattle.aas_real_ends.specs.declared.stored_file.StoredFile.{Ghosts}
use Rattle.aas_real_ends.specs.StoredFile.{HasName}

abbrev pub HasNoneOpen : {O F : Type 0} → Folder O F → Type 0
HasNoneOpen folder = IsNone folder.main × IsNone folder.spare × IsNone folder.selector

-- the file of a part, where it is open
abbrev pub file_of : {O F : Type 0} → Part → Folder O F → Option F
file_of Main folder = folder.main
file_of Spare folder = folder.spare
file_of Selector folder = folder.selector

-- the folder with another file for this part, or none
abbrev pub with_file : {O F : Type 0} → Part → Option F → Folder O F → Folder O F
with_file Main file folder = record folder { main = file }
with_file Spare file folder = record folder { spare = file }
with_file Selector file folder = record folder { selector = file }

-- the names of the files
abbrev pub name_of : Part → List ℕ
name_of Main = codes "aas.journal"
name_of Spare = codes "aas.spare"
name_of Selector = codes "aas.selector"

-- it was opened by the name of its part, and the main one is locked
abbrev pub IsOpened : {F : Type 0} → Ghosts F → Part → F → Type 0
IsOpened ghosts part file = HasName (ghosts.name file) (name_of part) × (part ≡ Main → IsTrue (ghosts.is_locked file))

abbrev pub AreOpened : {O F : Type 0} → Ghosts F → Folder O F → Type 0
AreOpened ghosts folder = ForSome folder.main (IsOpened ghosts Main) × ForSome folder.spare (IsOpened ghosts Spare)
    × ForSome folder.selector (IsOpened ghosts Selector)

-- a file that is open stays as it is
abbrev pub Stays : {F : Type 0} → Option F → Option F → Type 0
Stays old new = IfSome old (λ file. new ≡ Some file)

-- the files of the other parts stay as they are, but that the main one may be opened
abbrev pub KeepsOthers : {O F : Type 0} → Part → Folder O F → Folder O F → Type 0
KeepsOthers Main old new = (new.spare ≡ old.spare) × (new.selector ≡ old.selector)
KeepsOthers Spare old new = Stays old.main new.main × (new.selector ≡ old.selector)
KeepsOthers Selector old new = Stays old.main new.main × (new.spare ≡ old.spare)

-- no file is closed, and of the others the main one alone may be opened
abbrev pub KeepsOpen : {O F : Type 0} → Part → Folder O F → Folder O F → Type 0
KeepsOpen part old new = (IsSome (file_of part old) → IsSome (file_of part new)) × KeepsOthers part old new

-- the file of a part, as it was or just opened, becomes another by a call
pub record Becomes {O F : Type 0} (part : Part) (old new : Folder O F) (Call : F → F → Type 0) : Type 0 where
  pub before : F
  pub after : F
  pub found : Stays (file_of part old) (Some before)
  pub here : file_of part new ≡ Some after
  pub call : Call before after

-- the file of a part, as it was or just opened, answers a call and stays as it is
abbrev pub Answers : {O F : Type 0} → Part → Folder O F → Folder O F → (F → Type 0) → Type 0
Answers part old new Call = Becomes part old new (λ before after. (after ≡ before) × Call after)
