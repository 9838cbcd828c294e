-- The code and the text of each refusal. This profile's own rule.
use Rattle.std.specs.Prelude.{ℕ, nat_lt, ◌==◌, List, ◌++◌, codes, decimal, if◌then◌else◌}
use Rattle.std.specs.Str.{encode_utf8_all}
use Rattle.aas_model.specs.declared.path.Fault.{Fault}
use Rattle.aas_model.specs.declared.read_fault.ReadFault.{ReadFault}
use Rattle.aas_model.specs.declared.read_fault.ReadFault.TheVariants as read
use Rattle.aas_path.specs.PathText.{fault_path_text}
use Rattle.aas_path.specs.declared.path_fault.PathFault.{PathFault}
use Rattle.aas_path.specs.declared.path_fault.PathFault.TheVariants as path
use Rattle.aas_command.specs.declared.refusal.Absent.{Absent}
use Rattle.aas_command.specs.declared.refusal.Absent.TheVariants as absent
use Rattle.aas_command.specs.declared.refusal.Refusal.{Refusal}
use Rattle.aas_command.specs.declared.refusal.Refusal.TheVariants.{BadRequest, TooLarge, NotImplemented, NoRoute}
use Rattle.aas_command.specs.declared.refusal.Refusal.TheVariants.{NotAllowed, BadIdentifier, BadPath, BadQuery}
use Rattle.aas_command.specs.declared.refusal.Refusal.TheVariants.{NotJson, NotMapping, TooDeep, IdMismatch, NotFound}
use Rattle.aas_command.specs.declared.refusal.Refusal.TheVariants.{Conflict, NotAContainer, NoValueForm, Shape, Lexical}
use Rattle.aas_command.specs.declared.refusal.Refusal.TheVariants.{Constraint, TooMany, StorageFull}
use Rattle.aas_command.specs.declared.refusal.Refusal.TheVariants.{StorageFault, NoMemory}

-- ---- the table

pub record Row : Type 0 where
  pub code : ℕ
  -- in UTF-8
  pub text : List ℕ

abbrev pub row : ℕ → List ℕ → Row
row code text = record { code = code; text = text }

-- a constraint of IDTA-01001-3-0 by its number, in three digits
abbrev pub constraint_name : ℕ → List ℕ
constraint_name n =
    codes "AASd-" ++ (if nat_lt n 10 then codes "00" else (if nat_lt n 100 then codes "0" else codes "")) ++ decimal n

abbrev pub absent_text : Absent → List ℕ
absent_text absent.Shell = codes "shell"
absent_text absent.SubmodelReference = codes "submodel reference"
absent_text absent.Submodel = codes "submodel"
absent_text absent.Concept = codes "concept description"
absent_text (absent.Element after) = codes "element after " ++ fault_path_text after.steps

abbrev pub row_of : Refusal → Row
row_of NoMemory = row 0 (codes "out of memory")
row_of BadRequest = row 1 (codes "bad request")
row_of TooLarge = row 2 (codes "too large")
row_of NotImplemented = row 3 (codes "not implemented")
row_of NoRoute = row 4 (codes "no route")
row_of (NotAllowed allow) = row 5 (codes "method not allowed")
row_of BadIdentifier = row 6 (codes "bad identifier")
row_of (BadPath n) = row 7 (codes "bad path at " ++ decimal n)
row_of (BadQuery name) = row 8 (codes "bad query: " ++ encode_utf8_all name)
row_of NotJson = row 9 (codes "not JSON")
row_of (NotMapping pointer) = row 10 (codes "not in the mapping at " ++ encode_utf8_all pointer)
row_of (TooDeep pointer) = row 11 (codes "too deep at " ++ encode_utf8_all pointer)
row_of IdMismatch = row 12 (codes "identifiers differ")
row_of (NotFound what) = row 13 (codes "not found: " ++ absent_text what)
row_of Conflict = row 14 (codes "already there")
row_of NotAContainer = row 15 (codes "not a container")
row_of NoValueForm = row 16 (codes "no value form")
row_of (Shape path) = row 17 (codes "wrong shape at " ++ fault_path_text path.steps)
row_of (Lexical path) = row 18 (codes "lexical fault at " ++ fault_path_text path.steps)
row_of (Constraint fault) = row 19 (constraint_name fault.number ++ codes " at " ++ fault_path_text fault.path.steps)
row_of TooMany = row 20 (codes "too many elements")
row_of StorageFull = row 21 (codes "storage full")
row_of StorageFault = row 22 (codes "storage fault")

abbrev pub code_of : Refusal → ℕ
code_of r = (row_of r).code

abbrev pub text_of : Refusal → List ℕ
text_of r = (row_of r).text

-- ---- faults of the lower layers

abbrev pub refusal_of_read : ReadFault → Refusal
refusal_of_read read.NotJson = NotJson
refusal_of_read (read.NotMapping pointer) = NotMapping pointer
refusal_of_read (read.TooDeep pointer) = TooDeep pointer
refusal_of_read read.NoMemory = NoMemory

abbrev pub refusal_of_path : PathFault → Refusal
refusal_of_path (path.BadPath n) = BadPath n
refusal_of_path path.NoMemory = NoMemory

-- number 0 stands for the lexical rules
abbrev pub refusal_of_fault : Fault → Refusal
refusal_of_fault f = if f.number == 0 then Lexical f.path else Constraint f
