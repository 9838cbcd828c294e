-- What the command `value` answers to its whole input. This profile's own rule.
use Rattle.std.specs.Prelude.{◌≡◌, ◌≢◌, ℕ, nat_lt, List, length, Option, Some, None, Result, Ok, Err, MatchBool}
use Rattle.serde_json.specs.Data.{Data}
use Rattle.serde_json.specs.Written.{compact_text}
use Rattle.aas_model_names.specs.declared.modifiers.Extent.TheVariants.{WithBlobValue}
use Rattle.aas_model.specs.declared.element.Element.{Element}
use Rattle.aas_model.specs.declared.path.Fault.{Fault}
use Rattle.aas_model.specs.declared.read_fault.ReadFault.{ReadFault}
use Rattle.aas_model.specs.declared.read_fault.ReadFault.TheVariants as read
use Rattle.aas_json_table.specs.TooDeep.{limits}
use Rattle.aas_json_spelling.specs.Reads.{ReadsBytes}
use Rattle.aas_json_mapping.specs.Trees.{elements}
use Rattle.aas_constraint_rules.specs.Faults.{element_faults}
use Rattle.aas_reference.specs.Rules.{first}
use Rattle.aas_value.specs.ValueForm.{value_form}
use Rattle.aas_command.specs.Refusals.{refusal_of_read, refusal_of_fault}
use Rattle.aas_command.specs.declared.refusal.Refusal.TheVariants.{TooLarge, NoValueForm}
use Rattle.aas_server.specs.Answer.{Answer, line, done, refused}
use Rattle.aas_server.specs.Console.{input_limit}

-- by an element's value form and its first fault: the form as compact text
abbrev pub form_answer : Option Data → Option Fault → Answer
form_answer None fault = refused NoValueForm
form_answer (Some form) (Some fault) = refused (refusal_of_fault fault)
form_answer (Some form) None = done (line (compact_text form))

unfoldable pub element_answer : Element → Answer
element_answer e = form_answer (value_form WithBlobValue e) (first (element_faults e))

-- by the element that was read, or the fault
abbrev pub read_answer : Result Element ReadFault → Answer
read_answer (Ok e) = element_answer e
read_answer (Err fault) = refused (refusal_of_read fault)

-- the answer to the element at level 1 that the bytes spell, or to their first fault
unfoldable pub IsReadAnswer : List ℕ → Answer → Type 0
IsReadAnswer input answer =
    (r : Result Element ReadFault) × ReadsBytes elements limits r input
    × (r ≢ Err read.NoMemory) × (answer ≡ read_answer r)

abbrev pub IsValueAnswer : List ℕ → Answer → Type 0
IsValueAnswer input answer =
    MatchBool (nat_lt input_limit (length input)) (answer ≡ refused TooLarge) (IsReadAnswer input answer)
