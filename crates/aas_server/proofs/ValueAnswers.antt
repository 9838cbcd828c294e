-- What the command `value` answers, by what its reader and its check answered.
use Rattle.std.proofs.Common.{◌≡◌, ◌≢◌, ◌≤◌, ℕ, Bool, true, false, nat_lt, List, Option, Some, None, Result, Ok, Err}
use Rattle.std.proofs.Common.{IfErr, length, refl, ap, sym, subst, arith, ◌∙◌}
use Rattle.std.specs.Prelude.{MatchBool, is_some, IsErrAnd}
use Rattle.std.proofs.lemmas.Bool.Decides.{nat_tests}
use Rattle.serde_json.specs.Data.{Data}
use Rattle.serde_json.specs.Written.{compact_text}
use Rattle.aas_model_names.specs.declared.modifiers.Extent.TheVariants.{WithBlobValue}
use Rattle.aas_model.specs.declared.element.Element.{Element}
use Rattle.aas_model.specs.declared.path.Fault.{Fault}
use Rattle.aas_model.specs.declared.read_fault.ReadFault.{ReadFault}
use Rattle.aas_model.specs.declared.read_fault.ReadFault.TheVariants as read
use Rattle.aas_json_table.specs.TooDeep.{limits}
use Rattle.aas_json_spelling.specs.Reads.{ReadsBytes}
use Rattle.aas_json_mapping.specs.Trees.{elements}
use Rattle.aas_constraint_rules.specs.Faults.{element_faults}
use Rattle.aas_reference.specs.Rules.{first}
use Rattle.aas_value.specs.ValueForm.{value_form}
use Rattle.aas_command.specs.Refusals.{refusal_of_read, refusal_of_fault}
use Rattle.aas_command.specs.declared.refusal.Refusal.{Refusal}
use Rattle.aas_command.specs.declared.refusal.Refusal.TheVariants.{TooLarge, NoValueForm, NoMemory}
use Rattle.aas_server.specs.Answer.{Answer, line, done, refused}
use Rattle.aas_server.specs.Console.{input_limit}
use Rattle.aas_server.specs.ValueAnswer.{form_answer, element_answer, read_answer, IsReadAnswer, IsValueAnswer}

-- ---- an element

without_form : (form : Option Data) (fault : Option Fault)
    → is_some form ≡ false → form_answer form fault ≡ refused NoValueForm
without_form None fault none = refl
without_form (Some form) fault none = cc

with_fault : (form : Option Data) (fault : Fault)
    → is_some form ≡ true → form_answer form (Some fault) ≡ refused (refusal_of_fault fault)
with_fault None fault some = cc
with_fault (Some form) fault some = refl

pub formless : (e : Element) → is_some (value_form WithBlobValue e) ≡ false → element_answer e ≡ refused NoValueForm
unfolding element_answer
formless e none = without_form (value_form WithBlobValue e) (first (element_faults e)) none

pub faulty : (e : Element) (fault : Fault) (refusal : Refusal)
    → is_some (value_form WithBlobValue e) ≡ true → first (element_faults e) ≡ Some fault
    → refusal ≡ refusal_of_fault fault → element_answer e ≡ refused refusal
unfolding element_answer
faulty e fault refusal some found is =
    ap (λ (o : Option Fault). form_answer (value_form WithBlobValue e) o) found
    ∙ with_fault (value_form WithBlobValue e) fault some ∙ ap refused (sym is)

pub valid : (e : Element) (form : Data) (text : List ℕ)
    → value_form WithBlobValue e ≡ Some form → first (element_faults e) ≡ None
    → text ≡ line (compact_text form) → element_answer e ≡ done text
unfolding element_answer
valid e form text has none is =
    ap (λ (o : Option Data). form_answer o (first (element_faults e))) has
    ∙ ap (λ (o : Option Fault). form_answer (Some form) o) none ∙ ap done (sym is)

-- ---- an input

pub read_answered : (input : List ℕ) (r : Result Element ReadFault) (answer : Answer)
    → length input ≤ input_limit → ReadsBytes elements limits r input
    → r ≢ Err read.NoMemory → answer ≡ read_answer r → IsValueAnswer input answer
unfolding IsReadAnswer
read_answered input r answer within reads some is =
    let small : nat_lt input_limit (length input) ≡ false = grind (arith, nat_tests) in
    subst (λ (b : Bool). MatchBool b (answer ≡ refused TooLarge) (IsReadAnswer input answer))
    (sym small) (r, reads, some, is)

-- where it is refused for another reason than want of memory
pub fault_answered : (input : List ℕ) (fault : ReadFault) (refusal : Refusal)
    → length input ≤ input_limit → ReadsBytes elements limits (Err fault) input
    → refusal ≡ refusal_of_read fault → refusal ≢ NoMemory → IsValueAnswer input (refused refusal)
fault_answered input fault refusal within reads is some =
    read_answered input (Err fault) (refused refusal) within reads
    (λ memory. let same : fault ≡ read.NoMemory = cc in some (is ∙ ap refusal_of_read same)) (ap refused is)

pub element_answered : (input : List ℕ) (e : Element) (answer : Answer)
    → length input ≤ input_limit → ReadsBytes elements limits (Ok e) input
    → element_answer e ≡ answer → IsValueAnswer input answer
element_answered input e answer within reads is = read_answered input (Ok e) answer within reads (λ memory. cc) (sym is)

-- of what an error is known to be
pub if_err : {T E : Type 0} (r : Result T E) (P Q : E → Type 0) → ((e : E) → P e → Q e) → IsErrAnd r P → IfErr r Q
if_err (Ok t) P Q f is = tt
if_err (Err e) P Q f is = f e is
