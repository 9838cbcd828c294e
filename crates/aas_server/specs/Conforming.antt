-- What `conform` answers to two words, that of a template and that of an instance. This profile's own rule.
use Rattle.std.specs.Prelude.{◌≡◌, ◌≢◌, ◌⊎◌, ℕ, List, ◌++◌, codes, if◌then◌else◌, Option, Some, None}
use Rattle.std.specs.FinMap as map
use Rattle.std.specs.Str.{encode_utf8_all}
use Rattle.aas_command.specs.declared.refusal.Absent.TheVariants as absent
use Rattle.aas_command.specs.declared.refusal.Refusal.TheVariants.{BadIdentifier, NoMemory, NotFound}
use Rattle.aas_constraint_rules.specs.Faults.{is_template}
use Rattle.aas_model.specs.declared.documents.Submodel.{Submodel}
use Rattle.aas_page.specs.Segment.{IsIdentifierCode}
use Rattle.aas_path.specs.PathText.{fault_path_text}
use Rattle.aas_reference.specs.Rules.{first}
use Rattle.aas_store.specs.Documents.{Documents}
use Rattle.aas_template.specs.Differences.{submodel_differences}
use Rattle.aas_template.specs.declared.difference.Difference.{Difference}
use Rattle.aas_template.specs.declared.difference.Reason.{Reason}
use Rattle.aas_template.specs.declared.difference.Reason.TheVariants.{KindDiffers, TypeDiffers, SemanticDiffers}
use Rattle.aas_template.specs.declared.difference.Reason.TheVariants.{CountDiffers}
use Rattle.aas_server.specs.Answer.{Answer, done, line, refused}
use Rattle.aas_server.specs.declared.conforming.Unfit.{Unfit}
use Rattle.aas_server.specs.declared.conforming.Unfit.TheVariants.{Refused, NotTemplate}

-- the first submodel isn't of kind Template; no other command and no request is refused so
abbrev pub not_a_template : Answer
not_a_template = record { status = 7; text = line (codes "aasd: refused 24 not a template") }

abbrev pub reason_name : Reason → List ℕ
reason_name KindDiffers = codes "kind"
reason_name TypeDiffers = codes "type"
reason_name SemanticDiffers = codes "semanticId"
reason_name CountDiffers = codes "cardinality"

-- `$` is the submodel itself
abbrev pub conform_text : Option Difference → List ℕ
conform_text None = line (codes "conforms")
conform_text (Some d) = line (codes "differs at " ++ fault_path_text d.path.steps ++ codes ": " ++ reason_name d.reason)

-- by the template and the instance, if they are there
abbrev pub compared_answer : Option Submodel → Option Submodel → Answer
compared_answer None d = refused (NotFound absent.Submodel)
compared_answer (Some t) None = refused (NotFound absent.Submodel)
compared_answer (Some t) (Some d) =
    if is_template t.kind then done (conform_text (first (submodel_differences t d))) else not_a_template

abbrev pub submodel_at : Documents → List ℕ → Option Submodel
submodel_at d id = map.get d.submodels (encode_utf8_all id)

-- the word stands for no identifier
abbrev pub StandsForNone : List ℕ → Type 0
StandsForNone word = (id : List ℕ) → ¬ IsIdentifierCode (encode_utf8_all word) id

-- the words stand for identifiers as segments do that aren't percent-coded
abbrev pub AreComparedAs : List ℕ → List ℕ → Documents → Answer → Type 0
AreComparedAs template instance d answer =
    (t i : List ℕ) × IsIdentifierCode (encode_utf8_all template) t × IsIdentifierCode (encode_utf8_all instance) i
    × (answer ≡ compared_answer (submodel_at d t) (submodel_at d i))

abbrev pub IsConformAnswer : List ℕ → List ℕ → Documents → Answer → Type 0
IsConformAnswer template instance d answer =
    ((StandsForNone template ⊎ StandsForNone instance) × (answer ≡ refused BadIdentifier))
    ⊎ AreComparedAs template instance d answer

-- what is said where they aren't compared; nothing of want of memory
abbrev pub IsUnfit : List ℕ → List ℕ → Documents → Unfit → Type 0
IsUnfit template instance d (Refused refusal) =
    refusal ≢ NoMemory → IsConformAnswer template instance d (refused refusal)
IsUnfit template instance d NotTemplate = IsConformAnswer template instance d not_a_template
