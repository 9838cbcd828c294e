-- A demo is read back, and none of its documents is refused.
use Rattle.std.proofs.Common.{◌≡◌, ◌≢◌, ⊎_elim, ◌∙◌, ◌≤◌, ◌^◌, ◌&&◌, ℕ, List, [], ◌∷◌, true, false, Option, Some, None}
use Rattle.std.proofs.Common.{Ok, Err, refl, sym, ap, ap₂, subst, arith, nat_lt}
use Rattle.std.specs.Prelude.{option_map}
use Rattle.std.specs.Option.{option_map_or, option_or}
use Rattle.std.specs.Str.{IsUtf8}
use Rattle.std.proofs.Math.Nat.{le_refl}
use Rattle.std.proofs.lemmas.Bool.Decides.{nat_tests}
use Rattle.aas_outside.specs.Link.{LinkState}
use Rattle.serde_json.specs.Data.{Data}
use Rattle.aas_command.specs.Refusals.{refusal_of_fault}
use Rattle.aas_command.specs.declared.refusal.Refusal.TheVariants.{TooMany}
use Rattle.aas_constraint_rules.specs.Faults.{submodel}
use Rattle.aas_demo.specs.Demo.{environment_of, submodel_of}
use Rattle.aas_demo.specs.Laws.{DemosAreValid, DemosHaveSoMany}
use Rattle.aas_environment.specs.Imports.{IsFileFault, Spell}
use Rattle.aas_environment.specs.declared.import_fault.ImportFault.{ImportFault}
use Rattle.aas_environment.specs.declared.import_fault.ImportFault.TheVariants as fault
use Rattle.aas_json_mapping.specs.Shape.{IsShapedEnvironment}
use Rattle.aas_json_mapping.specs.Trees.{environments}
use Rattle.aas_json_mapping.specs.Whole.{is_whole_environment}
use Rattle.aas_json_spelling.specs.Mapped.{IsMapped}
use Rattle.aas_json_spelling.specs.Reading.{reading}
use Rattle.aas_json_spelling.specs.Reads.{ReadsIf}
use Rattle.aas_json_spelling.specs.Spells.{IsWithinLimits}
use Rattle.aas_json_table.specs.Pointer.{pointer_text}
use Rattle.aas_json_table.specs.TooDeep.{limits}
use Rattle.aas_model.specs.declared.documents.Environment.{Environment}
use Rattle.aas_model.specs.declared.path.Fault.{Fault}
use Rattle.aas_model.specs.declared.read_fault.ReadFault.{ReadFault}
use Rattle.aas_model.specs.declared.read_fault.ReadFault.TheVariants as read
use Rattle.aas_model_names.specs.declared.collection.Collection.TheVariants.{Concepts, Shells, Submodels}
use Rattle.aas_reference.specs.Rules.{first}
use Rattle.aas_repo.specs.Faulty.{first_faulty_in, in_list}
use Rattle.aas_step.specs.Causes.{first_of, has_too_many, when}
use Rattle.aas_server.specs.Answer.{Answer, GivesAnswer, Says}
use Rattle.aas_server.specs.CommandLine.{IsCount, most_properties}
use Rattle.aas_server.specs.Importing.{IsFaultAnswer, demo_input}

-- ---- it spells what it is the text of

whole_demo : DemosAreValid → (count : ℕ) → count ≤ 2 ^ 32 → is_whole_environment limits (environment_of count) ≡ true
whole_demo valid count small = ap (λ b. (true && (b && true)) && true) (valid count small).whole

pub demo_spelled : DemosAreValid → IsMapped environments IsShapedEnvironment → (count : ℕ)
    → count ≤ 2 ^ 32 → IsUtf8 (demo_input count)
    → Spell (demo_input count) (environment_of count)
demo_spelled valid mapped count small utf8 =
    let within : IsWithinLimits limits = record { elements = le_refl _; references = le_refl _; kept = le_refl _ } in
    let back = mapped.reads_back limits (environment_of count) within (whole_demo valid count small) utf8 in
    subst (λ value. ReadsIf environments limits (Ok (environment_of count)) value) (sym back.1) back.2

-- what spells an environment has no fault
no_fault : (e : Environment) (why : ReadFault) (value : Option Data) → ReadsIf environments limits (Ok e) value
    → ReadsIf environments limits (Err why) value → why ≢ read.NoMemory → ⊥
no_fault e why None spelled found other =
    ⊎_elim (λ (is : Ok e ≡ Err read.NotJson). cc) (λ (is : Ok e ≡ Err read.NoMemory). cc) spelled
no_fault e read.NotJson (Some j) spelled found other = found
no_fault e (read.NotMapping p) (Some j) spelled found other =
    let none = sym (ap (option_map pointer_text) spelled.fits) ∙ found in cc
no_fault e (read.TooDeep p) (Some j) spelled found other =
    let none = sym (ap (option_map pointer_text) spelled.shallow) ∙ found.1 in cc
no_fault e read.NoMemory (Some j) spelled found other = other refl

-- ---- no document of it is refused

few_elements : DemosHaveSoMany → (count : ℕ) → count ≤ 65536 → has_too_many (submodel (submodel_of count)) ≡ false
few_elements so_many count few =
    let within : nat_lt 65536 count ≡ false = grind (arith, nat_tests) in
    ap (λ n. nat_lt 65536 n) (so_many count) ∙ within

none_faulty : DemosAreValid → DemosHaveSoMany → (count : ℕ)
    → count ≤ 65536 → first_faulty_in (environment_of count) ≡ None
none_faulty valid so_many count few =
    ap₂ (λ (faults : List Fault) many. option_or (in_list Shells None) (option_or
    (in_list Submodels (option_map_or (λ why. Some (0, why))
    (first_of (option_map refusal_of_fault (first faults) ∷ when many TooMany ∷ [])) None))
    (in_list Concepts None)))
    (valid count (omega (arith, few))).faultless (few_elements so_many count few)

-- there may be no room for it, and it may fail
abbrev pub IsNoRefusal : ImportFault → Type 0
IsNoRefusal fault.Full = Unit {0}
IsNoRefusal fault.Storage = Unit {0}
IsNoRefusal fault.NoMemory = Unit {0}
IsNoRefusal why = ⊥

pub demo_taken : DemosAreValid → DemosHaveSoMany → (count : ℕ)
    → IsCount most_properties count → Spell (demo_input count) (environment_of count)
    → (why : ImportFault) → IsFileFault (demo_input count) why → IsNoRefusal why
demo_taken valid so_many count few spelled (fault.Read why) is =
    no_fault (environment_of count) why (reading (demo_input count)) spelled is.1 is.0
demo_taken valid so_many count few spelled (fault.Twice p) is =
    let found = is (environment_of count) spelled in let none : None ≡ Some found.0 = found.1 in cc
demo_taken valid so_many count few spelled (fault.Rule p why) is =
    let found = is (environment_of count) spelled in
    let none = sym (none_faulty valid so_many count few.1) ∙ found.1.1 in cc
demo_taken valid so_many count few spelled (fault.TooMany p) is =
    let found = is (environment_of count) spelled in
    let none = sym (none_faulty valid so_many count few.1) ∙ found.1.1 in cc
demo_taken valid so_many count few spelled fault.Full is = tt
demo_taken valid so_many count few spelled fault.Storage is = tt
demo_taken valid so_many count few spelled fault.NoMemory is = tt

-- ---- so its status isn't that of a refusal

module _ (status : ℕ) (old new : LinkState) (seven : status ≡ 7) where
  given_other : (why : ImportFault) → IsNoRefusal why → GivesAnswer (IsFaultAnswer why) status old.sent new.sent → ⊥
  given_other (fault.Read why) other gives = other
  given_other (fault.Twice p) other gives = other
  given_other (fault.Rule p why) other gives = other
  given_other (fault.TooMany p) other gives = other
  given_other fault.Full other gives =
      let nine : 7 ≡ 9 = sym seven ∙ gives.2 ∙ ap (λ (a : Answer). a.status) gives.1 in cc
  given_other fault.Storage other gives =
      let four : 7 ≡ 4 = sym seven ∙ gives.2 ∙ ap (λ (a : Answer). a.status) gives.1 in cc
  given_other fault.NoMemory other gives = gives.1

pub no_refusal_given : (status : ℕ) (old new : LinkState) (why : ImportFault)
    → IsNoRefusal why → Says (IsFaultAnswer why) status old new → status ≡ 7 → ⊥
no_refusal_given status old new why other says seven =
    given_other status old new seven why other
    (says.given (λ three. let wrong : 7 ≡ 3 = sym seven ∙ three in cc)
    (λ ten. let wrong : 7 ≡ 10 = sym seven ∙ ten in cc))
