-- What a call answers that looks first whether a path leads to something.
use Rattle.std.proofs.Common.{◌≡◌, ◌↔◌, Ok, Err, ap}
use Rattle.std.specs.Prelude.{Result}
use Rattle.aas_form.specs.declared.form_fault.FormFault.{FormFault}
use Rattle.aas_form.specs.declared.form_fault.FormFault.TheVariants.{Missing, NoMemory}
use Rattle.aas_model.specs.declared.path.Missing as model

-- what was looked up, of which IsMissing says where a path ends
abbrev Looked : Type 0
Looked = Result (Unit {0}) model.Missing

abbrev pub Tells : Looked → (model.Missing → Type 0) → Type 0
Tells looked IsMissing = (m : model.Missing) → (looked ≡ Err m) ↔ IsMissing m

abbrev pub TellsForm : {A : Type 0} → Result A FormFault → (model.Missing → Type 0) → Type 0
TellsForm answer IsMissing = (m : model.Missing) → (answer ≡ Err (Missing m)) ↔ IsMissing m

fault_of : {A : Type 0} → Looked → Result A FormFault
fault_of (Ok x) = Err NoMemory
fault_of (Err m) = Err (Missing m)

missing_of : {A : Type 0} → Result A FormFault → Looked
missing_of (Err (Missing m)) = Err m
missing_of _ = Ok tt

pub found_answer : {A : Type 0} (x : A) (u : Unit {0}) (P : model.Missing → Type 0) → Tells (Ok u) P → TellsForm (Ok x) P
found_answer x u P h m = (λ e. absurd (cc), λ p. let never = (h m).1 p in absurd (cc))

pub refused_answer : {A : Type 0} (u : Unit {0}) (P : model.Missing → Type 0) → Tells (Ok u) P → TellsForm {A = A} (Err NoMemory) P
refused_answer u P h m = (λ e. absurd (cc), λ p. let never = (h m).1 p in absurd (cc))

pub missing_answer : {A : Type 0} (n : model.Missing) (P : model.Missing → Type 0) → Tells (Err n) P → TellsForm {A = A} (Err (Missing n)) P
unfolding fault_of missing_of
missing_answer n P h m = (λ e. (h m).0 (ap missing_of e), λ p. ap fault_of ((h m).1 p))
