-- What a command comes to, by the causes that were tried.
use Rattle.std.proofs.Common.{◌≡◌, Bool, true, false, List, [], ◌∷◌, Some, None, refl, sym, ap, ◌∙◌, subst}
use Rattle.std.specs.Prelude.{◌≢◌, ◌==◌, ◌++◌, if◌then◌else◌, option_map}
use Rattle.std.specs.Option.{option_or}
use Rattle.aas_command.specs.Refusals.{refusal_of_fault}
use Rattle.aas_command.specs.declared.command.Command.{Command}
use Rattle.aas_command.specs.declared.refusal.Refusal.{Refusal}
use Rattle.aas_command.specs.declared.refusal.Refusal.TheVariants.{Constraint, Lexical, NoMemory, StorageFault}
use Rattle.aas_command.specs.declared.refusal.Refusal.TheVariants.{StorageFull, TooMany}
use Rattle.aas_constraint_rules.specs.Faults.{Document, faults_of}
use Rattle.aas_model.specs.declared.path.Fault.{Fault}
use Rattle.aas_reference.specs.Rules.{first}
use Rattle.aas_step.specs.Causes.{Cause, causes, first_of, has_too_many, unless, when}
use Rattle.aas_step.specs.Made.{with_document}
use Rattle.aas_step.specs.Step.{accepted, refused, result_of, later_causes, ComesBy, ComesTo}
use Rattle.aas_store.specs.Documents.{Documents}
use Rattle.aas_repo_documents.specs.Decisions.{IsDecision, Makes, decision_of}
use Rattle.aas_repo_documents.specs.declared.decision.Decision.TheVariants as decision

-- ---- the first of the causes

pub first_in : (os more : List Cause) → first_of (os ++ more) ≡ option_or (first_of os) (first_of more)
first_in [] more = refl
first_in (None ∷ os) more = first_in os more
first_in (Some why ∷ os) more = refl

pub refused_by : (has_room : Bool) (d : Documents) (c : Command) (refusal : Refusal) (cs : List Cause) → causes d c ≡ cs
    → first_of cs ≡ Some refusal → ComesTo has_room d c (refused refusal)
unfolding ComesTo
refused_by has_room d c refusal cs are is =
    subst (λ (o : Cause). ComesBy o has_room d c (refused refusal)) (sym (ap first_of are ∙ is)) refl

comes : (has_room : Bool) (d : Documents) (c : Command) (x : Document) (o : Cause) → Makes d c x
    → o ≡ first_of (later_causes has_room (x ∷ []))
    → ComesTo has_room d c (result_of o (with_document d x))
unfolding ComesTo
comes has_room d c x o makes is =
    let later : Cause = first_of (later_causes has_room (x ∷ [])) in
    subst (λ (e : Cause). ComesBy e has_room d c (result_of o (with_document d x))) (sym makes.no_cause) (
      x ∷ [],
      makes.made,
      ap (λ (e : Cause). result_of e (with_document d x)) is
          ∙ ap (λ (old : Documents). result_of later (with_document old x)) (sym makes.left_are),
    )

-- the first cause in what is there, or want of memory
pub is_refused_or_no_memory : (has_room : Bool) (d new : Documents) (c : Command) (refusal : Refusal)
    → (refusal ≢ NoMemory → (refusal ≢ StorageFault) × (first_of (causes d c) ≡ Some refusal)) → new ≡ d
    → IsDecision has_room d c new (decision_of refusal)
is_refused_or_no_memory has_room d new c NoMemory why same = same
is_refused_or_no_memory has_room d new c refusal why same =
    let cause = why (λ e. absurd (cc)) in
    (same, cause.0, refused_by has_room d c refusal (causes d c) refl cause.1)

-- ---- by the document that is made

three : List Fault → Bool → Bool → Cause
three faults many has_room =
    first_of (option_map refusal_of_fault (first faults) ∷ when many TooMany ∷ unless has_room StorageFull ∷ [])

nothing : (faults : List Fault) (many has_room : Bool) → None ≡ three faults many has_room
    → (faults ≡ []) × (many ≡ false) × (has_room ≡ true)
unfolding three
nothing [] true has_room e = absurd (cc)
nothing [] false true e = (refl, refl, refl)
nothing [] false false e = absurd (cc)
nothing (f ∷ fs) many has_room e = absurd (cc)

pub of_fault : (b : Bool) (f : Fault) (refusal : Refusal)
    → Some refusal ≡ Some (if b then Lexical f.path else Constraint f)
    → refusal ≢ StorageFault
of_fault true f refusal e is = absurd (cc)
of_fault false f refusal e is = absurd (cc)

no_storage_fault : (faults : List Fault) (many has_room : Bool) (refusal : Refusal)
    → Some refusal ≡ three faults many has_room
    → refusal ≢ StorageFault
unfolding three
no_storage_fault [] true has_room refusal e is = absurd (cc)
no_storage_fault [] false true refusal e is = absurd (cc)
no_storage_fault [] false false refusal e is = absurd (cc)
no_storage_fault (f ∷ fs) many has_room refusal e is = of_fault (f.number == 0) f refusal e is

pub makes : (has_room : Bool) (d new : Documents) (c : Command) (x : Document) → Makes d c x
    → None ≡ first_of (later_causes has_room (x ∷ [])) → new ≡ with_document d x
    → IsDecision has_room d c new decision.Made
unfolding three
makes has_room d new c x puts none same = (
  (nothing (faults_of x) (has_too_many x) has_room none).2,
  subst (λ (n : Documents). ComesTo has_room d c (accepted n)) (sym same) (comes has_room d c x None puts none),
)

pub refuses : (has_room : Bool) (d new : Documents) (c : Command) (x : Document) (refusal : Refusal) → Makes d c x
    → Some refusal ≡ first_of (later_causes has_room (x ∷ [])) → new ≡ d
    → IsDecision has_room d c new (decision.Refused refusal)
unfolding three
refuses has_room d new c x refusal puts is same = (
  same,
  no_storage_fault (faults_of x) (has_too_many x) has_room refusal is,
  comes has_room d c x (Some refusal) puts is,
)
