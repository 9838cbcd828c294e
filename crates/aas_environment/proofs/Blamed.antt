-- Why the import of an environment is refused, and for which document.
use Rattle.std.proofs.Common.{◌≡◌, ⊎_elim, ◌+◌, ℕ, Bool, true, false, List, [], ◌∷◌, Option, Some, None, Ok, Err}
use Rattle.std.proofs.Common.{refl, sym, ap, ◌∙◌, subst}
use Rattle.std.specs.Prelude.{if◌then◌else◌, length, map, option_map, ◌==◌}
use Rattle.std.specs.Option.{option_map_or, option_or}
use Rattle.std.proofs.lemmas.Option.{some_pair_parts}
use Rattle.serde_json.specs.Data.{Data}
use Rattle.aas_command.specs.Commands.{payload_of}
use Rattle.aas_command.specs.Refusals.{refusal_of_fault}
use Rattle.aas_command.specs.declared.command.Command.TheVariants.{Import}
use Rattle.aas_command.specs.declared.refusal.Refusal.{Refusal}
use Rattle.aas_command.specs.declared.refusal.Refusal.TheVariants.{Conflict, Constraint, Lexical}
use Rattle.aas_command.specs.declared.refusal.Refusal.TheVariants.{TooMany as TooManyElements}
use Rattle.aas_constraint_rules.specs.Faults.{Document, concept, faults_of, shell, submodel}
use Rattle.aas_json_mapping.specs.Trees.{environments}
use Rattle.aas_json_mapping.specs.Shape.{IsShapedEnvironment}
use Rattle.aas_json_mapping.proofs.DocumentsLaws.{environments_laws}
use Rattle.aas_json_spelling.specs.Reads.{ReadsIf}
use Rattle.aas_json_spelling.proofs.Laws.{one_tree}
use Rattle.aas_json_table.specs.TooDeep.{limits}
use Rattle.aas_model.specs.declared.documents.Environment.{Environment}
use Rattle.aas_model.specs.declared.path.Fault.{Fault}
use Rattle.aas_model_names.specs.declared.collection.Collection.TheVariants.{Concepts, Shells, Submodels}
use Rattle.aas_reference.specs.Rules.{first}
use Rattle.aas_repo.proofs.Imported.{comes, own_is}
use Rattle.aas_repo.specs.Decisions.{has_room_for}
use Rattle.aas_repo.specs.Faulty.{first_faulty_from, first_faulty_in, in_list}
use Rattle.aas_rule.specs.Rule.{Repository, Room}
use Rattle.aas_rule.specs.State.{Holds, State}
use Rattle.aas_step.specs.Causes.{Cause, document_causes, first_of, has_too_many, when}
use Rattle.aas_step.specs.Step.{ComesTo, Steps, refused}
use Rattle.aas_store.specs.Documents.{Documents}
use Rattle.aas_environment.specs.Imports.{Blames, ComesOut, Imports, IsFileFault, Place, Spell, refusal_of}
use Rattle.aas_environment.specs.Refusing.{BlamesDocument, IsOwn}
use Rattle.aas_environment.specs.declared.import_fault.ImportFault.{ImportFault}
use Rattle.aas_environment.specs.declared.import_fault.ImportFault.TheVariants.{Full, NoMemory, Read, Rule, Storage}
use Rattle.aas_environment.specs.declared.import_fault.ImportFault.TheVariants.{TooMany, Twice}

-- ---- what bytes spell

pub spelled_whole : (value : Option Data) (e : Environment)
    → ReadsIf environments limits (Ok e) value → environments.IsWhole limits e
spelled_whole None e spelled = ⊎_elim (λ (is : Ok e ≡ Err _). absurd (cc)) (λ (is : Ok e ≡ Err _). absurd (cc)) spelled
spelled_whole (Some j) e spelled = spelled.whole

pub spelled_once : (value : Option Data) (e other : Environment)
    → ReadsIf environments limits (Ok e) value → ReadsIf environments limits (Ok other) value
    → e ≡ other
spelled_once None e other read spelled =
    ⊎_elim (λ (is : Ok other ≡ Err _). absurd (cc)) (λ (is : Ok other ≡ Err _). absurd (cc)) spelled
spelled_once (Some j) e other read spelled =
    one_tree environments IsShapedEnvironment environments_laws limits j e other read spelled

-- ---- why a document isn't taken for itself

of_fault : (b : Bool) (f : Fault) (why : Refusal)
    → (f.number == 0) ≡ b → why ≡ (if b then Lexical f.path else Constraint f) → IsOwn why
of_fault true f why zero is = subst IsOwn (sym is) tt
of_fault false f why other is = subst IsOwn (sym is) other

of_document : (faults : List Fault) (many : Bool) (why : Refusal)
    → first_of (option_map refusal_of_fault (first faults) ∷ when many TooManyElements ∷ []) ≡ Some why → IsOwn why
of_document [] true why is = let many : why ≡ TooManyElements = cc in subst IsOwn (sym many) tt
of_document [] false why is = absurd (cc)
of_document (f ∷ fs) many why is =
    let fault : why ≡ refusal_of_fault f = cc in
    of_fault (f.number == 0) f why refl fault

own_from : (n : ℕ) (xs : List Document) (place : ℕ) (why : Refusal)
    → first_faulty_from n xs ≡ Some (place, why) → IsOwn why
own_from n [] place why is = absurd (cc)
own_from n (x ∷ xs) place why is = by (first_of (document_causes x)) refl (own_from (n + 1) xs place why) is
  where
    by : (o : Cause) → first_of (document_causes x) ≡ o → (first_faulty_from (n + 1) xs ≡ Some (place, why) → IsOwn why)
        → option_map_or (λ why. Some (n, why)) o (first_faulty_from (n + 1) xs) ≡ Some (place, why) → IsOwn why
    by (Some own) here rest is =
        let same : own ≡ why = (some_pair_parts n place own why is).1 in
        of_document (faults_of x) (has_too_many x) why (here ∙ ap (λ w. Some w) same)
    by None here rest is = rest is

AreOwn : Option (ℕ × Refusal) → Type 0
AreOwn found = (place : ℕ) (why : Refusal) → found ≡ Some (place, why) → IsOwn why

own_in_lists : (a b c : Option (ℕ × Refusal)) → AreOwn a → AreOwn b → AreOwn c → (document : Place) (why : Refusal)
    → option_or (in_list Shells a) (option_or (in_list Submodels b) (in_list Concepts c)) ≡ Some (document, why)
    → IsOwn why
unfolding AreOwn
own_in_lists (Some f) b c own_a own_b own_c document why is =
    subst IsOwn (some_pair_parts (Shells, f.0) document f.1 why is).1 (own_a f.0 f.1 refl)
own_in_lists None (Some f) c own_a own_b own_c document why is =
    subst IsOwn (some_pair_parts (Submodels, f.0) document f.1 why is).1 (own_b f.0 f.1 refl)
own_in_lists None None (Some f) own_a own_b own_c document why is =
    subst IsOwn (some_pair_parts (Concepts, f.0) document f.1 why is).1 (own_c f.0 f.1 refl)
own_in_lists None None None own_a own_b own_c document why is = absurd (cc)

pub own_in : (e : Environment) (document : Place) (why : Refusal) → first_faulty_in e ≡ Some (document, why) → IsOwn why
unfolding AreOwn
own_in e =
    own_in_lists (first_faulty_from 0 (map shell e.shells))
    (first_faulty_from 0 (map submodel e.submodels)) (first_faulty_from 0 (map concept e.concepts))
    (own_from 0 (map shell e.shells)) (own_from 0 (map submodel e.submodels)) (own_from 0 (map concept e.concepts))

-- ---- what is answered where a document is to blame

module _ (bytes : List ℕ) (e : Environment) (spelled : Spell bytes e) where
  refused_for : (has_room : Bool) (d : Documents) (fault : ImportFault)
      → BlamesDocument e fault → ComesTo has_room d (Import e) (refused (refusal_of fault))
  refused_for has_room d (Twice pointer) blames =
      comes has_room d e (Some Conflict) (own_is e (Some blames.0) (first_faulty_in e) blames.1 refl)
  refused_for has_room d (Rule pointer fault) blames =
      let why = refusal_of_fault fault in
      comes has_room d e (Some why) (own_is e None (Some (blames.1.0, why)) blames.0 blames.1.1)
  refused_for has_room d (TooMany pointer) blames =
      let why = TooManyElements in
      comes has_room d e (Some why) (own_is e None (Some (blames.1.0, why)) blames.0 blames.1.1)
  refused_for has_room d fault blames = absurd blames

  pub file_fault : ((other : Environment) → Spell bytes other → e ≡ other) → (fault : ImportFault)
      → BlamesDocument e fault → IsFileFault bytes fault
  file_fault once (Read fault) blames = absurd blames
  file_fault once Full blames = absurd blames
  file_fault once Storage blames = tt
  file_fault once NoMemory blames = tt
  file_fault once fault blames = λ other is. subst (λ e. Blames e fault) (once other is) blames

  pub answered : {I : Type 0} (room : Room) (stands_for : I → List (List ℕ) → Type 0) (r : Repository Documents)
      (from : ℕ) (now : State Documents I) → Holds stands_for r.records [] r from now → (fault : ImportFault)
      → BlamesDocument e fault → Imports room stands_for r bytes from now (Err fault)
  unfolding Steps
  answered room stands_for r from now still (Read fault) blames = absurd blames
  answered room stands_for r from now still Full blames = absurd blames
  answered room stands_for r from now still Storage blames = absurd blames
  answered room stands_for r from now still NoMemory blames = still
  answered room stands_for r from now still fault blames = (
    record {
      environment = e;
      spelled = spelled;
      steps = refused_for (room r.records (length (payload_of (Import e)))) r.documents fault blames;
      blames = blames;
    },
    still,
  )

  pub comes_out : (has_room : ℕ → Bool) (old new : Documents) (fault : ImportFault)
      → BlamesDocument e fault → ComesOut has_room old bytes new (Err fault)
  comes_out has_room old new (Read fault) blames = tt
  comes_out has_room old new Full blames = absurd blames
  comes_out has_room old new Storage blames = absurd blames
  comes_out has_room old new NoMemory blames = tt
  comes_out has_room old new fault blames = record {
    environment = e;
    spelled = spelled;
    comes = refused_for (has_room_for has_room (Import e)) old fault blames;
  }
