-- What a command on a whole document comes to, by the causes that were tried.
use Rattle.std.proofs.Common.{◌≡◌, Bool, true, false, List, [], ◌∷◌, Option, Some, None, refl, sym, ap, ◌∙◌, subst}
use Rattle.std.specs.Prelude.{ℕ, is_some, option_map}
use Rattle.std.specs.FinMap as map
use Rattle.std.specs.Option.{option_map_or}
use Rattle.std.specs.Str.{encode_utf8_all}
use Rattle.aas_command.specs.declared.command.Command.{Command}
use Rattle.aas_command.specs.declared.command.Command.TheVariants.{SetAsset}
use Rattle.aas_command.specs.declared.refusal.Refusal.TheVariants.{Conflict, NotFound, StorageFull}
use Rattle.aas_constraint_rules.specs.Faults.{Document, shell}
use Rattle.aas_json_mapping.specs.Whole.{is_whole_shell, whole_asset_information}
use Rattle.aas_json_table.specs.TooDeep.{limits}
use Rattle.aas_model.specs.declared.asset.AssetInformation.{AssetInformation}
use Rattle.aas_model.specs.declared.documents.Shell.{Shell}
use Rattle.aas_model_names.specs.declared.collection.Collection.{Collection}
use Rattle.aas_model_names.specs.declared.collection.Collection.TheVariants.{Shells}
use Rattle.aas_step.proofs.Validity.{whole_with_asset}
use Rattle.aas_step.specs.Causes.{Cause, absent_of, causes, first_of, is_absent, is_there, unless, when}
use Rattle.aas_step.specs.Step.{accepted, result_of, ComesBy, ComesTo}
use Rattle.aas_step.specs.Valid.{AreValid}
use Rattle.aas_store.specs.Documents.{Documents, has, without}
use Rattle.aas_repo_documents.proofs.Decided.{refused_by}
use Rattle.aas_repo_documents.specs.Decisions.{IsDecision, Makes, Puts}
use Rattle.aas_repo.specs.Decisions.{Deletes, with_asset}
use Rattle.aas_repo_documents.specs.declared.decision.Decision.TheVariants as decision

-- where no document is made
comes_without : (has_room : Bool) (d : Documents) (c : Command) (k : Collection) (id : List ℕ) → Deletes d c k id
    → has k (encode_utf8_all id) d ≡ true
    → ComesTo has_room d c (result_of (unless has_room StorageFull) (without k (encode_utf8_all id) d))
unfolding ComesTo
comes_without has_room d c k id deletes there =
    let o : Cause = unless has_room StorageFull in
    let none : first_of (causes d c) ≡ None =
    ap first_of deletes.causes_are ∙ ap (λ b. first_of (unless b (NotFound (absent_of k)) ∷ [])) there in
    subst (λ (e : Cause). ComesBy e has_room d c (result_of o (without k (encode_utf8_all id) d))) (sym none) (
      [],
      deletes.made,
      ap (λ (e : Cause). result_of e (without k (encode_utf8_all id) d)) (alone o)
          ∙ ap (λ (d : Documents). result_of (first_of (o ∷ [])) d) (sym deletes.left_are),
    )
  where
    alone : (o : Cause) → o ≡ first_of (o ∷ [])
    alone None = refl
    alone (Some refusal) = refl

-- ---- by what is there

-- a store was asked
pub asked : (d : Documents) (k j : Collection) (id own : List ℕ) (b there : Bool)
    → j ≡ k → id ≡ own → there ≡ has j id d → there ≡ b
    → has k own d ≡ b
asked d k j id own b there same_k same_id is found =
    sym (is ∙ ap (λ (j : Collection). has j id d) same_k ∙ ap (λ (id : List ℕ). has k id d) same_id) ∙ found

pub conflicts : (has_room : Bool) (d new : Documents) (c : Command) (k : Collection) (id : List ℕ) (x : Document)
    → Puts d c (is_there k id d) x → has k (encode_utf8_all id) d ≡ true
    → new ≡ d → IsDecision has_room d c new (decision.Refused Conflict)
conflicts has_room d new c k id x puts there same = (
  same,
  λ is. absurd (cc),
  refused_by has_room d c Conflict _ puts.causes_are (ap (λ b. first_of (when b Conflict ∷ [])) there),
)

pub clear : (d : Documents) (c : Command) (k : Collection) (id : List ℕ) (x : Document) → Puts d c (is_there k id d) x
    → has k (encode_utf8_all id) d ≡ false → Makes d c x
clear d c k id x puts there =
    record {
      no_cause = ap first_of (puts.causes_are ∙ ap (λ b. when b Conflict ∷ []) there);
      made = puts.made;
      left_are = puts.left_are;
    }

pub misses : (has_room : Bool) (d new : Documents) (c : Command) (k : Collection) (id : List ℕ)
    → causes d c ≡ is_absent k id d ∷ []
    → has k (encode_utf8_all id) d ≡ false → new ≡ d
    → IsDecision has_room d c new (decision.Refused (NotFound (absent_of k)))
misses has_room d new c k id are there same =
    let what = NotFound (absent_of k) in
    (same, λ is. absurd (cc), refused_by has_room d c what _ are (ap (λ b. first_of (unless b what ∷ [])) there))

pub found : (d : Documents) (c : Command) (k : Collection) (id : List ℕ) (x : Document) → Puts d c (is_absent k id d) x
    → has k (encode_utf8_all id) d ≡ true → Makes d c x
found d c k id x puts there =
    record {
      no_cause = ap first_of (puts.causes_are ∙ ap (λ b. unless b (NotFound (absent_of k)) ∷ []) there);
      made = puts.made;
      left_are = puts.left_are;
    }

-- ---- a document is taken away

pub has_no_room : (d new : Documents) (c : Command) (k : Collection) (id : List ℕ)
    → Deletes d c k id → has k (encode_utf8_all id) d ≡ true
    → new ≡ d
    → IsDecision false d c new (decision.Refused StorageFull)
has_no_room d new c k id deletes there same = (same, λ is. absurd (cc), comes_without false d c k id deletes there)

pub deleted : (d new : Documents) (c : Command) (k : Collection) (id : List ℕ)
    → Deletes d c k id → has k (encode_utf8_all id) d ≡ true
    → new ≡ without k (encode_utf8_all id) d
    → IsDecision true d c new decision.Made
deleted d new c k id deletes there same = (
  refl,
  subst (λ (n : Documents). ComesTo true d c (accepted n)) (sym same) (comes_without true d c k id deletes there),
)

-- ---- other asset information

pub sets : (d : Documents) (id : List ℕ) (a : AssetInformation) (found : Option Shell) (s : Shell)
    → map.get d.shells (encode_utf8_all id) ≡ found → Some s ≡ option_map (with_asset a) found
    → Makes d (SetAsset id a) (shell s)
sets d id a None s is made = absurd (cc)
sets d id a (Some old) s is made =
    let same : with_asset a old ≡ s = cc in record {
      no_cause = ap (λ (o : Option Shell). first_of (unless (is_some o) (NotFound (absent_of Shells)) ∷ [])) is;
      made = ap (λ (s : Shell). shell s ∷ []) (sym same)
          ∙ sym (ap (λ (o : Option Shell). option_map_or (λ (s : Shell). shell (with_asset a s) ∷ []) o []) is);
      left_are = refl;
    }

pub sets_whole : (d : Documents) (id : List ℕ) (a : AssetInformation) (found : Option Shell) (s : Shell) → AreValid d
    → whole_asset_information limits a ≡ true
    → map.get d.shells (encode_utf8_all id) ≡ found → Some s ≡ option_map (with_asset a) found
    → is_whole_shell limits s ≡ true
sets_whole d id a None s valid whole is made = absurd (cc)
sets_whole d id a (Some old) s valid whole is made =
    let same : with_asset a old ≡ s = cc in
    subst (λ (s : Shell). is_whole_shell limits s ≡ true) same
    (whole_with_asset old a (valid.shells (encode_utf8_all id) old is).valid.whole whole)

none_found : (d : Documents) (id : List ℕ) (a : AssetInformation) (found : Option Shell)
    → map.get d.shells (encode_utf8_all id) ≡ found
    → None ≡ option_map (with_asset a) found
    → has Shells (encode_utf8_all id) d ≡ false
none_found d id a None is made = ap is_some is
none_found d id a (Some old) is made = absurd (cc)

pub sets_nothing : (has_room : Bool) (d new : Documents) (id : List ℕ) (a : AssetInformation) (found : Option Shell)
    → map.get d.shells (encode_utf8_all id) ≡ found
    → None ≡ option_map (with_asset a) found → new ≡ d
    → IsDecision has_room d (SetAsset id a) new (decision.Refused (NotFound (absent_of Shells)))
sets_nothing has_room d new id a found is made same =
    misses has_room d new (SetAsset id a) Shells id refl (none_found d id a found is made) same
