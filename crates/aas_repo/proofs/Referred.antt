-- What is made of a whole shell by a change of its references is whole.
use Rattle.std.proofs.Common.{◌≡◌, true, List, [], ◌∷◌, Option, Some, None, Ok, refl, subst}
use Rattle.std.specs.Prelude.{ℕ}
use Rattle.std.specs.FinMap as map
use Rattle.std.specs.Option.{option_map_or}
use Rattle.std.specs.Str.{encode_utf8_all}
use Rattle.aas_constraint_rules.specs.Faults.{shell}
use Rattle.aas_json_mapping.specs.Whole.{is_whole_shell}
use Rattle.aas_json_table.specs.TooDeep.{limits}
use Rattle.aas_model.specs.declared.documents.Shell.{Shell}
use Rattle.aas_store.specs.Documents.{Documents}
use Rattle.aas_step.specs.Causes.{Cause}
use Rattle.aas_step.specs.Valid.{AreValid}
use Rattle.aas_repo.specs.Decisions.{IsChangedShell}

module _ (d : Documents) (id : List ℕ) (change : Shell → Shell) (new : Shell) (valid : AreValid d)
    (keeps : (s : Shell) → is_whole_shell limits s ≡ true → is_whole_shell limits (change s) ≡ true) where
  by_shell : (found : Option Shell) → map.get d.shells (encode_utf8_all id) ≡ found
      → option_map_or (λ s. shell (change s) ∷ []) found [] ≡ shell new ∷ [] → is_whole_shell limits new ≡ true
  by_shell None is made = absurd (cc)
  by_shell (Some s) is made =
      let same : change s ≡ new = cc in
      subst (λ (s : Shell). is_whole_shell limits s ≡ true) same
      (keeps s (valid.shells (encode_utf8_all id) s is).valid.whole)

  pub stays_whole : (cause_in : Shell → Cause)
      → IsChangedShell d id cause_in change (Ok new) → is_whole_shell limits new ≡ true
  stays_whole cause_in is = by_shell (map.get d.shells (encode_utf8_all id)) refl is.1
