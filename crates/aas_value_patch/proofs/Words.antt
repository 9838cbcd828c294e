-- Words by their names.
use Rattle.std.proofs.Common.{◌≡◌, ℕ, Bool, true, false, List, Option, Some, None, option_map, is_some, refl}
use Rattle.std.specs.Prelude.{if◌then◌else◌}
use Rattle.serde_json.specs.Data.{string}
use Rattle.aas_json_table.specs.Names.{has}
use Rattle.aas_model_names.specs.EntityTypeNames as entity_type
use Rattle.aas_model_names.specs.declared.enumerations.EntityType.{EntityType}
use Rattle.aas_json_members.proofs.Words.{word_is}
use Rattle.std.specs.Prelude.{◌↔◌}

pub word_judged : (s : List ℕ) (o : Option EntityType)
    → ((v : EntityType) → (o ≡ Some v) ↔ (s ≡ entity_type.name_of v)) → has entity_type.names s ≡ is_some o
word_judged s o each =
    by_test (has entity_type.names s) o (word_is entity_type.name_of entity_type.all entity_type.found s o each)
  where
    by_test : (b : Bool) (o : Option EntityType)
        → option_map (λ v. string (entity_type.name_of v)) o ≡ (if b then Some (string s) else None) → b ≡ is_some o
    by_test true None e = cc
    by_test true (Some v) e = refl
    by_test false None e = refl
    by_test false (Some v) e = cc
