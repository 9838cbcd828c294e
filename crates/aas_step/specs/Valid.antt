-- Documents that keep every constraint.
use Rattle.std.specs.Prelude.{◌≡◌, false, Some}
use Rattle.std.specs.Str.{encode_utf8_all}
use Rattle.std.specs.FinMap as map
use Rattle.aas_model.specs.declared.documents.Concept.{Concept}
use Rattle.aas_model.specs.declared.documents.Shell.{Shell}
use Rattle.aas_model.specs.declared.documents.Submodel.{Submodel}
use Rattle.aas_constraint_laws.specs.Valid.{IsValid}
use Rattle.aas_constraint_rules.specs.Faults.{Document, shell, submodel, concept}
use Rattle.aas_store.specs.Documents.{Documents, Identifier}
use Rattle.aas_step.specs.Causes.{has_too_many}
use Rattle.aas_step.specs.Made.{id_of}

-- it stands under its own identifier, is valid, and has no more elements than it may have
pub record IsValidAt (id : Identifier) (x : Document) : Type 0 where
  pub own : encode_utf8_all (id_of x) ≡ id
  pub valid : IsValid x
  pub few : has_too_many x ≡ false

pub record AreValid (d : Documents) : Type 0 where
  pub shells : (id : Identifier) (s : Shell) → map.get d.shells id ≡ Some s → IsValidAt id (shell s)
  pub submodels : (id : Identifier) (s : Submodel) → map.get d.submodels id ≡ Some s → IsValidAt id (submodel s)
  pub concepts : (id : Identifier) (c : Concept) → map.get d.concepts id ≡ Some c → IsValidAt id (concept c)
