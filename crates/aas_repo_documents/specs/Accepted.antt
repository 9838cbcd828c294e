-- A change of a submodel that nothing but want of room refuses. This profile's own rule.
use Rattle.std.specs.Prelude.{◌≡◌, false, List, None}
use Rattle.aas_constraint_laws.specs.Valid.{IsValid}
use Rattle.aas_constraint_rules.specs.Faults.{submodel}
use Rattle.aas_model.specs.declared.documents.Submodel.{Submodel}
use Rattle.aas_step.specs.Causes.{Cause, first_of, has_too_many}

-- no cause in what is there refuses it, and what it makes is valid and has no more elements than it may have
pub record IsAccepted (causes_in : Submodel → List Cause) (changed : Submodel → Submodel) (s : Submodel) : Type 0 where
  pub no_cause : first_of (causes_in s) ≡ None
  pub valid : IsValid (submodel (changed s))
  pub few : has_too_many (submodel (changed s)) ≡ false
