-- What a repository holds, as its callers see it.
use Rattle.std.specs.Prelude.{Bool, refl}
use Rattle.std.specs.Coded.{Coded, code_by, coded×, coded_bool, coded_list, coded_ℕ}
use Rattle.std.specs.FinMap as map
use Rattle.aas_model.specs.contracts.documents.Concept as concept
use Rattle.aas_model.specs.contracts.documents.Shell as shell
use Rattle.aas_model.specs.contracts.documents.Submodel as submodel
use Rattle.aas_model.specs.declared.documents.Concept.{Concept}
use Rattle.aas_model.specs.declared.documents.Shell.{Shell}
use Rattle.aas_model.specs.declared.documents.Submodel.{Submodel}
use Rattle.aas_outside.specs.Keeper.{KeeperState}
use Rattle.aas_rule.specs.State.{MachineState}
use Rattle.aas_store.specs.Documents.{Documents, Map}

-- the documents, the keeper of the commands that made them, and whether that has failed
pub record Held (K : Type 0) : Type 0 where
  pub documents : Documents
  pub keeper : K
  pub stopped : Bool

-- what it tells as a machine, by what its keeper tells
abbrev pub machine_state : {K I : Type 0} → (K → KeeperState I) → Held K → MachineState Documents I
machine_state state held =
    let keeper = state held.keeper in
    record {
      held = record {
        documents = held.documents;
        kept = keeper.kept;
        moment = keeper.moment;
        left_at = keeper.left_at;
      };
      room = keeper.room_behind;
      faults = keeper.faults;
      stopped = held.stopped;
    }

-- ---- the codes by which a proof tells these apart

abbrev map_code : {X : Type 0} → Coded X → Coded (Map X)
map_code x = map.code (coded_list coded_ℕ) x

abbrev documents_code : Coded Documents
documents_code = code_by (Map Shell × (Map Submodel × Map Concept))
    (coded× (map_code shell.the_row.coded) (coded× (map_code submodel.the_row.coded) (map_code concept.the_row.coded)))
    (λ d. (d.shells, (d.submodels, d.concepts)))
    (λ p. record { shells = p.0; submodels = p.1.0; concepts = p.1.1 }) (λ _. refl)

abbrev pub held_code : {K : Type 0} → Coded K → Coded (Held K)
held_code {K = K} keeper = code_by (Documents × (K × Bool)) (coded× documents_code (coded× keeper coded_bool))
    (λ held. (held.documents, (held.keeper, held.stopped)))
    (λ p. record { documents = p.0; keeper = p.1.0; stopped = p.1.1 }) (λ _. refl)
