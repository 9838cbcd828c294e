-- Elements that a path doesn't lead to (IDTA-01002-3-0, idShortPath).
use Rattle.std.specs.Prelude.{◌≡◌, List, take}
use Rattle.aas_command.specs.declared.refusal.Absent.TheVariants as absent
use Rattle.aas_command.specs.declared.refusal.Refusal.{Refusal}
use Rattle.aas_command.specs.declared.refusal.Refusal.TheVariants as refused
use Rattle.aas_model.specs.declared.path.PathStep.{PathStep}
use Rattle.aas_store.specs.declared.lack.Lack.{Lack}
use Rattle.aas_store.specs.declared.lack.Lack.TheVariants as lack

-- the refusal says what there isn't
abbrev pub IsRefusalOf : List PathStep → Lack → Refusal → Type 0
IsRefusalOf p lack.NoSubmodel r = r ≡ refused.NotFound absent.Submodel
IsRefusalOf p (lack.NoElement m) r = r ≡ refused.NotFound (absent.Element (record { steps = take m.steps p }))
IsRefusalOf p lack.NoMemory r = r ≡ refused.NoMemory
