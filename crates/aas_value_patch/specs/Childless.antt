-- A value laid over an element whose value form shows no children.
use Rattle.std.specs.Prelude.{◌≡◌, true, false, List, [], ◌∷◌, ⊤}
use Rattle.serde_json.specs.Data.{Data}
use Rattle.aas_model.specs.declared.patch.PatchRow.{PatchRow}
use Rattle.aas_model.specs.declared.payload.Payload.{Payload}
use Rattle.aas_value_update.specs.Forms.{form_of}
use Rattle.aas_value.specs.Parts.{Part, fits_form}
use Rattle.aas_value_patch.specs.Takes.{Takes}
use Rattle.aas_value_patch.specs.declared.preparing.ValueFault.{ValueFault}
use Rattle.aas_value_patch.specs.declared.preparing.ValueFault.TheVariants as fault

-- one row, for the element itself
abbrev pub row_of : Payload → List PatchRow
row_of x = record { rank = 0; payload = x } ∷ []

-- v fits x, and these rows make of it what v makes of it
pub record IsLaid (x : Payload) (v : Data) (rows : List PatchRow) : Type 0 where
  pub payload : Payload
  pub row : rows ≡ row_of payload
  pub fits : (xs : List Part) → fits_form (form_of x xs) v ≡ true
  pub takes : Takes x v payload

abbrev pub RefusesLaying : Payload → Data → ValueFault → Type 0
RefusesLaying x v (fault.Shape path) = (path.steps ≡ []) × ((xs : List Part) → fits_form (form_of x xs) v ≡ false)
RefusesLaying x v fault.NoMemory = ⊤
RefusesLaying x v _ = ⊥
