-- An element's own members after an update.
use Rattle.std.specs.Prelude.{◌≡◌, true, List, Some}
use Rattle.serde_json.specs.Data.{Data}
use Rattle.aas_model.specs.declared.payload.Payload.{Payload}
use Rattle.aas_constraint_laws.specs.Values.{without_values}
use Rattle.aas_value_update.specs.Forms.{form_of}
use Rattle.aas_value.specs.Parts.{Part, children, value, over, lay_form, fits_form}
use Rattle.aas_value_update.specs.Shape.{sent}
use Rattle.aas_value_update.specs.Took.{Took, NamedIn}

-- y is x with what v has for it
pub record Takes (x : Payload) (v : Data) (y : Payload) : Type 0 where
  pub rest : without_values y ≡ without_values x
  -- with children that took what v has for them, the value form is v laid over the old one
  pub form : (xs ys : List Part)
      → fits_form (form_of x xs) v ≡ true → NamedIn x xs → Took xs (sent x (children xs) v) ys
      → value (form_of y ys) ≡ over (lay_form (form_of x xs)) (value (form_of x xs)) (Some v)
