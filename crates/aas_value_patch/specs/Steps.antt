-- What is made of an element itself.
use Rattle.std.specs.Prelude.{◌≡◌, ℕ, true, List, Option, Result, Ok, Err}
use Rattle.serde_json.specs.Data.{Data}
use Rattle.aas_model.specs.declared.payload.Payload.{Payload}
use Rattle.aas_model.specs.declared.payload.Payload.TheVariants as p
use Rattle.aas_value_update.specs.Forms.{form_of}
use Rattle.aas_value.specs.Parts.{Part, children, fits_form}
use Rattle.aas_value_update.specs.Shape.{sent}
use Rattle.aas_value_patch.specs.Faults.{Refuses}
use Rattle.aas_value_patch.specs.Sent.{sent_by}
use Rattle.aas_value_patch.specs.Takes.{Takes}
use Rattle.aas_value_patch.specs.declared.fault.Misfit.{Misfit}
use Rattle.aas_value_patch.specs.declared.step.Step.{Step}

-- what v makes of an element with the members x, and what it sends for the children, which are the parts xs
pub record IsStep (x : Payload) (xs : List Part) (v : Data) (s : Step) : Type 0 where
  pub fits : fits_form (form_of x xs) v ≡ true
  pub takes : Takes x v s.payload
  pub kids : sent_by s.kids (children xs) ≡ sent x (children xs) v

abbrev pub Stepped : Result Step Misfit → Payload → List Part → Data → Type 0
Stepped (Ok s) x xs v = IsStep x xs v s
Stepped (Err m) x xs v = Refuses m (fits_form (form_of x xs) v)

-- the content type t and the value u become t' and u' by v, as those of a File; a Blob has the same form
pub record TakesContent (t u : Option (List ℕ)) (v : Data) (t' u' : Option (List ℕ)) : Type 0 where
  pub fits : (xs : List Part) → fits_form (form_of (p.File t u) xs) v ≡ true
  pub takes : Takes (p.File t u) v (p.File t' u')

abbrev pub RefusesContent : Option (List ℕ) → Option (List ℕ) → Data → Misfit → Type 0
RefusesContent t u v m = (xs : List Part) → Refuses m (fits_form (form_of (p.File t u) xs) v)
