-- What is answered for a sent value.
use Rattle.std.specs.Prelude.{◌≡◌, List, [], Option, Some, None, IsSome, Bool, true, false, Result, Ok, Err, ⊤}
use Rattle.serde_json.specs.Data.{Data}
use Rattle.aas_model_names.specs.declared.modifiers.Extent.TheVariants as extent
use Rattle.aas_model.specs.declared.element.Element.{Element}
use Rattle.aas_model.specs.declared.path.PathStep.{PathStep}
use Rattle.aas_model.specs.declared.read_fault.ReadFault.{ReadFault}
use Rattle.aas_model.specs.declared.read_fault.ReadFault.TheVariants as read
use Rattle.aas_value.specs.ValueForm.{value_form}
use Rattle.aas_value_update.specs.Shape.{first_misshapen}
use Rattle.aas_value_patch.specs.declared.fault.Misfit.{Misfit}
use Rattle.aas_value_patch.specs.declared.fault.Misfit.TheVariants as misfit
use Rattle.aas_value_patch.specs.declared.preparing.ValueFault.{ValueFault}
use Rattle.aas_value_patch.specs.declared.preparing.ValueFault.TheVariants as fault

-- the value has the wrong shape where this is said
abbrev pub Refuses : Misfit → Bool → Type 0
Refuses misfit.Shape fits = fits ≡ false
Refuses misfit.NoMemory fits = ⊤

-- there is an answer for a value that fits, and none for another
abbrev pub Judges : {A : Type 0} → Result A Misfit → Bool → Type 0
Judges (Ok a) fits = fits ≡ true
Judges (Err m) fits = Refuses m fits

-- a value that can't be read has the wrong shape
abbrev pub misfit_of : ReadFault → Misfit
misfit_of read.NoMemory = misfit.NoMemory
misfit_of _ = misfit.Shape

-- what it is of an element itself
abbrev pub fault_here : Misfit → ValueFault
fault_here misfit.Shape = fault.Shape (record { steps = [] })
fault_here misfit.NoMemory = fault.NoMemory

-- why there is no patch for e and v
abbrev pub IsPatchFault : Element → Data → ValueFault → Type 0
IsPatchFault e v fault.NoValueForm = value_form extent.WithBlobValue e ≡ None
IsPatchFault e v (fault.Shape path) =
    IsSome (value_form extent.WithBlobValue e) × (first_misshapen e v ≡ Some path.steps)
IsPatchFault e v fault.NoMemory = ⊤
IsPatchFault e v _ = ⊥

-- an answer of the walk names the first misshapen element, and there is none where it came to its end
abbrev pub Shapes : {A : Type 0} → Result A ValueFault → Option (List PathStep) → Type 0
Shapes (Ok a) found = found ≡ None
Shapes (Err (fault.Shape path)) found = found ≡ Some path.steps
Shapes (Err fault.NoMemory) found = ⊤
Shapes (Err _) found = ⊥
