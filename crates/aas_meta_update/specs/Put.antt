-- What comes of putting metadata. This profile's own rule.
use Rattle.std.specs.Prelude.{◌≡◌, Result, Ok, Err, ⊤}
use Rattle.aas_model.specs.declared.element.Element.{Element}
use Rattle.aas_meta_update.specs.WithMetadata.{IsAlike, with_metadata}
use Rattle.aas_meta_update.specs.declared.meta_fault.MetaFault.{MetaFault}
use Rattle.aas_meta_update.specs.declared.meta_fault.MetaFault.TheVariants.{Differs, NoMemory}

-- the element with the metadata of m, which fits; or m doesn't fit
abbrev pub Puts : Element → Element → Result Element MetaFault → Type 0
Puts e m (Ok put) = IsAlike e m × (put ≡ with_metadata e m)
Puts e m (Err Differs) = ¬ IsAlike e m
Puts e m (Err NoMemory) = ⊤
