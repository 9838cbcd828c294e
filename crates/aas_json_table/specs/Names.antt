-- The names that a word of the attribute table may be: those of the standard's enumerations.
use Rattle.std.specs.Prelude.{ℕ, List, [], ◌∷◌, Bool, true, false, if◌then◌else◌}
use Rattle.std.specs.Str.{bytes_eq}
pub use Rattle.aas_model_names.specs.AssetKindNames.{names as asset_kinds}
pub use Rattle.aas_model_names.specs.DirectionNames.{names as directions}
pub use Rattle.aas_model_names.specs.ElementNameNames.{names as element_names}
pub use Rattle.aas_model_names.specs.EntityTypeNames.{names as entity_types}
pub use Rattle.aas_model_names.specs.KeyTypeNames.{names as key_types}
pub use Rattle.aas_model_names.specs.ModellingKindNames.{names as modelling_kinds}
pub use Rattle.aas_model_names.specs.QualifierKindNames.{names as qualifier_kinds}
pub use Rattle.aas_model_names.specs.ReferenceTypeNames.{names as reference_types}
pub use Rattle.aas_model_names.specs.StateOfEventNames.{names as states_of_event}
pub use Rattle.aas_model_names.specs.ValueTypeNames.{names as value_types}

-- whether a text is one of some names
abbrev pub has : List (List ℕ) → List ℕ → Bool
has [] s = false
has (n ∷ ns) s = if bytes_eq s n then true else has ns s
