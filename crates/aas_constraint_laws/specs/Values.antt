-- What a value update may change: the members of class V of the attribute table, except children. Which they are is this profile's own rule.
use Rattle.std.specs.Prelude.{◌≡◌}
use Rattle.aas_model.specs.declared.element.Element.{Element, roll-Element, fold-Element}
use Rattle.aas_model.specs.declared.element.Element.TheOpen.{Element-F}
pub use Rattle.aas_json_mapping.specs.Metadata.{without_values}

abbrev pub bare_over : Element-F Element → Element
bare_over f = roll-Element (record f { payload = without_values f.payload })

-- an element without its values and without those of all below it
unfoldable pub bare : Element → Element
bare = fold-Element Element bare_over

-- the same paths, kinds and roles, in themselves and below, and the same members but those of class V
abbrev pub DifferInValues : Element → Element → Type 0
DifferInValues e u = bare e ≡ bare u
