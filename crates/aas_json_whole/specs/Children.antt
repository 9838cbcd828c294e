-- Children that are whole below an element, where so many levels are left. This profile's own words.
use Rattle.std.specs.Prelude.{ℕ, ◌&&◌, Bool}
use Rattle.aas_json_table.specs.TooDeep.{Levels, limits}
use Rattle.aas_json_mapping.specs.Whole.{admits, is_whole_child, placed_over, Placed, whole_common, whole_payload}
use Rattle.aas_model.specs.declared.element.Element.{Element, fold-Element, out-Element}
use Rattle.aas_model.specs.declared.payload.Payload.{Payload}

-- the limits, with so many levels left for elements
abbrev pub elements_left : ℕ → Levels
elements_left n = record limits { elements = n }

-- what an element has besides its children is whole
abbrev pub has_whole_attributes : Element → Bool
has_whole_attributes e = whole_common limits (out-Element e).common && whole_payload limits (out-Element e).payload

-- a child may stand under a parent
abbrev pub is_admitted : Payload → Element → Bool
is_admitted parent k = admits parent (fold-Element Placed placed_over k)

-- and it is whole
abbrev pub is_whole_under : ℕ → Payload → Element → Bool
is_whole_under left parent k = is_admitted parent k && is_whole_child (elements_left left) k
