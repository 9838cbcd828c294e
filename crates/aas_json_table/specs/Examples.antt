-- What the definitions say of a few values.
use Rattle.std.specs.Prelude.{◌≡◌, ℕ, List, [], ◌∷◌, refl, codes, Option, Some, None, option_map}
use Rattle.serde_json.specs.Data.{Data, null, number, string, array, object, no_items, item, Members, no_members, member, unsigned}
use Rattle.aas_json_table.specs.Table.{MemberType, one, element, data_element, reference, submodel, concept}
use Rattle.aas_json_table.specs.Rows.{in_member, in_item, rows_of}
use Rattle.aas_json_table.specs.Misfit.{misfit}
use Rattle.aas_json_table.specs.TooDeep.{too_deep, limits}
use Rattle.aas_json_table.specs.Canonical.{canonical}
use Rattle.aas_json_table.specs.Pointer.{pointer_text}

-- the text of the first mapping fault
abbrev fault : MemberType → Data → Option (List ℕ)
fault f d = option_map pointer_text (misfit f d)

-- [] is no element
pub array_is_no_element : fault (one element) (array no_items) ≡ Some (codes "$")
array_is_no_element = refl

abbrev property : Members → Members
property ms = member (codes "modelType") (string (codes "Property")) ms

-- {"Value":"x","idShort":1,"modelType":"Property"}: V comes before i in byte order
pub value_comes_before_id_short : fault (one element) (object (member (codes "Value") (string (codes "x")) (member (codes "idShort") (number (unsigned 1)) (property no_members)))) ≡ Some (codes "/Value")
unfolding rows_of
value_comes_before_id_short = refl

-- {"modelType":"Property"}
pub value_type_is_missing : fault (one element) (object (property no_members)) ≡ Some (codes "/valueType")
unfolding rows_of
value_type_is_missing = refl

-- {"Value":null}
pub model_type_comes_first : fault (one element) (object (member (codes "Value") null no_members)) ≡ Some (codes "/modelType")
unfolding rows_of
model_type_comes_first = refl

-- {"modelType":"Capability"} as an annotation
pub annotation_is_a_data_element : fault (one data_element) (object (member (codes "modelType") (string (codes "Capability")) no_members)) ≡ Some (codes "/modelType")
unfolding rows_of
annotation_is_a_data_element = refl

-- {"foo":1,"id":"urn:c1","modelType":"ConceptDescription"}
pub unknown_member : fault (one concept) (object (member (codes "foo") (number (unsigned 1)) (member (codes "id") (string (codes "urn:c1")) (member (codes "modelType") (string (codes "ConceptDescription")) no_members)))) ≡ Some (codes "/foo")
unfolding rows_of
unknown_member = refl

-- {"embeddedDataSpecifications":[{"a/b":[null,1]}],"modelType":"Capability"}: a number in kept data
pub number_in_kept_data : misfit (one element) (object (member (codes "embeddedDataSpecifications") (array (item (object (member (codes "a/b") (array (item null (item (number (unsigned 1)) no_items))) no_members)) no_items))
    (member (codes "modelType") (string (codes "Capability")) no_members))) ≡ Some (in_member (codes "embeddedDataSpecifications") ∷ in_item 0 ∷ in_member (codes "a/b") ∷ in_item 1 ∷ [])
unfolding rows_of
number_in_kept_data = refl

-- the slash in a name
pub slash_is_escaped : pointer_text (in_member (codes "a/b~") ∷ []) ≡ codes "/a~1b~0"
slash_is_escaped = refl

-- {"extensions":[],"id":"urn:x1","modelType":"Submodel"} says {"id":"urn:x1","modelType":"Submodel"}
pub empty_list_is_absent : canonical (one submodel) (object (member (codes "extensions") (array no_items) (member (codes "id") (string (codes "urn:x1")) (member (codes "modelType") (string (codes "Submodel")) no_members))))
    ≡ Some (object (member (codes "id") (string (codes "urn:x1")) (member (codes "modelType") (string (codes "Submodel")) no_members)))
unfolding rows_of
empty_list_is_absent = refl

-- ---- levels of references

abbrev a_key : Data
a_key = object (member (codes "type") (string (codes "Submodel")) (member (codes "value") (string (codes "x")) no_members))

abbrev around : Data → Data
around d = object (member (codes "keys") (array (item a_key no_items)) (member (codes "referredSemanticId") d (member (codes "type") (string (codes "ModelReference")) no_members)))

abbrev innermost : Data
innermost = object (member (codes "keys") (array (item a_key no_items)) (member (codes "type") (string (codes "ModelReference")) no_members))

pub five_levels_fit : fault (one reference) (around (around (around (around innermost)))) ≡ None
unfolding rows_of
five_levels_fit = refl

pub five_levels_are_too_deep : option_map pointer_text (too_deep (one reference) (around (around (around (around innermost)))) limits)
    ≡ Some (codes "/referredSemanticId/referredSemanticId/referredSemanticId/referredSemanticId")
unfolding rows_of
five_levels_are_too_deep = refl

pub four_levels_are_not : too_deep (one reference) (around (around (around innermost))) limits ≡ None
unfolding rows_of
four_levels_are_not = refl

pub four_levels_are_canonical : canonical (one reference) (around (around (around innermost))) ≡ Some (around (around (around innermost)))
unfolding rows_of
four_levels_are_canonical = refl
