-- What an element has of its own: the attributes of its kind, and its children (IDTA-01001-3-0, the subclasses of SubmodelElement).
use Rattle.std.specs.Prelude.{◌≡◌, ◌&&◌, not, ℕ, List, [], Bool, true, false, codes, filter, map, Option, Some, unwrap_or, if◌then◌else◌}
use Rattle.serde_json.specs.Data.{Data}
use Rattle.aas_model_names.specs.KindNames.{name_of, is_data_element}
use Rattle.aas_model_names.specs.declared.kind.Kind.{Kind}
use Rattle.aas_model_names.specs.declared.kind.Kind.TheVariants as kind
use Rattle.aas_json_table.specs.Table.{Sort, element, data_element, operation_variable, MemberType, many, Row, kinds}
use Rattle.aas_json_table.specs.Rows.{find, sorted}
use Rattle.aas_json_table.specs.Canonical.{canonical_object}
use Rattle.aas_json_table.specs.Spelled.{spelled}
use Rattle.aas_json_mapping.specs.Elements.{Child, spelled_child, spell_variable, own_attributes, children_attribute, variables_attribute, is_input, is_output, is_inoutput}
use Rattle.aas_json_mapping.specs.Whole.{Placed, placed_over, is_member, is_annotation, is_statement, is_variable, is_placed}
use Rattle.aas_model.specs.Payload.{kind_of}
use Rattle.aas_model.specs.declared.common.Common.{Common}
use Rattle.aas_model.specs.declared.payload.Payload.{Payload}
use Rattle.aas_model.specs.declared.element.Element.{Element, fold-Element, roll-Element}
use Rattle.aas_model.specs.declared.element.Role.{Role}
use Rattle.aas_model.specs.declared.element.Role.TheVariants as role

-- ---- attributes

abbrev pub holds_elements : MemberType → Bool
holds_elements (many element) = true
holds_elements (many data_element) = true
holds_elements (many operation_variable) = true
holds_elements f = false

-- the rows of a kind's own attributes, without its children
abbrev pub own_rows : Kind → List Row
own_rows k = filter (λ r. not (holds_elements r.member_type)) (unwrap_or (find (name_of k) kinds) [])

abbrev pub spell_own : Payload → Data
spell_own p = spelled (own_rows (kind_of p)) (own_attributes p [])

-- what an object says by the own rows of a kind
abbrev pub canonical_own : Kind → (List ℕ → MemberType → Option Data) → Option Data
canonical_own k find = canonical_object (Some (sorted (own_rows k))) find

-- ---- children

-- the elements that may have a role
abbrev pub elements_under : Role → Sort
elements_under role.Annotation = data_element
elements_under r = element

-- the objects of the list that holds the children of a role
abbrev pub sort_under : Role → Sort
sort_under r = if is_variable r then operation_variable else elements_under r

abbrev pub spell_under : Role → Child → Data
spell_under r c = if is_variable r then spell_variable c else c.spelling

-- the children of an element of a kind are found
abbrev pub FindsKids : (List ℕ → MemberType → Option Data) → Kind → List Child → Type 0
FindsKids find kind.AnnotatedRelationshipElement kids = children_attribute kids ≡ find (codes "annotations") (many data_element)
FindsKids find kind.Entity kids = children_attribute kids ≡ find (codes "statements") (many element)
FindsKids find kind.Operation kids =
    (variables_attribute is_input kids ≡ find (codes "inputVariables") (many operation_variable))
    × (variables_attribute is_output kids ≡ find (codes "outputVariables") (many operation_variable))
    × (variables_attribute is_inoutput kids ≡ find (codes "inoutputVariables") (many operation_variable))
FindsKids find kind.SubmodelElementCollection kids = children_attribute kids ≡ find (codes "value") (many element)
FindsKids find kind.SubmodelElementList kids = children_attribute kids ≡ find (codes "value") (many element)
FindsKids find k kids = kids ≡ []

-- ---- places

-- what a parent sees of an element
abbrev pub seen : Element → Placed
seen = fold-Element Placed placed_over

-- a child has a role, may have it, and all below it is placed
abbrev pub suits : Role → Placed → Bool
suits role.Member c = is_member c.role && c.placed
suits role.Annotation c = is_annotation c.role && c.is_data && c.placed
suits role.Statement c = is_statement c.role && c.placed
suits role.Input c = is_input c.role && c.placed
suits role.Output c = is_output c.role && c.placed
suits role.Inoutput c = is_inoutput c.role && c.placed

-- whether an element of a kind may have a role
abbrev pub may_have : Kind → Role → Bool
may_have k role.Annotation = is_data_element k
may_have k r = true

-- any element of a kind with these children is placed
abbrev pub FitUnder : Kind → List Element → Type 0
FitUnder k kids = (c : Common) (p : Payload) (r : Role) → kind_of p ≡ k → is_placed (roll-Element (record { common = c; payload = p; role = r; kids = kids })) ≡ true

-- the children of an element of a kind are found, and each is in its place
pub record AreRead (find : List ℕ → MemberType → Option Data) (k : Kind) (kids : List Element) : Type 0 where
  pub says : FindsKids find k (map spelled_child kids)
  pub places : FitUnder k kids
