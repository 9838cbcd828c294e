-- What is told of an instance beside its template, a submodel of kind Template. Its paths are those of the instance. This profile's own rule.
use Rattle.std.specs.Prelude.{ℕ, ◌+◌, Bool, true, false, ◌&&◌, if◌then◌else◌, List, [], ◌∷◌, ◌++◌, length, map}
use Rattle.std.specs.Prelude.{filter, flat_map, bytes_eq, Option, Some, None}
use Rattle.aas_model_names.specs.ElementNameNames as element_name
use Rattle.aas_model_names.specs.declared.kind.ElementName.{ElementName}
use Rattle.aas_model_names.specs.declared.value_type.ValueType.{ValueType}
use Rattle.aas_model_names.specs.KindNames as kind
use Rattle.aas_model_names.specs.ValueTypeNames as value_type
use Rattle.aas_model.specs.Payload.{kind_of}
use Rattle.aas_model.specs.declared.documents.Submodel.{Submodel}
use Rattle.aas_model.specs.declared.element.Element.{Element, fold-Element}
use Rattle.aas_model.specs.declared.element.Element.TheOpen.{Element-F}
use Rattle.aas_model.specs.declared.path.PathStep.{PathStep}
use Rattle.aas_model.specs.declared.path.PathStep.TheVariants.{Name, Place}
use Rattle.aas_model.specs.declared.payload.Payload.{Payload}
use Rattle.aas_model.specs.declared.reference.Reference.{Reference}
use Rattle.aas_reference.specs.Same.{same}
use Rattle.aas_path_trees.specs.Children.{kids_of}
use Rattle.aas_constraint_rules.specs.Rules.{list_type, list_value_type, value_type_of}
use Rattle.aas_constraint_rules.specs.Sites.{Own, own_of, is_list}
use Rattle.aas_template.specs.Belonging.{belongs, id_short}
use Rattle.aas_template.specs.Cardinality.{allows, cardinality}
use Rattle.aas_template.specs.declared.cardinality.Cardinality.TheVariants.{One, ZeroToMany}
use Rattle.aas_template.specs.declared.difference.Difference.{Difference}
use Rattle.aas_template.specs.declared.difference.Reason.{Reason}
use Rattle.aas_template.specs.declared.difference.Reason.TheVariants.{KindDiffers, TypeDiffers, SemanticDiffers}
use Rattle.aas_template.specs.declared.difference.Reason.TheVariants.{CountDiffers}

-- ---- words

abbrev pub difference : List PathStep → Reason → Difference
difference p r = record { path = record { steps = p }; reason = r }

-- nothing where the test holds, else that it doesn't
abbrev pub unless : Bool → Difference → List Difference
unless true d = []
unless false d = d ∷ []

-- the same difference, seen from one step above
abbrev pub under : PathStep → Difference → Difference
under s d = record d { path = record { steps = s ∷ d.path.steps } }

-- both are absent, or the same
abbrev pub same_if_any : {X : Type 0} → (X → X → Bool) → Option X → Option X → Bool
same_if_any same None None = true
same_if_any same None (Some y) = false
same_if_any same (Some x) None = false
same_if_any same (Some x) (Some y) = same x y

-- ---- an element alone

abbrev pub same_kind : Payload → Payload → Bool
same_kind t k = bytes_eq (kind.name_of (kind_of t)) (kind.name_of (kind_of k))

abbrev pub same_value_type : Option ValueType → Option ValueType → Bool
same_value_type = same_if_any (λ x y. bytes_eq (value_type.name_of x) (value_type.name_of y))

abbrev pub same_element_type : Option ElementName → Option ElementName → Bool
same_element_type = same_if_any (λ x y. bytes_eq (element_name.name_of x) (element_name.name_of y))

-- valueType of Property and Range, typeValueListElement and valueTypeListElement
abbrev pub same_types : Payload → Payload → Bool
same_types t k =
    same_value_type (value_type_of t) (value_type_of k) && same_element_type (list_type t) (list_type k)
    && same_value_type (list_value_type t) (list_value_type k)

-- the semanticId k is that of the template, where this has one
abbrev pub means_the_same : Option Reference → Option Reference → Bool
means_the_same None k = true
means_the_same (Some r) None = false
means_the_same (Some r) (Some s) = same r s

-- ---- an element and all below it

-- an element of a template: its own attributes, and how an element of an instance differs from it
pub record Compared : Type 0 where
  pub own : Own
  pub differences_of : Element → List Difference

-- of the children of a list, from place n on, beside the one element that the template wants of each
abbrev pub list_differences : Compared → ℕ → List Element → List Difference
list_differences t n [] = []
list_differences t n (k ∷ ks) = map (under (Place n)) (t.differences_of k) ++ list_differences t (n + 1) ks

-- of the children of a list, of which each is to be as this one
abbrev pub differences_from_one : Compared → List Element → List Difference
differences_from_one t ks =
    unless (allows (cardinality ZeroToMany t.own.common.qualifiers) (length ks)) (difference [] CountDiffers)
    ++ list_differences t 0 ks

-- the first child of the list in the template tells what each child in the instance is to be
abbrev pub differences_in_list : List Compared → List Element → List Difference
differences_in_list [] ks = []
differences_in_list (t ∷ more) ks = differences_from_one t ks

-- of one that belongs to t
abbrev pub named_differences : Compared → Element → List Difference
named_differences t k = map (under (Name (id_short (own_of k)))) (t.differences_of k)

-- of those that belong to t
abbrev pub group_differences : Compared → List Element → List Difference
group_differences t ks =
    unless (allows (cardinality One t.own.common.qualifiers) (length ks))
    (difference (Name (id_short t.own) ∷ []) CountDiffers)
    ++ flat_map (named_differences t) ks

-- those of ks that belong to t, one of the children ts of the template
abbrev pub belonging : List Own → Own → List Element → List Element
belonging ts t ks = filter (λ k. belongs ts t (own_of k)) ks

-- of the children of anything but a list
abbrev pub differences_among : List Compared → List Element → List Difference
differences_among ts ks = flat_map (λ t. group_differences t (belonging (map (λ u. u.own) ts) t.own ks)) ts

abbrev pub differences_below : Payload → List Compared → List Element → List Difference
differences_below t ts ks = if is_list t then differences_in_list ts ks else differences_among ts ks

-- of the element k beside one of a template, which has these attributes and children
abbrev pub differences_beside : Own → List Compared → Element → List Difference
differences_beside o ts k =
    if same_kind o.payload (own_of k).payload
    then unless (same_types o.payload (own_of k).payload) (difference [] TypeDiffers)
    ++ unless (means_the_same o.common.semantics.semantic_id (own_of k).common.semantics.semantic_id)
    (difference [] SemanticDiffers)
    ++ differences_below o.payload ts (kids_of k)
    else difference [] KindDiffers ∷ []

abbrev pub own_over : Element-F Compared → Own
own_over f = record { common = f.common; payload = f.payload; role = f.role }

abbrev pub compared_over : Element-F Compared → Compared
compared_over f = record { own = own_over f; differences_of = differences_beside (own_over f) f.kids }

unfoldable pub compared : Element → Compared
compared = fold-Element Compared compared_over

-- of k, of an instance, beside t, of a template
abbrev pub differences : Element → Element → List Difference
differences t k = (compared t).differences_of k

-- ---- submodels

abbrev pub submodel_differences : Submodel → Submodel → List Difference
submodel_differences t d =
    unless (means_the_same t.semantics.semantic_id d.semantics.semantic_id) (difference [] SemanticDiffers)
    ++ differences_among (map compared t.kids) d.kids
