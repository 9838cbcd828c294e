-- What a whole element spells is good.
use Rattle.std.proofs.Common.{◌≡◌, ◌≤◌, ◌&&◌, List, [], ◌∷◌, ◌++◌, map, true, is_some, Option, Some, None, option_map, refl, sym, ◌∙◌, subst, true≢false}
use Rattle.std.specs.List.{list_all}
use Rattle.serde_json.specs.Data.{Data}
use Rattle.aas_model_names.specs.DirectionNames as direction
use Rattle.aas_model_names.specs.ElementNameNames as element_name
use Rattle.aas_model_names.specs.EntityTypeNames as entity_type
use Rattle.aas_model_names.specs.StateOfEventNames as state_of_event
use Rattle.aas_model_names.specs.ValueTypeNames as value_type
use Rattle.aas_json_table.specs.Table.{element, data_element, one, reference, referable, has_semantics, qualifiable}
use Rattle.aas_json_table.specs.TooDeep.{Levels, enter}
use Rattle.aas_json_table.specs.Canonical.{are_there}
use Rattle.aas_json_table.specs.Spelled.{attribute, spelled}
use Rattle.aas_model.specs.declared.reference.Reference.{Reference}
use Rattle.aas_model.specs.declared.common.Common.{Common}
use Rattle.aas_model.specs.declared.element.Element.{Element}
use Rattle.aas_model.specs.declared.payload.Payload.{Payload}
use Rattle.aas_model.specs.declared.payload.Payload.TheVariants as p
use Rattle.aas_json_spelling.specs.Lists.{Each, most}
use Rattle.aas_json_spelling.specs.Good.{Good}
use Rattle.aas_json_spelling.proofs.Lists.{each_from_most}
use Rattle.aas_lemmas.proofs.Truth.{and_left, and_right}
use Rattle.aas_json_spelling.proofs.Objects.{AreGood}
use Rattle.aas_json_spelling.proofs.MemberTypes.{EachGood, none_good, text_good, flag_good, named_good, named_if_good}
use Rattle.aas_reference.specs.Whole.{whole_and_there}
use Rattle.aas_reference.specs.Spelling.{spell_reference}
use Rattle.aas_json_mapping.specs.Elements.{is_input, is_output, is_inoutput, model_type_of, spell_element}
use Rattle.aas_json_mapping.specs.Whole.{whole_kept, whole_semantics, whole_extension, whole_qualifier, whole_common, whole_payload, has_whole_parts, is_annotation, is_placed, element_levels}
use Rattle.aas_json_mapping.proofs.Rows.{good_with, object_made}
use Rattle.aas_json_mapping.proofs.Facts.{all_good, reference_facts, reference_if_good}
use Rattle.aas_json_mapping.proofs.Parts.{semantics_good, qualifier_facts, specific_asset_id_facts, lang_texts_good}
use Rattle.aas_json_mapping.proofs.Referable.{Referable, referable_good}
use Rattle.aas_json_mapping.proofs.Elements.{by_children, attributes_at, seen, parts_at, levels_at, each_mapped, Stands, standing, level_left}
use Rattle.aas_json_mapping.proofs.Kids.{children_good, variables_good}
use Rattle.aas_json_mapping.proofs.ElementRows.{own_rows, all_rows, spell_at, rows_at, as_data}

-- ---- what every element has

abbrev pub referable_of : Common → Referable
referable_of c = record {
  category = c.category;
  description = c.description;
  display_name = c.display_name;
  extensions = c.extensions;
  id_short = c.id_short;
  embedded_data_specifications = c.embedded_data_specifications;
}

-- the parts of wholeness of what every element has
pub record WholeCommon (l : Levels) (c : Common) : Type 0 where
  pub extensions : list_all (whole_extension l) c.extensions ≡ true
  pub embedded : whole_kept l c.embedded_data_specifications ≡ true
  pub semantics : whole_semantics l c.semantics ≡ true
  pub qualifiers : list_all (whole_qualifier l) c.qualifiers ≡ true

pub whole_parts : (l : Levels) (c : Common) → whole_common l c ≡ true → WholeCommon l c
whole_parts l c w =
    let e = list_all (whole_extension l) c.extensions in
    let k = whole_kept l c.embedded_data_specifications in
    let s = whole_semantics l c.semantics in
    let q = list_all (whole_qualifier l) c.qualifiers in
    let three = and_left (e && k && s) q w in
    let two = and_left (e && k) s three in
    record { extensions = and_left e k two; embedded = and_right e k two; semantics = and_right (e && k) s three; qualifiers = and_right (e && k && s) q w }

-- ---- what each kind has of its own

-- a reference that must be there
there_good : (l : Levels) (o : Option Reference) → whole_and_there l o ≡ true → Good l (one reference) (option_map spell_reference o)
there_good l None w = none_good l (one reference)
there_good l (Some r) w = reference_facts.good l r w

reference_there : (l : Levels) (o : Option Reference) → whole_and_there l o ≡ true → is_some (option_map spell_reference o) ≡ true
reference_there l None w = absurd (true≢false (sym w))
reference_there l (Some r) w = refl

something_there : {A : Type 0} (spell : A → Data) (o : Option A) → is_some o ≡ true → is_some (option_map spell o) ≡ true
something_there spell None e = absurd (true≢false (sym e))
something_there spell (Some x) e = refl

own_there : (l : Levels) (c : Common) (x : Payload) (ks : List Element) → whole_payload l x ≡ true → are_there (own_rows x) (attribute (attributes_at c x ks)) ≡ true
own_there l c (p.Property t v i) ks w = refl
own_there l c (p.MultiLanguageProperty v i) ks w = refl
own_there l c (p.Range t min max) ks w = refl
own_there l c (p.File t v) ks w = rw (something_there _ t w) refl
own_there l c (p.Blob t v) ks w = rw (something_there _ t w) refl
own_there l c (p.ReferenceElement v) ks w = refl
own_there l c (p.RelationshipElement first second) ks w =
    let a = and_left (whole_and_there l first) (whole_and_there l second) w in
    let b = and_right (whole_and_there l first) (whole_and_there l second) w in
    rw (reference_there l first a, reference_there l second b) refl
own_there l c (p.AnnotatedRelationshipElement first second) ks w =
    let a = and_left (whole_and_there l first) (whole_and_there l second) w in
    let b = and_right (whole_and_there l first) (whole_and_there l second) w in
    rw (reference_there l first a, reference_there l second b) refl
own_there l c (p.Entity t g ids) ks w = rw (something_there _ t (and_left (is_some t) _ w)) refl
own_there l c (p.BasicEventElement observed d s topic broker last min max) ks w = rw (reference_there l observed (and_left (whole_and_there l observed) _ w)) refl
own_there l c p.Capability ks w = refl
own_there l c p.Operation ks w = refl
own_there l c p.SubmodelElementCollection ks w = refl
own_there l c (p.SubmodelElementList o s t v) ks w = refl

annotations_good : (l : Levels) (first second : Option Reference) (ks : List Element) → EachGood l (one element) spell_element ks → Each (Stands (p.AnnotatedRelationshipElement first second)) ks
    → EachGood l (one data_element) spell_element ks
annotations_good l first second [] good s = tt
annotations_good l first second (k ∷ ks) good s = (as_data l k (and_right (is_annotation (seen k).role) (seen k).is_data s.0.admitted) good.0, annotations_good l first second ks good.1 s.1)

own_good : (l : Levels) (c : Common) (x : Payload) (ks : List Element) → whole_payload l x ≡ true → EachGood l (one element) spell_element ks → Each (Stands x) ks → AreGood l (own_rows x) (attribute (attributes_at c x ks))
own_good l c (p.Property t v i) ks w kids s = (named_good l value_type.name_of value_type.all value_type.found t, (text_good l v, (reference_if_good l i w, tt)))
own_good l c (p.MultiLanguageProperty v i) ks w kids s = (lang_texts_good l v, (reference_if_good l i w, tt))
own_good l c (p.Range t min max) ks w kids s = (named_good l value_type.name_of value_type.all value_type.found t, (text_good l min, (text_good l max, tt)))
own_good l c (p.File t v) ks w kids s = (text_good l t, (text_good l v, tt))
own_good l c (p.Blob t v) ks w kids s = (text_good l t, (text_good l v, tt))
own_good l c (p.ReferenceElement v) ks w kids s = (reference_if_good l v w, tt)
own_good l c (p.RelationshipElement first second) ks w kids s =
    (there_good l first (and_left (whole_and_there l first) _ w), (there_good l second (and_right (whole_and_there l first) _ w), tt))
own_good l c (p.AnnotatedRelationshipElement first second) ks w kids s = (
  there_good l first (and_left (whole_and_there l first) _ w),
  (there_good l second (and_right (whole_and_there l first) _ w), (children_good l data_element ks (annotations_good l first second ks kids s), tt)),
)
own_good l c (p.Entity t g ids) ks w kids s = (
  named_if_good l entity_type.name_of entity_type.all entity_type.found t,
  (text_good l g, (all_good specific_asset_id_facts l ids (and_right (is_some t) _ w), (children_good l element ks kids, tt))),
)
own_good l c (p.BasicEventElement observed d s topic broker last min max) ks w kids stands = (
  there_good l observed (and_left (whole_and_there l observed) _ w),
  (
    named_good l direction.name_of direction.all direction.found d,
    (
      named_good l state_of_event.name_of state_of_event.all state_of_event.found s,
      (text_good l topic, (reference_if_good l broker (and_right (whole_and_there l observed) _ w), (text_good l last, (text_good l min, (text_good l max, tt))))),
    ),
  ),
)
own_good l c p.Capability ks w kids s = tt
own_good l c p.Operation ks w kids s = (variables_good l is_input ks kids, (variables_good l is_output ks kids, (variables_good l is_inoutput ks kids, tt)))
own_good l c p.SubmodelElementCollection ks w kids s = (children_good l element ks kids, tt)
own_good l c (p.SubmodelElementList o s t v) ks w kids stands = (
  flag_good l o,
  (
    reference_if_good l s w,
    (
      named_good l element_name.name_of element_name.all element_name.found t,
      (named_if_good l value_type.name_of value_type.all value_type.found v, (children_good l element ks kids, tt)),
    ),
  ),
)

-- ---- elements

abbrev pub IsGood : Element → Type 0
IsGood e = (l : Levels) → has_whole_parts l e ≡ true → is_placed e ≡ true → element_levels e ≤ l.elements → Good l (one element) (Some (spell_element e))

level_good : (l inner : Levels) (c : Common) (x : Payload) (ks : List Element) → enter element l ≡ Some inner → WholeCommon inner c → whole_payload inner x ≡ true → EachGood inner (one element) spell_element ks → Each (Stands x) ks
    → Good l (one element) (Some (spelled (all_rows x) (attributes_at c x ks)))
level_good l inner c x ks entered common payload kids s =
    let g = attribute (attributes_at c x ks) in
    object_made element l inner (all_rows x) g entered (rows_at c x ks) (own_there inner c x ks payload)
    (good_with inner referable (has_semantics ++ (qualifiable ++ own_rows x)) g (referable_good inner (model_type_of x) (referable_of c) common.extensions common.embedded)
    (good_with inner has_semantics (qualifiable ++ own_rows x) g (semantics_good inner c.semantics common.semantics)
    (all_good qualifier_facts inner c.qualifiers common.qualifiers, own_good inner c x ks payload kids s)))

kids_good : (l : Levels) (x : Payload) (ks : List Element) → Each IsGood ks → Each (λ k. has_whole_parts l k ≡ true) ks → Each (Stands x) ks → Each (λ k. element_levels k ≤ l.elements) ks → EachGood l (one element) spell_element ks
kids_good l x [] h w s low = tt
kids_good l x (k ∷ ks) h w s low = (h.0 l w.0 s.0.placed low.0, kids_good l x ks h.1 w.1 s.1 low.1)

-- What a whole element spells is good, where there are levels for it.
pub element_good : (e : Element) → IsGood e
element_good = by_children IsGood (λ r c x ks h l w placed low.
    let left = level_left l (most (map element_levels ks)) (subst (λ n. n ≤ l.elements) (levels_at r c x ks) low) in
    let inner : Levels = record l { elements = left.0 } in
    let s = (standing r c x ks placed).each in
    let common = whole_common l c in
    let payload = whole_payload l x in
    let kids = list_all (λ b. b) (map (has_whole_parts l) ks) in
    let all : common && payload && kids ≡ true = sym (parts_at l r c x ks) ∙ w in
    let own = and_left (common && payload) kids all in
    let below = each_mapped (λ b. b) (has_whole_parts l) ks (and_right (common && payload) kids all) in
    subst (λ d. Good l (one element) (Some d)) (sym (spell_at r c x ks))
    (level_good l inner c x ks left.1 (whole_parts inner c (and_left common payload own)) (and_right common payload own)
    (kids_good inner x ks h below s (each_from_most element_levels left.0 ks left.2)) s))
