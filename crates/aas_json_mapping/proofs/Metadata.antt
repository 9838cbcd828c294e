-- Metadata forms of elements: their rows, and the facts from which the laws of their mapping follow.
use Rattle.std.proofs.Common.{◌≡◌, List, [], ◌++◌, true, Some, option_map, unwrap_or, codes, refl, sym, ap, ◌∙◌, subst}
use Rattle.serde_json.specs.Data.{string, Members}
use Rattle.serde_json.specs.Find.{get_member}
use Rattle.aas_model_names.specs.DirectionNames as direction
use Rattle.aas_model_names.specs.ElementNameNames as element_name
use Rattle.aas_model_names.specs.StateOfEventNames as state_of_event
use Rattle.aas_model_names.specs.ValueTypeNames as value_type
use Rattle.aas_json_table.specs.Table.{element, element_metadata, one, Row, referable, has_semantics, qualifiable, kinds, model_types, shown}
use Rattle.aas_json_table.specs.Rows.{find, sorted, rows_of}
use Rattle.aas_json_table.specs.TooDeep.{Levels}
use Rattle.aas_json_table.specs.Canonical.{are_there, members_by}
use Rattle.aas_json_table.specs.Spelled.{attribute, spelled}
use Rattle.aas_model.specs.declared.common.Common.{Common}
use Rattle.aas_model.specs.declared.element.Element.{Element, out-Element, out-roll-Element}
use Rattle.aas_model.specs.declared.element.Role.{Role}
use Rattle.aas_model.specs.declared.payload.Payload.{Payload}
use Rattle.aas_model.specs.declared.payload.Payload.TheVariants as p
use Rattle.aas_json_spelling.specs.Good.{Good}
use Rattle.aas_json_spelling.proofs.Objects.{AreGood, Agree, same_object}
use Rattle.aas_json_spelling.proofs.MemberTypes.{text_good, flag_good, named_good, named_if_good, same_texts_if, same_flags_if, same_words, same_words_if}
use Rattle.aas_json_mapping.specs.Elements.{model_type_of, spell_element}
use Rattle.aas_json_mapping.specs.Metadata.{without_values, IsMetadata, IsWholeMetadata, whole_shown}
use Rattle.aas_json_mapping.specs.Whole.{whole_common}
use Rattle.aas_json_mapping.proofs.Rows.{good_with, object_made, object_inside, same_rows, IsModel, typed_rise, typed_name, typed_rows, find_changed}
use Rattle.aas_json_mapping.proofs.Facts.{all_good, if_same, reference_facts, reference_if_good, reference_if_back}
use Rattle.aas_json_mapping.proofs.Parts.{semantics_good, qualifier_facts}
use Rattle.aas_json_mapping.proofs.Referable.{referable_good}
use Rattle.aas_json_mapping.proofs.Elements.{made, attributes_at}
use Rattle.aas_json_mapping.proofs.ElementRows.{own_rows, all_rows, found_rows, spell_at}
use Rattle.aas_json_mapping.proofs.ElementsGood.{referable_of, whole_parts}
use Rattle.aas_json_mapping.proofs.ElementsBack.{common_back}
use Rattle.aas_json_mapping.proofs.ElementsSame.{only_member, other_kind, same_common}

-- ---- rows

-- the members of a kind's own, without those of class V
abbrev pub shown_own : Payload → List Row
shown_own x = shown (own_rows x)

abbrev pub shown_rows : Payload → List Row
shown_rows x = referable ++ (has_semantics ++ (qualifiable ++ shown_own x))

-- the rows of a form after those of Referable
abbrev later_rows : Payload → List Row
later_rows x = has_semantics ++ (qualifiable ++ shown_own x)

is_model : (x : Payload) → IsModel element_metadata (model_type_of x) (later_rows x)
is_model x = record {
  first = _;
  rest = _;
  models = refl;
  found = find_changed shown (model_type_of x) (model_types element) ∙ ap (option_map shown) (found_rows x);
}

abbrev members_at : Common → Payload → Members
members_at c x = members_by (sorted (shown_rows x)) (attribute (attributes_at c x []))

model_type_at : (c : Common) (x : Payload) → get_member (codes "modelType") (members_at c x) ≡ Some (string (model_type_of x))
model_type_at c x =
    typed_name element_metadata (model_type_of x) (later_rows x) (is_model x) (attribute (attributes_at c x []))

rows_at : (c : Common) (x : Payload) → rows_of element_metadata (members_at c x) ≡ Some (sorted (shown_rows x))
rows_at c x =
    typed_rows element_metadata (model_type_of x) (later_rows x) (is_model x) (attribute (attributes_at c x [])) refl

-- ---- what each kind has of its own

-- An element without values and children has no member that isn't shown, and none that is shown is missing.
record Shows (c : Common) (x : Payload) : Type 0 where
  same : spelled (all_rows (without_values x)) (attributes_at c (without_values x) [])
      ≡ spelled (shown_rows (without_values x)) (attributes_at c (without_values x) [])
  there : are_there (shown_own x) (attribute (attributes_at c x [])) ≡ true

shows : (c : Common) (x : Payload) → Shows c x
shows c (p.Property t v i) = record { same = refl; there = refl }
shows c (p.MultiLanguageProperty v i) = record { same = refl; there = refl }
shows c (p.Range t min max) = record { same = refl; there = refl }
shows c (p.File t v) = record { same = refl; there = refl }
shows c (p.Blob t v) = record { same = refl; there = refl }
shows c (p.ReferenceElement v) = record { same = refl; there = refl }
shows c (p.RelationshipElement first second) = record { same = refl; there = refl }
shows c (p.AnnotatedRelationshipElement first second) = record { same = refl; there = refl }
shows c (p.Entity t g ids) = record { same = refl; there = refl }
shows c (p.BasicEventElement observed d s topic broker last min max) = record { same = refl; there = refl }
shows c p.Capability = record { same = refl; there = refl }
shows c p.Operation = record { same = refl; there = refl }
shows c p.SubmodelElementCollection = record { same = refl; there = refl }
shows c (p.SubmodelElementList o s t v) = record { same = refl; there = refl }

own_good : (l : Levels) (c : Common) (x : Payload) → whole_shown l x ≡ true → AreGood l (shown_own x) (attribute (attributes_at c x []))
own_good l c (p.Property t v i) w = (named_good l value_type.name_of value_type.all value_type.found t, (reference_if_good l i w, tt))
own_good l c (p.MultiLanguageProperty v i) w = (reference_if_good l i w, tt)
own_good l c (p.Range t min max) w = (named_good l value_type.name_of value_type.all value_type.found t, tt)
own_good l c (p.File t v) w = tt
own_good l c (p.Blob t v) w = tt
own_good l c (p.ReferenceElement v) w = tt
own_good l c (p.RelationshipElement first second) w = tt
own_good l c (p.AnnotatedRelationshipElement first second) w = tt
own_good l c (p.Entity t g ids) w = tt
own_good l c (p.BasicEventElement observed d s topic broker last min max) w = (
  named_good l direction.name_of direction.all direction.found d,
  (
    named_good l state_of_event.name_of state_of_event.all state_of_event.found s,
    (text_good l topic, (reference_if_good l broker w, (text_good l last, (text_good l min, (text_good l max, tt))))),
  ),
)
own_good l c p.Capability w = tt
own_good l c p.Operation w = tt
own_good l c p.SubmodelElementCollection w = tt
own_good l c (p.SubmodelElementList o s t v) w = (
  flag_good l o,
  (
    reference_if_good l s w,
    (named_good l element_name.name_of element_name.all element_name.found t, (named_if_good l value_type.name_of value_type.all value_type.found v, tt)),
  ),
)

own_back : (l : Levels) (c : Common) (x : Payload) → AreGood l (shown_own x) (attribute (attributes_at c x [])) → whole_shown l x ≡ true
own_back l c (p.Property t v i) good = reference_if_back l i good.1.0
own_back l c (p.MultiLanguageProperty v i) good = reference_if_back l i good.0
own_back l c (p.Range t min max) good = refl
own_back l c (p.File t v) good = refl
own_back l c (p.Blob t v) good = refl
own_back l c (p.ReferenceElement v) good = refl
own_back l c (p.RelationshipElement first second) good = refl
own_back l c (p.AnnotatedRelationshipElement first second) good = refl
own_back l c (p.Entity t g ids) good = refl
own_back l c (p.BasicEventElement observed d s topic broker last min max) good = reference_if_back l broker good.1.1.1.0
own_back l c p.Capability good = refl
own_back l c p.Operation good = refl
own_back l c p.SubmodelElementCollection good = refl
own_back l c (p.SubmodelElementList o s t v) good = reference_if_back l s good.1.0

-- What is shown decides all that isn't a value.
same_own : (c d : Common) (x y : Payload) → model_type_of x ≡ model_type_of y → Agree (shown_own x) (attribute (attributes_at c x [])) (attribute (attributes_at d y [])) → without_values x ≡ without_values y
same_own c d (p.Property t v i) (p.Property t' v' i') name agree =
    let ts = same_words value_type.name_of value_type.all value_type.found t t' agree.0 in
    let is = if_same reference_facts i i' agree.1.0 in
    λ j. without_values (p.Property (ts j) v (is j))
same_own c d (p.MultiLanguageProperty v i) (p.MultiLanguageProperty v' i') name agree =
    let is = if_same reference_facts i i' agree.0 in
    λ j. without_values (p.MultiLanguageProperty v (is j))
same_own c d (p.Range t min max) (p.Range t' min' max') name agree =
    let ts = same_words value_type.name_of value_type.all value_type.found t t' agree.0 in
    λ j. without_values (p.Range (ts j) min max)
same_own c d (p.File t v) (p.File t' v') name agree = refl
same_own c d (p.Blob t v) (p.Blob t' v') name agree = refl
same_own c d (p.ReferenceElement v) (p.ReferenceElement v') name agree = refl
same_own c d (p.RelationshipElement first second) (p.RelationshipElement first' second') name agree = refl
same_own c d (p.AnnotatedRelationshipElement first second) (p.AnnotatedRelationshipElement first' second') name agree = refl
same_own c d (p.Entity t g ids) (p.Entity t' g' ids') name agree = refl
same_own m n (p.BasicEventElement observed d s topic broker last min max) (p.BasicEventElement observed' d' s' topic' broker' last' min' max') name agree =
    let ds = same_words direction.name_of direction.all direction.found d d' agree.0 in
    let ss = same_words state_of_event.name_of state_of_event.all state_of_event.found s s' agree.1.0 in
    let topics = same_texts_if topic topic' agree.1.1.0 in
    let brokers = if_same reference_facts broker broker' agree.1.1.1.0 in
    let lasts = same_texts_if last last' agree.1.1.1.1.0 in
    let mins = same_texts_if min min' agree.1.1.1.1.1.0 in
    let maxs = same_texts_if max max' agree.1.1.1.1.1.1.0 in
    λ j. without_values (p.BasicEventElement observed (ds j) (ss j) (topics j) (brokers j) (lasts j) (mins j) (maxs j))
same_own c d p.Capability p.Capability name agree = refl
same_own c d p.Operation p.Operation name agree = refl
same_own c d p.SubmodelElementCollection p.SubmodelElementCollection name agree = refl
same_own c d (p.SubmodelElementList o s t v) (p.SubmodelElementList o' s' t' v') name agree =
    let os = same_flags_if o o' agree.0 in
    let ss = if_same reference_facts s s' agree.1.0 in
    let ts = same_words element_name.name_of element_name.all element_name.found t t' agree.1.1.0 in
    let vs = same_words_if value_type.name_of value_type.all value_type.found v v' agree.1.1.1.0 in
    λ j. without_values (p.SubmodelElementList (os j) (ss j) (ts j) (vs j))
same_own c d x y name agree = absurd (other_kind (model_type_of x) (model_type_of y) refl name)

-- ---- elements

level_good : (l : Levels) (c : Common) (x : Payload) → whole_common l c ≡ true → whole_shown l x ≡ true → Good l (one element_metadata) (Some (spelled (shown_rows x) (attributes_at c x [])))
level_good l c x common own =
    let g = attribute (attributes_at c x []) in
    let parts = whole_parts l c common in
    object_made element_metadata l l (shown_rows x) g refl (rows_at c x) (shows c x).there
    (good_with l referable (has_semantics ++ (qualifiable ++ shown_own x)) g (referable_good l (model_type_of x) (referable_of c) parts.extensions parts.embedded)
    (good_with l has_semantics (qualifiable ++ shown_own x) g (semantics_good l c.semantics parts.semantics)
    (all_good qualifier_facts l c.qualifiers parts.qualifiers, own_good l c x own)))

level_back : (l : Levels) (c : Common) (x : Payload) → Good l (one element_metadata) (Some (spelled (shown_rows x) (attributes_at c x []))) → (whole_common l c ≡ true) × (whole_shown l x ≡ true)
level_back l c x good =
    let g = attribute (attributes_at c x []) in
    let inside = object_inside element_metadata l l (shown_rows x) g refl (rows_at c x) good in
    let common = common_back l c x [] (shown_own x) inside in
    (common.0, own_back l c x common.1)

same_level : (c d : Common) (x y : Payload) → spelled (shown_rows x) (attributes_at c x []) ≡ spelled (shown_rows y) (attributes_at d y []) → (c ≡ d) × (without_values x ≡ without_values y)
same_level c d x y e =
    let ms : members_at c x ≡ members_at d y = same_object (members_at c x) (members_at d y) e in
    let types : Some (string (model_type_of x)) ≡ Some (string (model_type_of y)) = sym (model_type_at c x) ∙ ap (get_member (codes "modelType")) ms ∙ model_type_at d y in
    let name : model_type_of x ≡ model_type_of y = cc in
    let rows : shown_rows x ≡ shown_rows y = ap (λ n. referable ++ (has_semantics ++ (qualifiable ++ shown (unwrap_or (find n kinds) [])))) name in
    let agree = same_rows (shown_rows x) (attributes_at c x []) (attributes_at d y []) (typed_rise element_metadata (model_type_of x) (later_rows x) (is_model x)) (e ∙ ap (λ r. spelled r (attributes_at d y [])) (sym rows)) in
    let common = same_common c d x y [] [] (shown_own x) agree in
    (common.0, same_own c d x y name common.1)

-- ---- forms

-- a form, by what it has
abbrev pub form_of : Role → Common → Payload → Element
form_of r c x = made r c (without_values x) []

pub form_out : (e : Element) → IsMetadata e → form_of (out-Element e).role (out-Element e).common (out-Element e).payload ≡ e
form_out e m = m.form

bare_payload : (e : Element) → IsMetadata e → without_values (out-Element e).payload ≡ (out-Element e).payload
bare_payload e m =
    let y = out-Element e in
    ap (λ z. z.payload) (sym (out-roll-Element (record y { payload = without_values y.payload; kids = [] }))) ∙ ap (λ z. (out-Element z).payload) m.form

pub spell_form : (r : Role) (c : Common) (x : Payload) → spell_element (form_of r c x) ≡ spelled (shown_rows (without_values x)) (attributes_at c (without_values x) [])
spell_form r c x = spell_at r c (without_values x) [] ∙ (shows c x).same

spell_out : (e : Element) → IsMetadata e → spell_element e ≡ spelled (shown_rows (out-Element e).payload) (attributes_at (out-Element e).common (out-Element e).payload [])
spell_out e m =
    let y = out-Element e in
    ap spell_element (sym m.form) ∙ spell_form y.role y.common y.payload ∙ ap (λ x. spelled (shown_rows x) (attributes_at y.common x [])) (bare_payload e m)

pub form_good : (l : Levels) (e : Element) → IsWholeMetadata l e → Good l (one element_metadata) (Some (spell_element e))
form_good l e w =
    let y = out-Element e in subst (λ d. Good l (one element_metadata) (Some d)) (sym (spell_out e w.shape)) (level_good l y.common y.payload w.common w.own)

pub form_back : (l : Levels) (e : Element) → IsMetadata e → Good l (one element_metadata) (Some (spell_element e)) → IsWholeMetadata l e
form_back l e m good =
    let y = out-Element e in
    let back = level_back l y.common y.payload (subst (λ d. Good l (one element_metadata) (Some d)) (spell_out e m) good) in
    record { shape = m; common = back.0; own = back.1 }

pub same_form : (e f : Element) → IsMetadata e → IsMetadata f → spell_element e ≡ spell_element f → e ≡ f
same_form e f m n same =
    let y = out-Element e in
    let z = out-Element f in
    let level = same_level y.common z.common y.payload z.payload (sym (spell_out e m) ∙ same ∙ spell_out f n) in
    let roles : y.role ≡ z.role = only_member y.role m.role ∙ sym (only_member z.role n.role) in
    let cs = level.0 in
    let xs = level.1 in
    sym m.form ∙ (λ i. made (roles i) (cs i) (xs i) []) ∙ n.form
