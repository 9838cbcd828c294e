-- The rows of each kind of element: those of every element, and its own.
use Rattle.std.proofs.Common.{◌≡◌, List, [], ◌++◌, true, Some, unwrap_or, codes, refl, sym, ap, ap₂, ◌∙◌, subst, true≢false}
use Rattle.serde_json.specs.Data.{string, object, Members}
use Rattle.serde_json.specs.Find.{get_member}
use Rattle.aas_json_table.specs.Table.{Sort, element, data_element, one, Row, referable, has_semantics, qualifiable, kinds, model_types}
use Rattle.aas_json_table.specs.Rows.{find, sorted, rows_of}
use Rattle.aas_json_table.specs.Misfit.{misfit_object, misfit_members}
use Rattle.aas_json_table.specs.TooDeep.{Levels, enter, within, too_deep_object, too_deep_members}
use Rattle.aas_json_table.specs.Canonical.{members_by, canonical_object, canonical_member}
use Rattle.aas_json_table.specs.Spelled.{attribute, spelled}
use Rattle.aas_model.specs.declared.common.Common.{Common}
use Rattle.aas_model.specs.declared.element.Element.{Element, out-Element}
use Rattle.aas_model.specs.declared.element.Role.{Role}
use Rattle.aas_model.specs.declared.payload.Payload.{Payload}
use Rattle.aas_model.specs.declared.payload.Payload.TheVariants as p
use Rattle.aas_json_spelling.specs.Good.{Good}
use Rattle.aas_json_spelling.proofs.Rows.{rising}
use Rattle.aas_json_mapping.specs.Elements.{model_type_of, spell_element}
use Rattle.aas_model_names.specs.KindNames.{is_data_element}
use Rattle.aas_model.specs.Payload.{kind_of}
use Rattle.aas_json_mapping.proofs.Rows.{IsModel, typed_rise, typed_name, typed_rows}
use Rattle.aas_json_mapping.proofs.Elements as level
use Rattle.aas_json_mapping.proofs.Elements.{made, made_out, attributes_at, seen, seen_data}

-- the members of a kind's own
abbrev pub own_rows : Payload → List Row
own_rows x = unwrap_or (find (model_type_of x) kinds) []

abbrev pub all_rows : Payload → List Row
all_rows x = referable ++ (has_semantics ++ (qualifiable ++ own_rows x))

pub found_rows : (x : Payload) → find (model_type_of x) (model_types element) ≡ Some (all_rows x)
found_rows (p.Property t v i) = refl
found_rows (p.MultiLanguageProperty v i) = refl
found_rows (p.Range t min max) = refl
found_rows (p.File t v) = refl
found_rows (p.Blob t v) = refl
found_rows (p.ReferenceElement v) = refl
found_rows (p.RelationshipElement first second) = refl
found_rows (p.AnnotatedRelationshipElement first second) = refl
found_rows (p.Entity t g ids) = refl
found_rows (p.BasicEventElement observed d s topic broker last min max) = refl
found_rows p.Capability = refl
found_rows p.Operation = refl
found_rows p.SubmodelElementCollection = refl
found_rows (p.SubmodelElementList o s t v) = refl

found_data_rows : (x : Payload) → is_data_element (kind_of x) ≡ true → find (model_type_of x) (model_types data_element) ≡ Some (all_rows x)
found_data_rows (p.Property t v i) e = refl
found_data_rows (p.MultiLanguageProperty v i) e = refl
found_data_rows (p.Range t min max) e = refl
found_data_rows (p.File t v) e = refl
found_data_rows (p.Blob t v) e = refl
found_data_rows (p.ReferenceElement v) e = refl
found_data_rows x e = absurd (true≢false (sym e))

-- the rows of an element after those of Referable
abbrev later_rows : Payload → List Row
later_rows x = has_semantics ++ (qualifiable ++ own_rows x)

is_model : (x : Payload) → IsModel element (model_type_of x) (later_rows x)
is_model x = record { first = _; rest = _; models = refl; found = found_rows x }

pub rows_rise : (x : Payload) → rising (sorted (all_rows x)) ≡ true
rows_rise x = typed_rise element (model_type_of x) (later_rows x) (is_model x)

-- ---- one level

pub spell_at : (r : Role) (c : Common) (x : Payload) (ks : List Element) → spell_element (made r c x ks) ≡ spelled (all_rows x) (attributes_at c x ks)
spell_at r c x ks = level.spell_at r c x ks ∙ ap (λ rows. spelled (unwrap_or rows []) (attributes_at c x ks)) (found_rows x)

abbrev pub members_at : Common → Payload → List Element → Members
members_at c x ks = members_by (sorted (all_rows x)) (attribute (attributes_at c x ks))

-- what stands under modelType
pub model_type_at : (c : Common) (x : Payload) (ks : List Element)
    → get_member (codes "modelType") (members_at c x ks) ≡ Some (string (model_type_of x))
model_type_at c x ks = typed_name element (model_type_of x) (later_rows x) (is_model x) (attribute (attributes_at c x ks))

pub rows_at : (c : Common) (x : Payload) (ks : List Element) → rows_of element (members_at c x ks) ≡ Some (sorted (all_rows x))
rows_at c x ks = typed_rows element (model_type_of x) (later_rows x) (is_model x) (attribute (attributes_at c x ks)) refl

data_rows_at : (c : Common) (x : Payload) (ks : List Element) → is_data_element (kind_of x) ≡ true
    → rows_of data_element (members_at c x ks) ≡ Some (sorted (all_rows x))
data_rows_at c x ks e =
    let model : IsModel data_element (model_type_of x) (later_rows x) = record {
      first = _;
      rest = _;
      models = refl;
      found = found_data_rows x e;
    } in
    typed_rows data_element (model_type_of x) (later_rows x) model (attribute (attributes_at c x ks)) refl

-- ---- a data element is good as one exactly where it is good as an element

good_as : (l : Levels) (s t : Sort) (ms : Members) → rows_of s ms ≡ rows_of t ms → enter s l ≡ enter t l → Good l (one s) (Some (object ms)) → Good l (one t) (Some (object ms))
good_as l s t ms rows entered good = record {
  again = ap (λ x. canonical_object x (canonical_member ms)) (sym rows) ∙ good.again;
  fits = ap (λ x. misfit_object x (misfit_members ms) ms) (sym rows) ∙ good.fits;
  low = ap₂ (λ x y. within x (too_deep_object y (too_deep_members ms))) (sym entered) (sym rows) ∙ good.low;
  order = good.order;
}

spell_out : (e : Element) → spell_element e ≡ object (members_at (out-Element e).common (out-Element e).payload (out-Element e).kids)
spell_out e = let y = out-Element e in ap spell_element (sym (made_out e)) ∙ spell_at y.role y.common y.payload y.kids

same_sorts : (e : Element) → (seen e).is_data ≡ true
    → rows_of element (members_at (out-Element e).common (out-Element e).payload (out-Element e).kids) ≡ rows_of data_element (members_at (out-Element e).common (out-Element e).payload (out-Element e).kids)
same_sorts e is = let y = out-Element e in rows_at y.common y.payload y.kids ∙ sym (data_rows_at y.common y.payload y.kids (sym (seen_data e) ∙ is))

pub as_data : (l : Levels) (e : Element) → (seen e).is_data ≡ true → Good l (one element) (Some (spell_element e)) → Good l (one data_element) (Some (spell_element e))
as_data l e is good =
    let y = out-Element e in
    let ms = members_at y.common y.payload y.kids in
    subst (λ d. Good l (one data_element) (Some d)) (sym (spell_out e)) (good_as l element data_element ms (same_sorts e is) refl (subst (λ d. Good l (one element) (Some d)) (spell_out e) good))

pub as_element : (l : Levels) (e : Element) → (seen e).is_data ≡ true → Good l (one data_element) (Some (spell_element e)) → Good l (one element) (Some (spell_element e))
as_element l e is good =
    let y = out-Element e in
    let ms = members_at y.common y.payload y.kids in
    subst (λ d. Good l (one element) (Some d)) (sym (spell_out e)) (good_as l data_element element ms (sym (same_sorts e is)) refl (subst (λ d. Good l (one data_element) (Some d)) (spell_out e) good))
