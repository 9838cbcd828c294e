-- One level of an element: what it says, from what was found among its members.
use Rattle.std.proofs.Common.{◌≡◌, ℕ, List, [], ◌++◌, true, Option, Some, map, codes, unwrap_or, refl, ap, ◌∙◌, subst}
use Rattle.serde_json.specs.Data.{Data, string}
use Rattle.aas_model_names.specs.KindNames.{name_of}
use Rattle.aas_model_names.specs.declared.kind.Kind.{Kind}
use Rattle.aas_model_names.specs.declared.kind.Kind.TheVariants as kind
use Rattle.aas_json_table.specs.Table.{MemberType, text, Row, referable, has_semantics, qualifiable, kinds}
use Rattle.aas_json_table.specs.Rows.{find, sorted}
use Rattle.aas_json_table.specs.Canonical.{canonical_object}
use Rattle.aas_json_spelling.proofs.Rows.{rising}
use Rattle.aas_json_mapping.specs.Elements.{Child, spelled_child, spell_element, rows_for, model_type_of, own_attributes, element_attributes}
use Rattle.aas_json_mapping.proofs.Elements.{made, spell_at}
use Rattle.aas_model.specs.Payload.{kind_of}
use Rattle.aas_model.specs.declared.common.Common.{Common}
use Rattle.aas_model.specs.declared.payload.Payload.{Payload}
use Rattle.aas_model.specs.declared.payload.Payload.TheVariants as p
use Rattle.aas_model.specs.declared.element.Element.{Element}
use Rattle.aas_model.specs.declared.element.Role.{Role}
use Rattle.aas_json_read.specs.Found.{FindsCommon}
use Rattle.aas_json_read.specs.Own.{own_rows, spell_own, canonical_own, FindsKids}
use Rattle.aas_json_read.proofs.Rows.{Found, found_says, says_found}

-- ---- an element with all that its kind demands

-- the members of every element, before those of a kind's own
pub with_common : (find : List ℕ → MemberType → Option Data) (c : Common) (x : Payload) (kids : List Child) (rows : List Row) → FindsCommon find c → Some (string (model_type_of x)) ≡ find (codes "modelType") text
    → Found rows (element_attributes c x kids) find → Found (referable ++ (has_semantics ++ (qualifiable ++ rows))) (element_attributes c x kids) find
with_common find c x kids rows f name own = record {
  agree = (f.category, (f.description, (f.display_name, (f.extensions, (f.id_short, (name, (f.specifications, (f.semantics.semantic_id, (f.semantics.supplemental, (f.qualifiers, own.agree))))))))));
  there = own.there;
}

abbrev all_own : Payload → List Row
all_own x = unwrap_or (find (model_type_of x) kinds) []

found_level : (find : List ℕ → MemberType → Option Data) (c : Common) (x : Payload) (kids : List Child) → FindsCommon find c → Some (string (model_type_of x)) ≡ find (codes "modelType") text
    → Found (own_rows (kind_of x)) (own_attributes x []) find → FindsKids find (kind_of x) kids → Found (rows_for (model_type_of x)) (element_attributes c x kids) find
found_level find c (p.Property t v i) kids f name own below = with_common find c (p.Property t v i) kids (all_own (p.Property t v i)) f name (record { agree = own.agree; there = own.there })
found_level find c (p.MultiLanguageProperty v i) kids f name own below = with_common find c (p.MultiLanguageProperty v i) kids (all_own (p.MultiLanguageProperty v i)) f name (record { agree = own.agree; there = own.there })
found_level find c (p.Range t min max) kids f name own below = with_common find c (p.Range t min max) kids (all_own (p.Range t min max)) f name (record { agree = own.agree; there = own.there })
found_level find c (p.File t v) kids f name own below = with_common find c (p.File t v) kids (all_own (p.File t v)) f name (record { agree = own.agree; there = own.there })
found_level find c (p.Blob t v) kids f name own below = with_common find c (p.Blob t v) kids (all_own (p.Blob t v)) f name (record { agree = own.agree; there = own.there })
found_level find c (p.ReferenceElement v) kids f name own below = with_common find c (p.ReferenceElement v) kids (all_own (p.ReferenceElement v)) f name (record { agree = own.agree; there = own.there })
found_level find c (p.RelationshipElement first second) kids f name own below = with_common find c (p.RelationshipElement first second) kids (all_own (p.RelationshipElement first second)) f name (record { agree = own.agree; there = own.there })
found_level find c (p.AnnotatedRelationshipElement first second) kids f name own below = with_common find c (p.AnnotatedRelationshipElement first second) kids (all_own (p.AnnotatedRelationshipElement first second)) f name (record { agree = (own.agree.0, (own.agree.1.0, (below, tt))); there = own.there })
found_level find c (p.Entity t g ids) kids f name own below = with_common find c (p.Entity t g ids) kids (all_own (p.Entity t g ids)) f name (record { agree = (own.agree.0, (own.agree.1.0, (own.agree.1.1.0, (below, tt)))); there = own.there })
found_level find c (p.BasicEventElement observed d s topic broker last min max) kids f name own below = with_common find c (p.BasicEventElement observed d s topic broker last min max) kids (all_own (p.BasicEventElement observed d s topic broker last min max)) f name (record { agree = own.agree; there = own.there })
found_level find c p.Capability kids f name own below = with_common find c p.Capability kids (all_own p.Capability) f name (record { agree = own.agree; there = own.there })
found_level find c p.Operation kids f name own below = with_common find c p.Operation kids (all_own p.Operation) f name (record { agree = (below.0, (below.1, (below.2, tt))); there = own.there })
found_level find c p.SubmodelElementCollection kids f name own below = with_common find c p.SubmodelElementCollection kids (all_own p.SubmodelElementCollection) f name (record { agree = (below, tt); there = own.there })
found_level find c (p.SubmodelElementList o s t v) kids f name own below = with_common find c (p.SubmodelElementList o s t v) kids (all_own (p.SubmodelElementList o s t v)) f name (record { agree = (own.agree.0, (own.agree.1.0, (own.agree.1.1.0, (own.agree.1.1.1.0, (below, tt))))); there = own.there })

own_rise : (k : Kind) → rising (sorted (own_rows k)) ≡ true
own_rise kind.Property = refl
own_rise k = refl

-- What is found spells the element.
pub element_is : (find : List ℕ → MemberType → Option Data) (r : Role) (c : Common) (x : Payload) (kids : List Element) (k : Kind) → kind_of x ≡ k → FindsCommon find c
    → Some (string (name_of k)) ≡ find (codes "modelType") text → Some (spell_own x) ≡ canonical_own k find → FindsKids find k (map spelled_child kids)
    → Some (spell_element (made r c x kids)) ≡ canonical_object (Some (sorted (rows_for (name_of k)))) find
element_is find r c x kids k is f name own below =
    let children = map spelled_child kids in
    let Says : Kind → Type 0 = λ j. Some (string (name_of j)) ≡ find (codes "modelType") text → Some (spell_own x) ≡ canonical_own j find → FindsKids find j children
    → Some (spell_element (made r c x kids)) ≡ canonical_object (Some (sorted (rows_for (name_of j)))) find in
    subst Says is (λ n o b.
    ap Some (spell_at r c x kids)
    ∙ found_says (rows_for (model_type_of x)) (element_attributes c x children) find
    (found_level find c x children f n (says_found (own_rows (kind_of x)) (own_attributes x []) find (own_rise (kind_of x)) o) b)) name own below
