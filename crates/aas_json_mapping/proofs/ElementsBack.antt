-- An element whose children are placed, and whose spelling is good, is whole.
use Rattle.std.proofs.Common.{◌≡◌, ℕ, suc, ◌≤◌, ◌&&◌, List, [], ◌∷◌, ◌++◌, map, true, false, is_some, Option, Some, None, option_map, refl, sym, ap, ◌∙◌, subst, true≢false, arith}
use Rattle.std.proofs.lemmas.Bool.{and_from}
use Rattle.std.specs.List.{list_all}
use Rattle.serde_json.specs.Data.{Data}
use Rattle.aas_json_table.specs.Table.{element, data_element, one, reference, Row, referable, has_semantics, qualifiable}
use Rattle.aas_json_table.specs.TooDeep.{Levels}
use Rattle.aas_json_table.specs.Canonical.{are_there}
use Rattle.aas_json_table.specs.Spelled.{attribute}
use Rattle.aas_model.specs.declared.reference.Reference.{Reference}
use Rattle.aas_model.specs.declared.common.Common.{Common}
use Rattle.aas_model.specs.declared.element.Element.{Element}
use Rattle.aas_model.specs.declared.payload.Payload.{Payload}
use Rattle.aas_model.specs.declared.payload.Payload.TheVariants as p
use Rattle.aas_json_spelling.specs.Lists.{Each, most}
use Rattle.aas_json_spelling.specs.Good.{Good}
use Rattle.aas_json_spelling.proofs.Lists.{most_from_each}
use Rattle.aas_lemmas.proofs.Truth.{and_left, and_right}
use Rattle.aas_json_spelling.proofs.Objects.{AreGood}
use Rattle.aas_json_spelling.proofs.MemberTypes.{EachGood}
use Rattle.aas_reference.specs.Whole.{whole_if_there, whole_and_there}
use Rattle.aas_reference.specs.Spelling.{spell_reference}
use Rattle.aas_json_mapping.specs.Elements.{is_input, is_output, is_inoutput, model_type_of, spell_element}
use Rattle.aas_json_mapping.specs.Whole.{whole_kept, whole_semantics, whole_extension, whole_qualifier, whole_specific_asset_id, whole_common, whole_payload, has_whole_parts, Placed, admits, is_annotation, is_variable, is_placed, element_levels}
use Rattle.aas_json_mapping.proofs.Rows.{good_before, object_within}
use Rattle.aas_json_mapping.proofs.Facts.{all_back, reference_facts, reference_if_back}
use Rattle.aas_json_mapping.proofs.Parts.{semantics_back, qualifier_facts, specific_asset_id_facts}
use Rattle.aas_json_mapping.proofs.Referable.{referable_back}
use Rattle.aas_json_mapping.proofs.Elements.{by_children, attributes_at, role_of, seen, seen_role, parts_at, levels_at, mapped_each, Stands, AreStanding, standing, no_kids, level_spent}
use Rattle.aas_json_mapping.proofs.Kids.{children_back, variables_back, of_role, in_three, each_append}
use Rattle.aas_json_mapping.proofs.ElementRows.{own_rows, all_rows, spell_at, rows_at, as_element}
use Rattle.aas_json_mapping.proofs.ElementsGood.{referable_of}

-- ---- what each kind has of its own

there_back : (l : Levels) (o : Option Reference) → is_some (option_map spell_reference o) ≡ true → Good l (one reference) (option_map spell_reference o) → whole_and_there l o ≡ true
there_back l None e good = absurd (true≢false (sym e))
there_back l (Some r) e good = reference_facts.back l r good

there_something : {A : Type 0} (spell : A → Data) (o : Option A) → is_some (option_map spell o) ≡ true → is_some o ≡ true
there_something spell None e = absurd (true≢false (sym e))
there_something spell (Some x) e = refl

abbrev GoodKids : Levels → List Element → Type 0
GoodKids l ks = EachGood l (one element) spell_element ks

none_good : (l : Levels) (x : Payload) → ((c : Placed) → admits x c ≡ false) → (ks : List Element) → Each (Stands x) ks → GoodKids l ks
none_good l x none ks s = subst (λ js. GoodKids l js) (sym (no_kids x none ks s)) tt

annotations_back : (l : Levels) (first second : Option Reference) (ks : List Element) → EachGood l (one data_element) spell_element ks → Each (Stands (p.AnnotatedRelationshipElement first second)) ks → GoodKids l ks
annotations_back l first second [] good s = tt
annotations_back l first second (k ∷ ks) good s = (as_element l k (and_right (is_annotation (seen k).role) (seen k).is_data s.0.admitted) good.0, annotations_back l first second ks good.1 s.1)

pub are_variables : (ks : List Element) → Each (Stands p.Operation) ks → Each (λ k. is_variable (role_of k) ≡ true) ks
are_variables [] s = tt
are_variables (k ∷ ks) s = (ap is_variable (sym (seen_role k)) ∙ s.0.admitted, are_variables ks s.1)

own_back : (l : Levels) (c : Common) (x : Payload) (ks : List Element) → AreStanding x ks → are_there (own_rows x) (attribute (attributes_at c x ks)) ≡ true → AreGood l (own_rows x) (attribute (attributes_at c x ks))
    → (whole_payload l x ≡ true) × GoodKids l ks
own_back l c (p.Property t v i) ks s e good = (reference_if_back l i good.1.1.0, none_good l (p.Property t v i) (λ k. refl) ks s.each)
own_back l c (p.MultiLanguageProperty v i) ks s e good = (reference_if_back l i good.1.0, none_good l (p.MultiLanguageProperty v i) (λ k. refl) ks s.each)
own_back l c (p.Range t min max) ks s e good = (refl, none_good l (p.Range t min max) (λ k. refl) ks s.each)
own_back l c (p.File t v) ks s e good = (there_something _ t (and_left _ true e), none_good l (p.File t v) (λ k. refl) ks s.each)
own_back l c (p.Blob t v) ks s e good = (there_something _ t (and_left _ true e), none_good l (p.Blob t v) (λ k. refl) ks s.each)
own_back l c (p.ReferenceElement v) ks s e good = (reference_if_back l v good.0, none_good l (p.ReferenceElement v) (λ k. refl) ks s.each)
own_back l c (p.RelationshipElement first second) ks s e good =
    let a = is_some (option_map spell_reference first) in
    let b = is_some (option_map spell_reference second) in (
      and_from (whole_and_there l first) (whole_and_there l second) (there_back l first (and_left a (b && true) e) good.0) (there_back l second (and_left b true (and_right a (b && true) e)) good.1.0),
      none_good l (p.RelationshipElement first second) (λ k. refl) ks s.each,
    )
own_back l c (p.AnnotatedRelationshipElement first second) ks s e good =
    let a = is_some (option_map spell_reference first) in
    let b = is_some (option_map spell_reference second) in (
      and_from (whole_and_there l first) (whole_and_there l second) (there_back l first (and_left a (b && true) e) good.0) (there_back l second (and_left b true (and_right a (b && true) e)) good.1.0),
      annotations_back l first second ks (children_back l data_element ks good.1.1.0) s.each,
    )
own_back l c (p.Entity t g ids) ks s e good = (
  and_from (is_some t) (list_all (whole_specific_asset_id l) ids) (there_something _ t (and_left _ true e)) (all_back specific_asset_id_facts l ids good.1.1.0),
  children_back l element ks good.1.1.1.0,
)
own_back l c (p.BasicEventElement observed d s topic broker last min max) ks stands e good = (
  and_from (whole_and_there l observed) (whole_if_there l broker) (there_back l observed (and_left (is_some (option_map spell_reference observed)) true e) good.0) (reference_if_back l broker good.1.1.1.1.0),
  none_good l (p.BasicEventElement observed d s topic broker last min max) (λ k. refl) ks stands.each,
)
own_back l c p.Capability ks s e good = (refl, none_good l p.Capability (λ k. refl) ks s.each)
own_back l c p.Operation ks s e good =
    let ins = variables_back l is_input ks good.0 in
    let outs = variables_back l is_output ks good.1.0 in
    let inouts = variables_back l is_inoutput ks good.1.1.0 in
    let P : Element → Type 0 = λ k. Good l (one element) (Some (spell_element k)) in (
      refl,
      subst (λ js. GoodKids l js) (sym (in_three ks (are_variables ks s.each) s.order))
          (each_append P (of_role is_input ks) (of_role is_output ks ++ of_role is_inoutput ks) ins (each_append P (of_role is_output ks) (of_role is_inoutput ks) outs inouts)),
    )
own_back l c p.SubmodelElementCollection ks s e good = (refl, children_back l element ks good.0)
own_back l c (p.SubmodelElementList o s t v) ks stands e good = (reference_if_back l s good.1.0, children_back l element ks good.1.1.1.1.0)

-- ---- elements

abbrev pub IsBack : Element → Type 0
IsBack e = (l : Levels) → is_placed e ≡ true → Good l (one element) (Some (spell_element e)) → (has_whole_parts l e ≡ true) × (element_levels e ≤ l.elements)

kids_back : (l : Levels) (x : Payload) (ks : List Element) → Each IsBack ks → Each (Stands x) ks → GoodKids l ks → Each (λ k. has_whole_parts l k ≡ true) ks × Each (λ k. element_levels k ≤ l.elements) ks
kids_back l x [] h s good = (tt, tt)
kids_back l x (k ∷ ks) h s good =
    let first = h.0 l s.0.placed good.0 in
    let rest = kids_back l x ks h.1 s.1 good.1 in
    ((first.0, rest.0), (first.1, rest.1))

-- whatever rows an element has of its own
pub common_back : (l : Levels) (c : Common) (x : Payload) (ks : List Element) (rows : List Row) → AreGood l (referable ++ (has_semantics ++ (qualifiable ++ rows))) (attribute (attributes_at c x ks))
    → (whole_common l c ≡ true) × AreGood l rows (attribute (attributes_at c x ks))
common_back l c x ks rows good =
    let g = attribute (attributes_at c x ks) in
    let first = good_before l referable (has_semantics ++ (qualifiable ++ rows)) g good in
    let second = good_before l has_semantics (qualifiable ++ rows) g first.1 in
    let head = referable_back l (model_type_of x) (referable_of c) first.0 in
    let e = list_all (whole_extension l) c.extensions in
    let k = whole_kept l c.embedded_data_specifications in
    let s = whole_semantics l c.semantics in
    let q = list_all (whole_qualifier l) c.qualifiers in (
      and_from (e && k && s) q (and_from (e && k) s (and_from e k head.0 head.1) (semantics_back l c.semantics second.0)) (all_back qualifier_facts l c.qualifiers second.1.0),
      second.1.1,
    )

level_back : (l : Levels) (m : ℕ) (c : Common) (x : Payload) (ks : List Element) → Each IsBack ks → AreStanding x ks → l.elements ≡ suc m → are_there (own_rows x) (attribute (attributes_at c x ks)) ≡ true
    → AreGood (record l { elements = m }) (all_rows x) (attribute (attributes_at c x ks))
    → (whole_common l c && whole_payload l x && list_all (λ b. b) (map (has_whole_parts l) ks) ≡ true) × (suc (most (map element_levels ks)) ≤ l.elements)
level_back l m c x ks h s spent there good =
    let inner : Levels = record l { elements = m } in
    let common = common_back inner c x ks (own_rows x) good in
    let own = own_back inner c x ks s there common.1 in
    let kids = kids_back inner x ks h s.each own.1 in
    let low = most_from_each element_levels m ks kids.1 in (
      and_from (whole_common l c && whole_payload l x) (list_all (λ b. b) (map (has_whole_parts l) ks)) (and_from (whole_common l c) (whole_payload l x) common.0 own.0) (mapped_each (λ b. b) (has_whole_parts l) ks kids.0),
      omega (arith, low, spent),
    )

-- An element whose children are placed, and whose spelling is good, is whole.
pub element_back : (e : Element) → IsBack e
element_back = by_children IsBack (λ r c x ks h l placed good.
    let g = attribute (attributes_at c x ks) in
    let within = object_within element l (all_rows x) g (rows_at c x ks) (subst (λ d. Good l (one element) (Some d)) (spell_at r c x ks) good) in
    let spent = level_spent l within.inner within.entered in
    let back = level_back l spent.0 c x ks h (standing r c x ks placed) spent.1 within.there (subst (λ inner. AreGood inner (all_rows x) g) spent.2 within.good) in
    (parts_at l r c x ks ∙ back.0, subst (λ n. n ≤ l.elements) (sym (levels_at r c x ks)) back.1))
