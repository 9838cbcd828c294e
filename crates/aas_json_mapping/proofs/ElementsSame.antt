-- Elements that spell the same in the same role are the same, where their children are placed.
use Rattle.std.proofs.Common.{◌≡◌, ℕ, List, [], ◌∷◌, ◌++◌, Bool, true, false, Some, unwrap_or, codes, bytes_eq, refl, sym, ap, ◌∙◌, true≢false}
use Rattle.std.proofs.lemmas.Slice.Eq.{bytes_eq-Decides}
use Rattle.serde_json.specs.Data.{string}
use Rattle.serde_json.specs.Find.{get_member}
use Rattle.aas_model_names.specs.DirectionNames as direction
use Rattle.aas_model_names.specs.ElementNameNames as element_name
use Rattle.aas_model_names.specs.EntityTypeNames as entity_type
use Rattle.aas_model_names.specs.StateOfEventNames as state_of_event
use Rattle.aas_model_names.specs.ValueTypeNames as value_type
use Rattle.aas_json_table.specs.Table.{Row, referable, has_semantics, qualifiable, kinds}
use Rattle.aas_json_table.specs.Rows.{find}
use Rattle.aas_json_table.specs.Spelled.{attribute, spelled}
use Rattle.aas_model.specs.declared.common.Common.{Common}
use Rattle.aas_model.specs.declared.element.Element.{Element, out-Element}
use Rattle.aas_model.specs.declared.element.Role.{Role}
use Rattle.aas_model.specs.declared.element.Role.TheVariants as role
use Rattle.aas_model.specs.declared.payload.Payload.{Payload}
use Rattle.aas_model.specs.declared.payload.Payload.TheVariants as p
use Rattle.aas_json_spelling.specs.Lists.{Each}
use Rattle.aas_lemmas.proofs.Truth.{and_left}
use Rattle.aas_json_spelling.proofs.Objects.{Agree, same_object}
use Rattle.aas_json_spelling.proofs.MemberTypes.{same_texts_if, same_flags_if, same_words, same_words_if}
use Rattle.aas_json_mapping.specs.Elements.{is_input, is_output, is_inoutput, model_type_of, spell_element}
use Rattle.aas_json_mapping.specs.Whole.{Placed, admits, is_member, is_annotation, is_statement, is_placed}
use Rattle.aas_json_mapping.proofs.Rows.{agree_before, same_rows}
use Rattle.aas_json_mapping.proofs.Facts.{all_same, if_same, reference_facts}
use Rattle.aas_json_mapping.proofs.Parts.{same_semantics, lang_text_facts, qualifier_facts, specific_asset_id_facts}
use Rattle.aas_json_mapping.proofs.Referable.{same_referable}
use Rattle.aas_json_mapping.proofs.Elements.{made, made_out, by_children, attributes_at, role_of, seen, seen_at, seen_role, Stands, AreStanding, standing, no_kids}
use Rattle.aas_json_mapping.proofs.Kids.{IsAlone, IsIn, Only, in_three, same_children, same_variables, only_input, only_output, only_inoutput}
use Rattle.aas_json_mapping.proofs.ElementRows.{own_rows, all_rows, spell_at, rows_rise, members_at, model_type_at}
use Rattle.aas_json_mapping.proofs.ElementsGood.{referable_of}
use Rattle.aas_json_mapping.proofs.ElementsBack.{are_variables}

-- ---- the roles of children

pub only_member : Only role.Member is_member
only_member role.Member e = refl
only_member q e = absurd (true≢false (sym e))

pub only_annotation : Only role.Annotation is_annotation
only_annotation role.Annotation e = refl
only_annotation q e = absurd (true≢false (sym e))

pub only_statement : Only role.Statement is_statement
only_statement role.Statement e = refl
only_statement q e = absurd (true≢false (sym e))

all_in : (x : Payload) (r : Role) (t : Role → Bool) → Only r t → ((c : Placed) → admits x c ≡ true → t c.role ≡ true) → (ks : List Element) → Each (Stands x) ks → Each (IsIn r) ks
all_in x r t only role [] s = tt
all_in x r t only role (k ∷ ks) s = ((s.0.placed, only (role_of k) (ap t (sym (seen_role k)) ∙ role (seen k) s.0.admitted)), all_in x r t only role ks s.1)

all_placed : (x : Payload) (ks : List Element) → Each (Stands x) ks → Each (λ k. is_placed k ≡ true) ks
all_placed x [] s = tt
all_placed x (k ∷ ks) s = (s.0.placed, all_placed x ks s.1)

-- ---- what each kind has of its own

-- the payloads and the children are the same
abbrev AreSame : Payload → Payload → List Element → List Element → Type 0
AreSame x y ks js = (x ≡ y) × (ks ≡ js)

none_same : (x y : Payload) → ((c : Placed) → admits x c ≡ false) → ((c : Placed) → admits y c ≡ false) → (ks js : List Element) → AreStanding x ks → AreStanding y js → ks ≡ js
none_same x y a b ks js s r = no_kids x a ks s.each ∙ sym (no_kids y b js r.each)

pub other_kind : (a b : List ℕ) → bytes_eq a b ≡ false → a ≡ b → ⊥
other_kind a b d e = true≢false (sym ((bytes_eq-Decides a b).1 e) ∙ d)

same_operation : (c d : Common) (ks js : List Element) → Each IsAlone ks → AreStanding p.Operation ks → AreStanding p.Operation js
    → Agree (own_rows p.Operation) (attribute (attributes_at c p.Operation ks)) (attribute (attributes_at d p.Operation js)) → ks ≡ js
same_operation c d ks js h s r agree =
    let a = all_placed p.Operation ks s.each in
    let b = all_placed p.Operation js r.each in
    let ins = same_variables role.Input is_input only_input ks js h a b agree.0 in
    let outs = same_variables role.Output is_output only_output ks js h a b agree.1.0 in
    let inouts = same_variables role.Inoutput is_inoutput only_inoutput ks js h a b agree.1.1.0 in
    in_three ks (are_variables ks s.each) s.order ∙ (λ i. ins i ++ (outs i ++ inouts i)) ∙ sym (in_three js (are_variables js r.each) r.order)

same_own : (c d : Common) (x y : Payload) (ks js : List Element) → Each IsAlone ks → AreStanding x ks → AreStanding y js → model_type_of x ≡ model_type_of y
    → Agree (own_rows x) (attribute (attributes_at c x ks)) (attribute (attributes_at d y js)) → AreSame x y ks js
same_own c d (p.Property t v i) (p.Property t' v' i') ks js h s r name agree =
    let ts = same_words value_type.name_of value_type.all value_type.found t t' agree.0 in
    let vs = same_texts_if v v' agree.1.0 in
    let is = if_same reference_facts i i' agree.1.1.0 in
    ((λ j. p.Property (ts j) (vs j) (is j)), none_same (p.Property t v i) (p.Property t' v' i') (λ k. refl) (λ k. refl) ks js s r)
same_own c d (p.MultiLanguageProperty v i) (p.MultiLanguageProperty v' i') ks js h s r name agree =
    let vs = all_same lang_text_facts v v' agree.0 in
    let is = if_same reference_facts i i' agree.1.0 in
    ((λ j. p.MultiLanguageProperty (vs j) (is j)), none_same (p.MultiLanguageProperty v i) (p.MultiLanguageProperty v' i') (λ k. refl) (λ k. refl) ks js s r)
same_own c d (p.Range t a b) (p.Range t' a' b') ks js h s r name agree =
    let ts = same_words value_type.name_of value_type.all value_type.found t t' agree.0 in
    let as_ = same_texts_if a a' agree.1.0 in
    let bs = same_texts_if b b' agree.1.1.0 in
    ((λ j. p.Range (ts j) (as_ j) (bs j)), none_same (p.Range t a b) (p.Range t' a' b') (λ k. refl) (λ k. refl) ks js s r)
same_own c d (p.File t v) (p.File t' v') ks js h s r name agree =
    let ts = same_texts_if t t' agree.0 in
    let vs = same_texts_if v v' agree.1.0 in
    ((λ j. p.File (ts j) (vs j)), none_same (p.File t v) (p.File t' v') (λ k. refl) (λ k. refl) ks js s r)
same_own c d (p.Blob t v) (p.Blob t' v') ks js h s r name agree =
    let ts = same_texts_if t t' agree.0 in
    let vs = same_texts_if v v' agree.1.0 in
    ((λ j. p.Blob (ts j) (vs j)), none_same (p.Blob t v) (p.Blob t' v') (λ k. refl) (λ k. refl) ks js s r)
same_own c d (p.ReferenceElement v) (p.ReferenceElement v') ks js h s r name agree =
    let vs = if_same reference_facts v v' agree.0 in
    ((λ j. p.ReferenceElement (vs j)), none_same (p.ReferenceElement v) (p.ReferenceElement v') (λ k. refl) (λ k. refl) ks js s r)
same_own c d (p.RelationshipElement a b) (p.RelationshipElement a' b') ks js h s r name agree =
    let as_ = if_same reference_facts a a' agree.0 in
    let bs = if_same reference_facts b b' agree.1.0 in
    ((λ j. p.RelationshipElement (as_ j) (bs j)), none_same (p.RelationshipElement a b) (p.RelationshipElement a' b') (λ k. refl) (λ k. refl) ks js s r)
same_own c d (p.AnnotatedRelationshipElement a b) (p.AnnotatedRelationshipElement a' b') ks js h s r name agree =
    let as_ = if_same reference_facts a a' agree.0 in
    let bs = if_same reference_facts b b' agree.1.0 in
    let x = p.AnnotatedRelationshipElement a b in
    let y = p.AnnotatedRelationshipElement a' b' in
    let ins = all_in x role.Annotation is_annotation only_annotation (λ k e. and_left (is_annotation k.role) k.is_data e) ks s.each in
    let jns = all_in y role.Annotation is_annotation only_annotation (λ k e. and_left (is_annotation k.role) k.is_data e) js r.each in
    ((λ j. p.AnnotatedRelationshipElement (as_ j) (bs j)), same_children role.Annotation ks js h ins jns agree.1.1.0)
same_own c d (p.Entity t g a) (p.Entity t' g' a') ks js h s r name agree =
    let ts = same_words_if entity_type.name_of entity_type.all entity_type.found t t' agree.0 in
    let gs = same_texts_if g g' agree.1.0 in
    let as_ = all_same specific_asset_id_facts a a' agree.1.1.0 in
    let ins = all_in (p.Entity t g a) role.Statement is_statement only_statement (λ k e. e) ks s.each in
    let jns = all_in (p.Entity t' g' a') role.Statement is_statement only_statement (λ k e. e) js r.each in
    ((λ j. p.Entity (ts j) (gs j) (as_ j)), same_children role.Statement ks js h ins jns agree.1.1.1.0)
same_own c d (p.BasicEventElement o i t m b l n x) (p.BasicEventElement o' i' t' m' b' l' n' x') ks js h s r name agree =
    let os = if_same reference_facts o o' agree.0 in
    let is = same_words direction.name_of direction.all direction.found i i' agree.1.0 in
    let ts = same_words state_of_event.name_of state_of_event.all state_of_event.found t t' agree.1.1.0 in
    let ms = same_texts_if m m' agree.1.1.1.0 in
    let bs = if_same reference_facts b b' agree.1.1.1.1.0 in
    let ls = same_texts_if l l' agree.1.1.1.1.1.0 in
    let ns = same_texts_if n n' agree.1.1.1.1.1.1.0 in
    let xs = same_texts_if x x' agree.1.1.1.1.1.1.1.0 in (
      (λ j. p.BasicEventElement (os j) (is j) (ts j) (ms j) (bs j) (ls j) (ns j) (xs j)),
      none_same (p.BasicEventElement o i t m b l n x) (p.BasicEventElement o' i' t' m' b' l' n' x') (λ k. refl) (λ k. refl) ks js s r,
    )
same_own c d p.Capability p.Capability ks js h s r name agree = (refl, none_same p.Capability p.Capability (λ k. refl) (λ k. refl) ks js s r)
same_own c d p.Operation p.Operation ks js h s r name agree = (refl, same_operation c d ks js h s r agree)
same_own c d p.SubmodelElementCollection p.SubmodelElementCollection ks js h s r name agree =
    let ins = all_in p.SubmodelElementCollection role.Member is_member only_member (λ k e. e) ks s.each in
    let jns = all_in p.SubmodelElementCollection role.Member is_member only_member (λ k e. e) js r.each in
    (refl, same_children role.Member ks js h ins jns agree.0)
same_own c d (p.SubmodelElementList o i t v) (p.SubmodelElementList o' i' t' v') ks js h s r name agree =
    let os = same_flags_if o o' agree.0 in
    let is = if_same reference_facts i i' agree.1.0 in
    let ts = same_words element_name.name_of element_name.all element_name.found t t' agree.1.1.0 in
    let vs = same_words_if value_type.name_of value_type.all value_type.found v v' agree.1.1.1.0 in
    let ins = all_in (p.SubmodelElementList o i t v) role.Member is_member only_member (λ k e. e) ks s.each in
    let jns = all_in (p.SubmodelElementList o' i' t' v') role.Member is_member only_member (λ k e. e) js r.each in
    ((λ j. p.SubmodelElementList (os j) (is j) (ts j) (vs j)), same_children role.Member ks js h ins jns agree.1.1.1.1.0)
same_own c d x y ks js h s r name agree = absurd (other_kind (model_type_of x) (model_type_of y) refl name)

-- ---- elements

same_name : (c d : Common) (x y : Payload) (ks js : List Element) → spelled (all_rows x) (attributes_at c x ks) ≡ spelled (all_rows y) (attributes_at d y js) → model_type_of x ≡ model_type_of y
same_name c d x y ks js e =
    let ms : members_at c x ks ≡ members_at d y js = same_object (members_at c x ks) (members_at d y js) e in
    let same : Some (string (model_type_of x)) ≡ Some (string (model_type_of y)) = sym (model_type_at c x ks) ∙ ap (get_member (codes "modelType")) ms ∙ model_type_at d y js in
    cc

-- payloads of the same modelType have the same rows
rows_same : (x y : Payload) → model_type_of x ≡ model_type_of y → all_rows x ≡ all_rows y
rows_same x y e = ap (λ n. referable ++ (has_semantics ++ (qualifiable ++ unwrap_or (find n kinds) []))) e

-- whatever rows an element has of its own
pub same_common : (c d : Common) (x y : Payload) (ks js : List Element) (rows : List Row) → Agree (referable ++ (has_semantics ++ (qualifiable ++ rows))) (attribute (attributes_at c x ks)) (attribute (attributes_at d y js))
    → (c ≡ d) × Agree rows (attribute (attributes_at c x ks)) (attribute (attributes_at d y js))
same_common c d x y ks js rows agree =
    let g = attribute (attributes_at c x ks) in
    let h = attribute (attributes_at d y js) in
    let first = agree_before referable (has_semantics ++ (qualifiable ++ rows)) g h agree in
    let second = agree_before has_semantics (qualifiable ++ rows) g h first.1 in
    let head = (same_referable (model_type_of x) (model_type_of y) (referable_of c) (referable_of d) first.0).1 in
    let s = same_semantics c.semantics d.semantics second.0 in
    let q = all_same qualifier_facts c.qualifiers d.qualifiers second.1.0 in (
      (λ i. record {
        id_short = (head i).id_short;
        category = (head i).category;
        description = (head i).description;
        display_name = (head i).display_name;
        extensions = (head i).extensions;
        embedded_data_specifications = (head i).embedded_data_specifications;
        semantics = s i;
        qualifiers = q i;
      }),
      second.1.1,
    )

same_level : (r q : Role) (c d : Common) (x y : Payload) (ks js : List Element) → Each IsAlone ks → AreStanding x ks → AreStanding y js → r ≡ q
    → spelled (all_rows x) (attributes_at c x ks) ≡ spelled (all_rows y) (attributes_at d y js) → made r c x ks ≡ made q d y js
same_level r q c d x y ks js h s t roles e =
    let name = same_name c d x y ks js e in
    let agree = same_rows (all_rows x) (attributes_at c x ks) (attributes_at d y js) (rows_rise x) (e ∙ ap (λ rows. spelled rows (attributes_at d y js)) (sym (rows_same x y name))) in
    let common = same_common c d x y ks js (own_rows x) agree in
    let own = same_own c d x y ks js h s t name common.1 in
    let cs = common.0 in
    let xs = own.0 in
    let kids = own.1 in
    λ i. made (roles i) (cs i) (xs i) (kids i)

pub role_made : (r : Role) (c : Common) (x : Payload) (ks : List Element) → role_of (made r c x ks) ≡ r
role_made r c x ks = sym (seen_role (made r c x ks)) ∙ ap (λ (z : Placed). z.role) (seen_at r c x ks)

-- Elements of the same role that spell the same are the same, where their children are placed.
pub same_element : (e : Element) → IsAlone e
same_element = by_children IsAlone (λ r c x ks h f placed f_placed roles e.
    let y = out-Element f in
    let back = made_out f in
    same_level r y.role c y.common x y.payload ks y.kids h (standing r c x ks placed) (standing y.role y.common y.payload y.kids (ap is_placed back ∙ f_placed)) (sym (role_made r c x ks) ∙ roles)
    (sym (spell_at r c x ks) ∙ e ∙ ap spell_element (sym back) ∙ spell_at y.role y.common y.payload y.kids)
    ∙ back)
