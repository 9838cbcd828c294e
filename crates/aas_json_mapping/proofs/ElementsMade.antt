-- What is found under the rows of an element makes one whose children are placed: kind by kind.
use Rattle.std.proofs.Common.{◌≡◌, ℕ, List, [], ◌∷◌, ◌++◌, map, Bool, true, Option, Some, unwrap_or, is_some, codes, refl, sym, ap, ◌∙◌, subst}
use Rattle.std.proofs.lemmas.Bool.{and_from}
use Rattle.serde_json.specs.Data.{Data, string, object, Members}
use Rattle.aas_model_names.specs.DirectionNames as direction
use Rattle.aas_model_names.specs.ElementNameNames as element_name
use Rattle.aas_model_names.specs.EntityTypeNames as entity_type
use Rattle.aas_model_names.specs.KindNames as kind_name
use Rattle.aas_model_names.specs.KindNames.{is_data_element}
use Rattle.aas_model_names.specs.StateOfEventNames as state_of_event
use Rattle.aas_model_names.specs.ValueTypeNames as value_type
use Rattle.aas_model_names.specs.declared.kind.Kind.{Kind}
use Rattle.aas_model_names.specs.declared.kind.Kind.TheVariants as kind
use Rattle.aas_json_table.specs.Names.{directions}
use Rattle.aas_json_table.specs.Table.{Sort, reference, lang_text, qualifier, specific_asset_id, operation_variable, element, data_element, MemberType, text, flag, word, one, many, Row, parts, referable, has_semantics, qualifiable, kinds, model_types, shown}
use Rattle.aas_json_table.specs.Rows.{find}
use Rattle.aas_json_table.specs.Canonical.{canonical, canonical_member, are_there}
use Rattle.aas_json_table.specs.Spelled.{attribute, spelled, list_of}
use Rattle.aas_model.specs.declared.reference.Reference.{Reference}
use Rattle.aas_model.specs.declared.common.Common.{Common}
use Rattle.aas_model.specs.declared.element.Element.{Element}
use Rattle.aas_model.specs.declared.element.Role.{Role}
use Rattle.aas_model.specs.declared.element.Role.TheVariants as role
use Rattle.aas_model.specs.declared.payload.Payload.{Payload}
use Rattle.aas_model.specs.declared.payload.Payload.TheVariants as p
use Rattle.aas_model.specs.Payload.{kind_of}
use Rattle.aas_json_spelling.specs.Lists.{Each}
use Rattle.aas_lemmas.proofs.Truth.{and_left, and_right}
use Rattle.aas_json_spelling.proofs.Lists.{each_of}
use Rattle.aas_json_spelling.proofs.Objects.{Agree}
use Rattle.aas_json_spelling.proofs.Exists.{IsSpelled, Gives, Model, there}
use Rattle.aas_json_mapping.specs.Elements.{model_type_of, children_attribute, spelled_child, spell_element}
use Rattle.aas_json_mapping.specs.Shape.{IsShaped}
use Rattle.aas_json_mapping.specs.Whole.{is_annotation, is_member, is_statement, Placed, admits}
use Rattle.aas_json_mapping.proofs.Rows.{Made, object_of, models_tree, agree_with, shown_there}
use Rattle.aas_json_mapping.proofs.Elements.{made, seen, seen_at, seen_role, attributes_at, AreStanding, placed_made}
use Rattle.aas_json_mapping.proofs.ElementsSame.{role_made}
use Rattle.aas_json_mapping.proofs.Kids.{IsIn, spell_as_variable}
use Rattle.aas_json_mapping.proofs.ElementRows.{own_rows, spell_at}
use Rattle.aas_json_mapping.proofs.Roles.{with_role, in_with_role, roled, in_roled, children_found, variables_found, data_with_role, standing_in, admitted_in, none_standing, Variables, inputs_are, outputs_are, inoutputs_are, variables_standing}
use Rattle.aas_json_mapping.proofs.Sorts.{With, PlacedData, trees, word_if, word_there}
use Rattle.aas_json_mapping.proofs.PartsMade.{semantics_found, referable_found}

-- an element that stands by itself and whose children are placed
abbrev Shaped : Type 0
Shaped = With IsShaped

abbrev spell_shaped : Shaped → Data
spell_shaped t = spell_element t.0

-- the rows of a kind's own, and those of an element with such rows of its own
abbrev pub rows_of_kind : Kind → List Row
rows_of_kind k = unwrap_or (find (kind_name.name_of k) kinds) []

abbrev pub with_common : List Row → List Row
with_common rows = referable ++ (has_semantics ++ (qualifiable ++ rows))

-- a modelType with its rows, of which some are a kind's own
abbrev pub model_of : (Kind → List Row) → Kind → List ℕ × List Row
model_of rows k = (kind_name.name_of k, with_common (rows k))

-- an element of this kind by what it has of its own
pub record Own (g : List ℕ → MemberType → Option Data) (k : Kind) : Type 0 where
  pub payload : Payload
  pub kids : List Element
  pub named : kind_of payload ≡ k
  pub standing : AreStanding payload kids
  pub agree : (c : Common) → Agree (own_rows payload) g (attribute (attributes_at c payload kids))

-- what every element has, whatever it has of its own
record FoundCommon (g : List ℕ → MemberType → Option Data) (x : Payload) : Type 0 where
  common : Common
  agree : (ks : List Element) (rows : List Row) → Agree rows g (attribute (attributes_at common x ks))
      → Agree (with_common rows) g (attribute (attributes_at common x ks))

-- the children that are found as elements, in a role
abbrev kids_in : Role → List Shaped → List Element
kids_in r ts = roled (λ (t : Shaped). t.0) r ts

are_in : (r : Role) (ts : List Shaped) → Each (IsIn r) (kids_in r ts)
are_in r ts = in_roled (λ (t : Shaped). t.0) r (λ t. t.1.placed) ts

kids_found : (r : Role) (o : Option Data) (ts : List Shaped) → o ≡ list_of spell_shaped ts
    → o ≡ children_attribute (map spelled_child (kids_in r ts))
kids_found r o ts is = children_found (λ (t : Shaped). t.0) r o ts is

abbrev annotations_of : List PlacedData → List Element
annotations_of ts = roled (λ (t : PlacedData). t.element) role.Annotation ts

annotations_admitted : (first second : Option Reference) (ts : List PlacedData)
    → Each (λ k. admits (p.AnnotatedRelationshipElement first second) (seen k) ≡ true) (annotations_of ts)
annotations_admitted first second [] = tt
annotations_admitted first second (t ∷ ts) =
    let k = with_role role.Annotation t.element in
    let is = ap is_annotation (seen_role k ∙ (in_with_role role.Annotation t.element t.placed).1) in (
      and_from (is_annotation (seen k).role) (seen k).is_data is (data_with_role role.Annotation t.element t.is_data),
      annotations_admitted first second ts,
    )

module _ (g : List ℕ → MemberType → Option Data) (each : Gives trees g) where
  common_found : (x : Payload) → g (codes "modelType") text ≡ Some (string (model_type_of x)) → FoundCommon g x
  common_found x model =
      let r = referable_found g each (model_type_of x) model in
      let s = semantics_found g each in
      let q = each (codes "qualifiers") (many qualifier) in
      let c : Common = record {
        id_short = r.0.id_short;
        category = r.0.category;
        description = r.0.description;
        display_name = r.0.display_name;
        extensions = r.0.extensions;
        embedded_data_specifications = r.0.embedded_data_specifications;
        semantics = s.0;
        qualifiers = q.0;
      } in record {
        common = c;
        agree = λ ks rows own.
            let h = attribute (attributes_at c x ks) in
            agree_with referable (has_semantics ++ (qualifiable ++ rows)) g h r.1
            (agree_with has_semantics (qualifiable ++ rows) g h s.1 (q.1, own));
      }

  -- an element with this payload, as a tree of a sort that shows some rows of each kind
  pub made_as : {A : Type 0} (spell : A → Data) (rows : Kind → List Row) (k : Kind) (x : Payload) (ks : List Element)
      → kind_of x ≡ k → g (codes "modelType") text ≡ Some (string (kind_name.name_of k))
      → ((c : Common) → Agree (rows (kind_of x)) g (attribute (attributes_at c x ks))) → (tree : Common → A)
      → ((c : Common) → spelled (with_common (rows (kind_of x))) (attributes_at c x ks) ≡ spell (tree c))
      → Made spell (with_common (rows k)) g
  made_as spell rows k x ks named model agree tree spells =
      let f = common_found x (model ∙ ap (λ j. Some (string (kind_name.name_of j))) (sym named)) in
      subst (λ j. Made spell (with_common (rows j)) g) named (record {
        tree = tree f.common;
        attributes = attributes_at f.common x ks;
        agree = f.agree ks (rows (kind_of x)) (agree f.common);
        spells = spells f.common;
      })

  -- of a kind, where what is there of its own makes one
  pub model_as : {A : Type 0} (spell : A → Data) (rows : Kind → List Row) (k : Kind)
      → (are_there (rows k) g ≡ true → g (codes "modelType") text ≡ Some (string (kind_name.name_of k))
      → Made spell (with_common (rows k)) g)
      → Model spell g (model_of rows k)
  model_as spell rows k make model =
      object_of spell (with_common (rows k)) g (λ e.
      make (and_right (is_some (g (codes "modelType") text)) (are_there (rows k) g) e) model)

  -- ---- what each kind has of its own, where those members are there that its metadata form demands

  without_kids : (x : Payload) → ((c : Common) → Agree (own_rows x) g (attribute (attributes_at c x [])))
      → Own g (kind_of x)
  without_kids x agree =
      record { payload = x; kids = []; named = refl; standing = none_standing x; agree = agree }

  -- with children in a role that alone decides whether they may stand there
  with_kids : (x : Payload) (r : Role) (t : Role → Bool)
      → ((c : Placed) → t c.role ≡ true → admits x c ≡ true) → t r ≡ true → (ts : List Shaped)
      → ((c : Common) → Agree (own_rows x) g (attribute (attributes_at c x (kids_in r ts)))) → Own g (kind_of x)
  with_kids x r t admit is ts agree =
      let ks = kids_in r ts in
      let in_role = are_in r ts in
      let standing = standing_in x r ks in_role (admitted_in x r t admit is ks in_role) in
      record { payload = x; kids = ks; named = refl; standing = standing; agree = agree }

  annotated : Own g kind.AnnotatedRelationshipElement
  annotated =
      let a = each (codes "first") (one reference) in
      let b = each (codes "second") (one reference) in
      let ts = each (codes "annotations") (many data_element) in
      let x = p.AnnotatedRelationshipElement a.0 b.0 in
      let ks = annotations_of ts.0 in
      let is = in_roled (λ (t : PlacedData). t.element) role.Annotation (λ t. t.placed) ts.0 in
      let o = g (codes "annotations") (many data_element) in
      let found = children_found (λ (t : PlacedData). t.element) role.Annotation o ts.0 ts.1 in record {
        payload = x;
        kids = ks;
        named = refl;
        standing = standing_in x role.Annotation ks is (annotations_admitted a.0 b.0 ts.0);
        agree = λ c. (a.1, (b.1, (found, tt)));
      }

  variables_in : (r : Role) (n : List ℕ)
      → (ts : List Shaped) × (g n (many operation_variable) ≡ list_of spell_as_variable (kids_in r ts))
  variables_in r n =
      let ts = each n (many operation_variable) in
      (ts.0, variables_found (λ (t : Shaped). t.0) r (g n (many operation_variable)) ts.0 ts.1)

  operation : Own g kind.Operation
  operation =
      let i = variables_in role.Input (codes "inputVariables") in
      let o = variables_in role.Output (codes "outputVariables") in
      let b = variables_in role.Inoutput (codes "inoutputVariables") in
      let ins = kids_in role.Input i.0 in
      let outs = kids_in role.Output o.0 in
      let inouts = kids_in role.Inoutput b.0 in
      let all : Variables ins outs inouts = record {
        inputs = are_in role.Input i.0;
        outputs = are_in role.Output o.0;
        inoutputs = are_in role.Inoutput b.0;
      } in
      let inputs = i.1 ∙ sym (inputs_are ins outs inouts all) in
      let outputs = o.1 ∙ sym (outputs_are ins outs inouts all) in
      let inoutputs = b.1 ∙ sym (inoutputs_are ins outs inouts all) in record {
        payload = p.Operation;
        kids = ins ++ (outs ++ inouts);
        named = refl;
        standing = variables_standing ins outs inouts all;
        agree = λ c. (inputs, (outputs, (inoutputs, tt)));
      }

  pub own_of : (k : Kind) → are_there (shown (rows_of_kind k)) g ≡ true → Own g k
  own_of kind.Property e =
      let t = word_there g each value_type.name_of value_type.all (codes "valueType") (and_left _ _ e) in
      let v = each (codes "value") text in
      let i = each (codes "valueId") (one reference) in
      without_kids (p.Property t.0 v.0 i.0) (λ c. (t.1, (v.1, (i.1, tt))))
  own_of kind.MultiLanguageProperty e =
      let v = each (codes "value") (many lang_text) in
      let i = each (codes "valueId") (one reference) in
      without_kids (p.MultiLanguageProperty v.0 i.0) (λ c. (v.1, (i.1, tt)))
  own_of kind.Range e =
      let t = word_there g each value_type.name_of value_type.all (codes "valueType") (and_left _ _ e) in
      let low = each (codes "min") text in
      let high = each (codes "max") text in
      without_kids (p.Range t.0 low.0 high.0) (λ c. (t.1, (low.1, (high.1, tt))))
  own_of kind.File e =
      let t = each (codes "contentType") text in
      let v = each (codes "value") text in
      without_kids (p.File t.0 v.0) (λ c. (t.1, (v.1, tt)))
  own_of kind.Blob e =
      let t = each (codes "contentType") text in
      let v = each (codes "value") text in
      without_kids (p.Blob t.0 v.0) (λ c. (t.1, (v.1, tt)))
  own_of kind.ReferenceElement e =
      let v = each (codes "value") (one reference) in
      without_kids (p.ReferenceElement v.0) (λ c. (v.1, tt))
  own_of kind.RelationshipElement e =
      let a = each (codes "first") (one reference) in
      let b = each (codes "second") (one reference) in
      without_kids (p.RelationshipElement a.0 b.0) (λ c. (a.1, (b.1, tt)))
  own_of kind.AnnotatedRelationshipElement e = annotated
  own_of kind.Entity e =
      let t = word_if g each entity_type.name_of entity_type.all (codes "entityType") in
      let i = each (codes "globalAssetId") text in
      let s = each (codes "specificAssetIds") (many specific_asset_id) in
      let ts = each (codes "statements") (many element) in
      let found = kids_found role.Statement (g (codes "statements") (many element)) ts.0 ts.1 in
      with_kids (p.Entity t.0 i.0 s.0) role.Statement is_statement (λ k e. e) refl ts.0
      (λ c. (t.1, (i.1, (s.1, (found, tt)))))
  own_of kind.BasicEventElement e =
      let directed = is_some (g (codes "direction") (word directions)) in
      let o = each (codes "observed") (one reference) in
      let d = word_there g each direction.name_of direction.all (codes "direction") (and_left _ _ e) in
      let stated = and_left _ _ (and_right directed _ e) in
      let s = word_there g each state_of_event.name_of state_of_event.all (codes "state") stated in
      let t = each (codes "messageTopic") text in
      let b = each (codes "messageBroker") (one reference) in
      let l = each (codes "lastUpdate") text in
      let low = each (codes "minInterval") text in
      let high = each (codes "maxInterval") text in
      without_kids (p.BasicEventElement o.0 d.0 s.0 t.0 b.0 l.0 low.0 high.0)
      (λ c. (o.1, (d.1, (s.1, (t.1, (b.1, (l.1, (low.1, (high.1, tt)))))))))
  own_of kind.Capability e = without_kids p.Capability (λ c. tt)
  own_of kind.Operation e = operation
  own_of kind.SubmodelElementCollection e =
      let ts = each (codes "value") (many element) in
      let found = kids_found role.Member (g (codes "value") (many element)) ts.0 ts.1 in
      with_kids p.SubmodelElementCollection role.Member is_member (λ k e. e) refl ts.0 (λ c. (found, tt))
  own_of kind.SubmodelElementList e =
      let o = each (codes "orderRelevant") flag in
      let s = each (codes "semanticIdListElement") (one reference) in
      let t = word_there g each element_name.name_of element_name.all (codes "typeValueListElement") (and_left _ _ e) in
      let v = word_if g each value_type.name_of value_type.all (codes "valueTypeListElement") in
      let ts = each (codes "value") (many element) in
      let found = kids_found role.Member (g (codes "value") (many element)) ts.0 ts.1 in
      with_kids (p.SubmodelElementList o.0 s.0 t.0 v.0) role.Member is_member (λ k e. e) refl ts.0
      (λ c. (o.1, (s.1, (t.1, (v.1, (found, tt))))))

  -- ---- objects

  own_there : (k : Kind) → are_there (rows_of_kind k) g ≡ true → Own g k
  own_there k e = own_of k (shown_there (rows_of_kind k) g e)

  -- by itself, as an element
  pub element_model : (k : Kind) → Model spell_shaped g (model_of rows_of_kind k)
  element_model k =
      model_as spell_shaped rows_of_kind k (λ e model.
      let own = own_there k e in
      let x = own.payload in
      made_as spell_shaped rows_of_kind k x own.kids own.named model own.agree
      (λ c. (
        made role.Member c x own.kids,
        record {
          role = ap is_member (role_made role.Member c x own.kids);
          placed = placed_made role.Member c x own.kids own.standing;
        },
      ))
      (λ c. sym (spell_at role.Member c x own.kids)))

  -- as a data element
  pub data_model : (k : Kind) → is_data_element k ≡ true
      → Model (λ (t : PlacedData). spell_element t.element) g (model_of rows_of_kind k)
  data_model k is =
      let spell = λ (t : PlacedData). spell_element t.element in
      model_as spell rows_of_kind k (λ e model.
      let own = own_there k e in
      let x = own.payload in
      made_as spell rows_of_kind k x own.kids own.named model own.agree
      (λ c. record {
        element = made role.Member c x own.kids;
        placed = placed_made role.Member c x own.kids own.standing;
        is_data = ap (λ (z : Placed). z.is_data) (seen_at role.Member c x own.kids) ∙ ap is_data_element own.named ∙ is;
      })
      (λ c. sym (spell_at role.Member c x own.kids)))

  pub variable_made : are_there (parts operation_variable) g ≡ true
      → Made (λ (t : Shaped). spell_as_variable t.0) (parts operation_variable) g
  variable_made e =
      let value = g (codes "value") (one element) in
      let t = there spell_shaped value (each (codes "value") (one element)) (and_left (is_some value) true e) in
      record {
        tree = t.0;
        attributes = (codes "value", Some (spell_shaped t.0)) ∷ [];
        agree = (t.1, tt);
        spells = refl;
      }

-- of a sort that has each kind
pub kinds_tree : {A : Type 0} (spell : A → Data) (s : Sort) (ms : Members) (rows : Kind → List Row)
    → model_types s ≡ map (model_of rows) kind_name.all
    → ((k : Kind) → Model spell (canonical_member ms) (model_of rows k))
    → IsSpelled spell (canonical (one s) (object ms))
kinds_tree spell s ms rows models each =
    models_tree spell s ms (map (model_of rows) kind_name.all) models refl
    (each_of (λ k. Model spell (canonical_member ms) (model_of rows k)) each kind_name.all)

pub element_tree : (ms : Members) → Gives trees (canonical_member ms)
    → IsSpelled spell_shaped (canonical (one element) (object ms))
element_tree ms each = kinds_tree spell_shaped element ms rows_of_kind refl (element_model (canonical_member ms) each)

pub data_tree : (ms : Members) → Gives trees (canonical_member ms)
    → IsSpelled (λ (t : PlacedData). spell_element t.element) (canonical (one data_element) (object ms))
data_tree ms each =
    let at = data_model (canonical_member ms) each in
    models_tree (λ (t : PlacedData). spell_element t.element) data_element ms (model_types data_element) refl refl (
      at kind.Property refl,
      (
        at kind.MultiLanguageProperty refl,
        (
          at kind.Range refl,
          (
            at kind.File refl,
            (at kind.Blob refl, (at kind.ReferenceElement refl, tt)),
          ),
        ),
      ),
    )
