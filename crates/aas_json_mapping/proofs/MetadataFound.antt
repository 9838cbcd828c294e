-- What a value says as a metadata form of an element is spelled by one: what is found of an element, without its values and children.
use Rattle.std.proofs.Common.{◌≡◌, ℕ, List, [], Option, refl, sym, ap, ◌∙◌, subst}
use Rattle.serde_json.specs.Data.{Data, object, Members}
use Rattle.aas_model_names.specs.declared.kind.Kind.{Kind}
use Rattle.aas_json_table.specs.Table.{element_metadata, MemberType, one, Row, shown}
use Rattle.aas_json_table.specs.Canonical.{canonical, canonical_member}
use Rattle.aas_json_table.specs.Spelled.{attribute}
use Rattle.aas_model.specs.declared.common.Common.{Common}
use Rattle.aas_model.specs.declared.element.Element.{Element, out-roll-Element}
use Rattle.aas_model.specs.declared.element.Role.TheVariants as role
use Rattle.aas_model.specs.declared.payload.Payload.{Payload}
use Rattle.aas_model.specs.declared.payload.Payload.TheVariants as p
use Rattle.aas_model.specs.Payload.{kind_of}
use Rattle.aas_json_spelling.proofs.Objects.{Agree}
use Rattle.aas_json_spelling.proofs.Exists.{IsSpelled, Gives, Model}
use Rattle.aas_json_mapping.specs.Elements.{spell_element}
use Rattle.aas_json_mapping.specs.Metadata.{without_values, IsMetadata}
use Rattle.aas_json_mapping.specs.Whole.{is_member}
use Rattle.aas_json_mapping.proofs.Elements.{made, attributes_at}
use Rattle.aas_json_mapping.proofs.ElementRows.{own_rows}
use Rattle.aas_json_mapping.proofs.ElementsMade.{rows_of_kind, model_of, kinds_tree, own_of, made_as, model_as}
use Rattle.aas_json_mapping.proofs.Metadata.{shown_own, form_of, spell_form}
use Rattle.aas_json_mapping.proofs.Sorts.{With, trees}

abbrev spell_form_of : With IsMetadata → Data
spell_form_of t = spell_element t.0

-- any form of these parts is one that stands by itself
is_form : (c : Common) (x : Payload) → without_values x ≡ x → IsMetadata (form_of role.Member c x)
is_form c x bare =
    let out = out-roll-Element (record { common = c; payload = without_values x; role = role.Member; kids = [] }) in record {
      role = ap (λ y. is_member y.role) out;
      form = ap (λ y. form_of y.role y.common y.payload) out ∙ ap (form_of role.Member c) bare;
    }

-- An element by itself without values and children is a form.
pub made_is_form : (c : Common) (x : Payload) → without_values x ≡ x → IsMetadata (made role.Member c x [])
made_is_form c x bare = subst (λ y. IsMetadata (made role.Member c y [])) bare (is_form c x bare)

-- what is found of a payload, without its values
record Bare (g : List ℕ → MemberType → Option Data) (x : Payload) : Type 0 where
  named : kind_of (without_values x) ≡ kind_of x
  bare : without_values (without_values x) ≡ without_values x
  agree : (c : Common) → Agree (shown_own (without_values x)) g (attribute (attributes_at c (without_values x) []))

module _ (g : List ℕ → MemberType → Option Data) where
  bare_found : (x : Payload) (ks : List Element)
      → ((c : Common) → Agree (own_rows x) g (attribute (attributes_at c x ks))) → Bare g x
  bare_found (p.Property t v i) ks a =
      record { named = refl; bare = refl; agree = λ c. let own = a c in (own.0, (own.1.1.0, tt)) }
  bare_found (p.MultiLanguageProperty v i) ks a =
      record { named = refl; bare = refl; agree = λ c. ((a c).1.0, tt) }
  bare_found (p.Range t min max) ks a = record { named = refl; bare = refl; agree = λ c. ((a c).0, tt) }
  bare_found (p.File t v) ks a = record { named = refl; bare = refl; agree = λ c. tt }
  bare_found (p.Blob t v) ks a = record { named = refl; bare = refl; agree = λ c. tt }
  bare_found (p.ReferenceElement v) ks a = record { named = refl; bare = refl; agree = λ c. tt }
  bare_found (p.RelationshipElement first second) ks a = record { named = refl; bare = refl; agree = λ c. tt }
  bare_found (p.AnnotatedRelationshipElement first second) ks a =
      record { named = refl; bare = refl; agree = λ c. tt }
  bare_found (p.Entity t g ids) ks a = record { named = refl; bare = refl; agree = λ c. tt }
  bare_found (p.BasicEventElement observed d s topic broker last min max) ks a =
      record { named = refl; bare = refl; agree = λ c. (a c).1 }
  bare_found p.Capability ks a = record { named = refl; bare = refl; agree = λ c. tt }
  bare_found p.Operation ks a = record { named = refl; bare = refl; agree = λ c. tt }
  bare_found p.SubmodelElementCollection ks a = record { named = refl; bare = refl; agree = λ c. tt }
  bare_found (p.SubmodelElementList o s t v) ks a = record {
    named = refl;
    bare = refl;
    agree = λ c. let own = a c in (own.0, (own.1.0, (own.1.1.0, (own.1.1.1.0, tt))));
  }

abbrev shown_of : Kind → List Row
shown_of k = shown (rows_of_kind k)

form_model : (g : List ℕ → MemberType → Option Data) → Gives trees g → (k : Kind)
    → Model spell_form_of g (model_of shown_of k)
form_model g each k =
    model_as g each spell_form_of shown_of k (λ e model.
    let own = own_of g each k e in
    let y = own.payload in
    let found = bare_found g y own.kids own.agree in
    let x = without_values y in
    made_as g each spell_form_of shown_of k x [] (found.named ∙ own.named) model found.agree
    (λ c. (made role.Member c x [], made_is_form c x found.bare))
    (λ c. sym (spell_form role.Member c y)))

pub form_tree : (ms : Members) → Gives trees (canonical_member ms)
    → IsSpelled spell_form_of (canonical (one element_metadata) (object ms))
form_tree ms each = kinds_tree spell_form_of element_metadata ms shown_of refl (form_model (canonical_member ms) each)
