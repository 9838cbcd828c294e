-- The children of each kind of element, as they were read.
use Rattle.std.proofs.Common.{◌≡◌, ◌⊎◌, ℕ, List, [], ◌++◌, Option, codes, inl, inr, sym, ap, ◌∙◌, subst}
use Rattle.std.proofs.lemmas.List.{append_assoc}
use Rattle.serde_json.specs.Data.{Data}
use Rattle.aas_model_names.specs.declared.kind.Kind.{Kind}
use Rattle.aas_model_names.specs.declared.kind.Kind.TheVariants as kind
use Rattle.aas_json_table.specs.Table.{MemberType, many, element, data_element, operation_variable}
use Rattle.aas_model.specs.declared.element.Element.{Element}
use Rattle.aas_model.specs.declared.element.Role.{Role}
use Rattle.aas_model.specs.declared.element.Role.TheVariants as role
use Rattle.aas_json_read.specs.Own.{AreRead}
use Rattle.aas_json_read.specs.Children.{AddsChildren}
use Rattle.aas_json_read.proofs.Kids.{children_are, inputs_are, outputs_are, inoutputs_are}
use Rattle.aas_json_read.proofs.Places.{annotations_fit, statements_fit, collected_fit, listed_fit, variables_fit}

-- all that was added, where nothing was before
pub added : (r : Role) (before all : List Element) (o : Option Data) (a : AddsChildren r before all o) → before ≡ [] → a.more ≡ all
added r before all o a none = sym (a.after ∙ ap (λ l. l ++ a.more) none)

pub annotations_read : (find : List ℕ → MemberType → Option Data) (k : Kind) (before all : List Element) → k ≡ kind.AnnotatedRelationshipElement → before ≡ []
    → AddsChildren role.Annotation before all (find (codes "annotations") (many data_element)) → AreRead find k all
annotations_read find k before all is none a =
    subst (λ j. AreRead find j all) (sym is)
    (subst (AreRead find kind.AnnotatedRelationshipElement) (added role.Annotation before all _ a none) (record { says = children_are a.more _ a.says; places = annotations_fit a.more a.places }))

pub statements_read : (find : List ℕ → MemberType → Option Data) (k : Kind) (before all : List Element) → k ≡ kind.Entity → before ≡ []
    → AddsChildren role.Statement before all (find (codes "statements") (many element)) → AreRead find k all
statements_read find k before all is none a =
    subst (λ j. AreRead find j all) (sym is)
    (subst (AreRead find kind.Entity) (added role.Statement before all _ a none) (record { says = children_are a.more _ a.says; places = statements_fit a.more a.places }))

pub members_read : (find : List ℕ → MemberType → Option Data) (k : Kind) (before all : List Element) → (k ≡ kind.SubmodelElementCollection) ⊎ (k ≡ kind.SubmodelElementList) → before ≡ []
    → AddsChildren role.Member before all (find (codes "value") (many element)) → AreRead find k all
members_read find k before all (inl is) none a =
    subst (λ j. AreRead find j all) (sym is)
    (subst (AreRead find kind.SubmodelElementCollection) (added role.Member before all _ a none) (record { says = children_are a.more _ a.says; places = collected_fit a.more a.places }))
members_read find k before all (inr is) none a =
    subst (λ j. AreRead find j all) (sym is)
    (subst (AreRead find kind.SubmodelElementList) (added role.Member before all _ a none) (record { says = children_are a.more _ a.says; places = listed_fit a.more a.places }))

pub variables_read : (find : List ℕ → MemberType → Option Data) (before input output all : List Element) → before ≡ []
    → AddsChildren role.Input before input (find (codes "inputVariables") (many operation_variable))
    → AddsChildren role.Output input output (find (codes "outputVariables") (many operation_variable))
    → AddsChildren role.Inoutput output all (find (codes "inoutputVariables") (many operation_variable))
    → AreRead find kind.Operation all
variables_read find before input output all none a b d =
    let joined : a.more ++ (b.more ++ d.more) ≡ all =
    sym (d.after ∙ ap (λ l. l ++ d.more) (b.after ∙ ap (λ l. l ++ b.more) (sym (added role.Input before input _ a none))) ∙ append_assoc a.more b.more d.more) in
    subst (AreRead find kind.Operation) joined (record {
      says = (
        inputs_are a.more b.more d.more a.places b.places d.places _ a.says,
        outputs_are a.more b.more d.more a.places b.places d.places _ b.says,
        inoutputs_are a.more b.more d.more a.places b.places d.places _ d.says,
      );
      places = variables_fit a.more b.more d.more a.places b.places d.places;
    })
