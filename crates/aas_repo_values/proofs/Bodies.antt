-- What a change of values in a submodel leaves as it was: of one element, or of all that stands in it.
use Rattle.std.proofs.Common.{◌≡◌, false, List, [], ◌∷◌, ◌++◌, length, map, flat_map, Some, refl, sym, ap, ap₂, ◌∙◌}
use Rattle.aas_json_mapping.proofs.Elements.{made, made_out}
use Rattle.aas_model.specs.Payload.{kind_of}
use Rattle.aas_model.specs.declared.documents.Submodel.{Submodel}
use Rattle.aas_model.specs.declared.element.Element.{Element, out-Element}
use Rattle.aas_model.specs.declared.element.Role.TheVariants as role
use Rattle.aas_model.specs.declared.path.PathStep.{PathStep}
use Rattle.aas_model.specs.declared.payload.Payload.{Payload}
use Rattle.aas_model.specs.declared.payload.Payload.TheVariants as payload
use Rattle.aas_model_names.specs.declared.kind.Kind.{Kind}
use Rattle.aas_model.specs.Common.{no_attributes}
use Rattle.aas_path_trees.specs.Children.{kids_of}
use Rattle.aas_path_trees.specs.ElementAt.{child_by, element_at}
use Rattle.aas_path_trees.specs.Patched.{kinds_over, kinds, kinds_of_all, element_count}
use Rattle.aas_path_trees.specs.WithElement.{with_element}
use Rattle.aas_path_trees.proofs.Paths.{child_by-there}
use Rattle.aas_constraint_laws.specs.Values.{without_values, bare_over, bare, DifferInValues}
use Rattle.aas_constraint_laws.proofs.StaysWhole.{same_changed, same_with, same_with_child}
use Rattle.aas_value_update.specs.Update.{body}
use Rattle.aas_value_update.proofs.Alone.{fields}
use Rattle.aas_value_update.proofs.Rest.{bare_at}

-- ---- children that differ in values alone

pub kids_differ : (s : Submodel) (p : List PathStep) (e u : Element) → element_at s p ≡ Some e → DifferInValues e u
    → map bare s.kids ≡ map bare (with_element s p u).kids
unfolding bare
kids_differ s [] e u there same = absurd (cc)
kids_differ s (t ∷ p) e u there same =
    sym (same_with_child bare_over p s.kids e u (λ x. same_with bare_over p x e u (sym same)) (child_by false t s.kids)
    (λ c is. (child_by-there false t s.kids c is).1) there)

kind_bare : (x : Payload) → kind_of (without_values x) ≡ kind_of x
kind_bare payload.Capability = refl
kind_bare _ = refl

same_kinds : (e u : Element) → DifferInValues e u → kinds e ≡ kinds u
unfolding kinds
same_kinds e u same = sym (same_changed kinds_over
    (λ o (ts : List (List Kind)). ap (λ k. k ∷ flat_map (λ ks. ks) ts) (kind_bare o.payload)) e u same)

same_kinds_of_all : (ks us : List Element) → map bare ks ≡ map bare us → kinds_of_all ks ≡ kinds_of_all us
same_kinds_of_all [] [] same = refl
same_kinds_of_all [] (u ∷ us) same = absurd (cc)
same_kinds_of_all (k ∷ ks) [] same = absurd (cc)
same_kinds_of_all (k ∷ ks) (u ∷ us) same =
    let one : bare k ≡ bare u = cc in
    let more : map bare ks ≡ map bare us = cc in
    ap₂ (λ a b. a ++ b) (same_kinds k u one) (same_kinds_of_all ks us more)

pub as_many : (s n : Submodel) → map bare s.kids ≡ map bare n.kids → element_count n ≡ element_count s
as_many s n same = ap length (sym (same_kinds_of_all s.kids n.kids same))

-- ---- an element that differs from a body

is_collection : (x : Payload)
    → payload.SubmodelElementCollection ≡ without_values x → x ≡ payload.SubmodelElementCollection
is_collection payload.SubmodelElementCollection e = refl
is_collection x e = absurd (cc)

-- is the body of the submodel with its children
pub record IsBody (s : Submodel) (u : Element) : Type 0 where
  pub is : u ≡ body (record s { kids = kids_of u })
  pub differ : map bare s.kids ≡ map bare (kids_of u)

pub is_body : (s : Submodel) (u : Element) → DifferInValues (body s) u → IsBody s u
is_body s u same =
    let x = out-Element u in
    let f =
    fields role.Member x.role no_attributes x.common payload.SubmodelElementCollection
    (without_values x.payload) (map bare s.kids) (map bare x.kids)
    (sym (bare_at role.Member no_attributes payload.SubmodelElementCollection s.kids) ∙ same
    ∙ ap bare (sym (made_out u)) ∙ bare_at x.role x.common x.payload x.kids) in
    let c = is_collection x.payload f.payloads in
    record {
      is = sym (made_out u) ∙ (λ i. made (sym f.roles i) (sym f.commons i) (c i) (kids_of u));
      differ = f.kids;
    }
