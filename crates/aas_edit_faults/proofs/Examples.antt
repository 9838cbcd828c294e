-- What the definitions say of a few elements.
use Rattle.std.proofs.Common.{◌≡◌, ℕ, false, List, [], ◌∷◌, map, flat_map, codes, Option, Some, None, refl, ap, ap₂}
use Rattle.aas_model.specs.Common.{head_with, no_attributes, no_semantics}
use Rattle.aas_model.specs.declared.documents.Submodel.{Submodel}
use Rattle.aas_model.specs.declared.element.Element.{Element, Element-F, out-roll-Element}
use Rattle.aas_model.specs.declared.element.Role.TheVariants.{Member}
use Rattle.aas_model.specs.declared.path.Fault.{Fault}
use Rattle.aas_model.specs.declared.path.PathStep.TheVariants.{Name, Place}
use Rattle.aas_model.specs.declared.payload.Payload.{Payload}
use Rattle.aas_model.specs.declared.payload.Payload.TheVariants as p
use Rattle.aas_model_names.specs.declared.kind.ElementName.TheVariants as element_name
use Rattle.aas_model_names.specs.declared.value_type.ValueType.TheVariants as value_type
use Rattle.aas_constraint_rules.specs.Faults.{fault, faults_at}
use Rattle.aas_constraint_rules.specs.Sites.{Own, own_of, Tree, node, none, sites, sites_among, trees}
use Rattle.aas_constraint_laws.specs.Law.{behind}
use Rattle.aas_constraint_laws.proofs.Bare.{made, tree_made}
use Rattle.aas_edit_faults.specs.Laws.{faults_as_child}

abbrev own : Option (List ℕ) → Payload → Own
own name payload = record { common = record no_attributes { id_short = name }; payload = payload; role = Member }

abbrev integer : Payload
integer = p.Property value_type.Int (Some (codes "1")) None

abbrev a : Own
a = own (Some (codes "a")) integer

abbrev b : Own
b = own (Some (codes "b")) integer

abbrev collection : Own
collection = own (Some (codes "c")) p.SubmodelElementCollection

abbrev list_of_integers : Own
list_of_integers = own (Some (codes "l")) (p.SubmodelElementList None None element_name.Property (Some value_type.Int))

-- the faults of an element without children, as a child of a parent after siblings
abbrev faults_under : Own → List Own → Own → List Fault
faults_under above before o = flat_map faults_at (sites_among false (Some above) before (trees (node o none ∷ [])))

-- in a collection a name stands once (AASd-022)
once : faults_under collection (b ∷ []) a ≡ []
unfolding sites lib.Utf8.encode
once = refl

twice : faults_under collection (a ∷ b ∷ []) a ≡ fault (Name (codes "a") ∷ []) 22 ∷ []
unfolding sites lib.Utf8.encode
twice = refl

-- a list of integers takes no text (AASd-109), and no name (AASd-120); the step is a place
named_text : faults_under list_of_integers (own None integer ∷ []) (own (Some (codes "a")) (p.Property value_type.String None None))
    ≡ fault (Place 1 ∷ []) 109 ∷ fault (Place 1 ∷ []) 120 ∷ []
unfolding sites lib.Utf8.encode
named_text = refl

-- ---- in a submodel

abbrev d : List Element → Submodel
d kids = record {
  head = head_with (codes "urn:d");
  kind = None;
  semantics = no_semantics;
  qualifiers = [];
  kids = kids;
}

abbrev own_over : Element-F Element → Own
own_over f = record { common = f.common; payload = f.payload; role = f.role }

own_made : (o : Own) (ks : List Element) → own_of (made o ks) ≡ o
own_made o ks = ap own_over (out-roll-Element (record { common = o.common; payload = o.payload; role = o.role; kids = ks }))

-- a second a beside the first
second : (kids : List Element) → faults_as_child (d kids) [] (made a [] ∷ []) (made a []) ≡ fault (Name (codes "a") ∷ []) 22 ∷ []
unfolding sites lib.Utf8.encode
second kids = ap₂ (λ (o : Own) (t : Tree). map (behind []) (flat_map faults_at (sites_among false None (o ∷ []) (trees (t ∷ []))))) (own_made a []) (tree_made a [])
