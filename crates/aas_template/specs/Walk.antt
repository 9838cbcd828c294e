-- What the walk over a template and an instance gathers.
use Rattle.std.specs.Prelude.{List, Vec, map}
use denote.Ref.{Bor}
use Rattle.aas_model.specs.declared.element.Element.{Element}
use Rattle.aas_constraint_rules.specs.Sites.{own_of}
use Rattle.aas_template.specs.Differences.{belonging}

-- the elements that are referred to
abbrev pub elements : List (Bor Element) → List Element
elements references = map (λ r. r.now) references

abbrev pub gathered : {Z : Type 0} → List (Vec (Bor Element) Z) → List (List Element)
gathered groups = map (λ g. elements g.items) groups

-- of each of the children ts of a template, those of ks that belong to it
abbrev pub groups_of : List Element → List Element → List (List Element)
groups_of ts ks = map (λ t. belonging (map own_of ts) (own_of t) ks) ts
