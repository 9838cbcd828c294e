-- Parts that take what is sent for them.
use Rattle.std.specs.Prelude.{◌≡◌, ℕ, List, [], ◌∷◌, Option, Some}
use Rattle.serde_json.specs.Data.{Data}
use Rattle.aas_model.specs.declared.payload.Payload.{Payload}
use Rattle.aas_model.specs.declared.payload.Payload.TheVariants as p
use Rattle.aas_value.specs.Parts.{Part, over}

-- y is x with what was sent laid over its value
abbrev pub TookOne : Part → Option Data → Part → Type 0
TookOne x s y = y.child ≡ record x.child { form = over x.lay x.child.form s }

abbrev pub Took : List Part → List (Option Data) → List Part → Type 0
Took [] [] [] = Unit {0}
Took (x ∷ xs) (s ∷ ss) (y ∷ ys) = TookOne x s y × Took xs ss ys
Took xs ss ys = ⊥

-- each part has a name
abbrev pub AreNamed : List Part → Type 0
AreNamed [] = Unit {0}
AreNamed (x ∷ xs) = ((n : List ℕ) × (x.child.name ≡ Some n)) × AreNamed xs

-- the annotations of a relationship need names
abbrev pub NamedIn : Payload → List Part → Type 0
NamedIn (p.AnnotatedRelationshipElement first second) xs = AreNamed xs
NamedIn _ xs = Unit {0}
