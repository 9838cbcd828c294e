-- Sentences about things that have references. Each reference of an attribute is looked at with those within it.
use Rattle.std.specs.Prelude.{Bool, true, ◌&&◌, List, map}
use Rattle.std.specs.List.{list_all}
use Rattle.aas_model.specs.declared.reference.Reference.{Reference}
use Rattle.aas_reference.specs.Rules.{Rule, row, keeps, reference_rules}

-- what is wanted of a thing itself, and what of each of its references
pub record Sentence (X : Type 0) : Type 0 where
  pub itself : X → Bool
  pub each_reference : Reference → Bool

abbrev pub about : {X : Type 0} → (X → Bool) → Sentence X
about test = record { itself = test; each_reference = λ r. true }

abbrev pub about_references : {X : Type 0} → (Reference → Bool) → Sentence X
about_references test = record { itself = λ x. true; each_reference = test }

-- a sentence holds of a thing that has these references
abbrev pub holds_of : {X : Type 0} → List Reference → X → Sentence X → Bool
holds_of references x s = s.itself x && list_all s.each_reference references

-- 121 to 128: each reference keeps the constraint
abbrev pub rules_on_references : {S : Type 0} → ((Reference → Bool) → S) → List (Rule S)
rules_on_references sentence = map (λ r. row r.number (sentence (keeps r.sentence))) reference_rules
