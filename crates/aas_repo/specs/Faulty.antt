-- The documents of an environment that aren't taken for themselves. This profile's own rule.
use Rattle.std.specs.Prelude.{ℕ, ◌+◌, List, [], ◌∷◌, map, Option, Some, None, option_map}
use Rattle.std.specs.Option.{option_map_or, option_or}
use Rattle.aas_command.specs.declared.refusal.Refusal.{Refusal}
use Rattle.aas_command.specs.declared.refusal.Refusal.TheVariants.{Conflict}
use Rattle.aas_constraint_rules.specs.Faults.{Document, concept, shell, submodel}
use Rattle.aas_model.specs.declared.documents.Environment.{Environment}
use Rattle.aas_model_names.specs.declared.collection.Collection.{Collection}
use Rattle.aas_model_names.specs.declared.collection.Collection.TheVariants.{Concepts, Shells, Submodels}
use Rattle.aas_step.specs.Causes.{Cause, document_causes, first_of, has_repeated, when}

-- the first of some documents that has a fault or too many elements: its place,
-- where the first of them stands at n, and why it isn't taken
abbrev pub first_faulty_from : ℕ → List Document → Option (ℕ × Refusal)
first_faulty_from n [] = None
first_faulty_from n (x ∷ xs) =
    option_map_or (λ why. Some (n, why)) (first_of (document_causes x)) (first_faulty_from (n + 1) xs)

-- with the list of an environment in which it stands
abbrev pub in_list : Collection → Option (ℕ × Refusal) → Option ((Collection × ℕ) × Refusal)
in_list c found = option_map (λ f. ((c, f.0), f.1)) found

-- the first such document among an environment's shells, or else its submodels, or else its concept descriptions
abbrev pub first_faulty_in : Environment → Option ((Collection × ℕ) × Refusal)
first_faulty_in e =
    option_or (in_list Shells (first_faulty_from 0 (map shell e.shells)))
    (option_or (in_list Submodels (first_faulty_from 0 (map submodel e.submodels)))
    (in_list Concepts (first_faulty_from 0 (map concept e.concepts))))

-- For private clauses: the cause of its own that refuses an environment. An identifier that is repeated comes before
-- faulty documents.
abbrev pub own_cause : Environment → Cause
own_cause e = option_or (when (has_repeated e) Conflict) (option_map (λ f. f.1) (first_faulty_in e))
