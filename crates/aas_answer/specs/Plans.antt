-- Plans of answers: which documents are told, of which there may be many.
use Rattle.std.specs.Prelude.{◌≡◌, ℕ, Bool, true, false, List, [], slice_get, is_some, Option, Some, None}
use Rattle.std.specs.Prelude.{Ok, if◌then◌else◌}
use Rattle.std.specs.Option.{option_map_or}
use Rattle.std.specs.Str.{encode_utf8_all}
use Rattle.aas_json_mapping.specs.Trees.{concepts, environments, shells}
use Rattle.aas_json_spelling.specs.Spells.{canonical_text}
use Rattle.aas_model_names.specs.declared.collection.Collection.{Collection}
use Rattle.aas_model_names.specs.declared.collection.Collection.TheVariants.{Shells, Submodels, Concepts}
use Rattle.aas_model_names.specs.declared.modifiers.Extent.{Extent}
use Rattle.aas_model_names.specs.declared.modifiers.Level.{Level}
use Rattle.aas_page.specs.declared.filter.Selection.{Selection}
use Rattle.aas_question.specs.declared.question.Question.{Question}
use Rattle.aas_question.specs.declared.question.Question.TheVariants as question
use Rattle.aas_store.specs.Documents.{Documents}
use Rattle.aas_answer.specs.Answers.{Answer, answer_of, of_concepts, of_shells, of_submodels, page_text, submodel_shown}
use Rattle.aas_answer.specs.Shown.{document_shown}
use Rattle.aas_answer.specs.declared.plans.Listing.{Listing}
use Rattle.aas_answer.specs.declared.plans.Plan.{Plan}
use Rattle.aas_answer.specs.declared.plans.Plan.TheVariants as plan
use Rattle.aas_serialization.specs.Chosen.{chosen_environment}
use Rattle.aas_serialization.specs.declared.choice.Chosen.{Chosen}

-- what is told of the document of an identifier
abbrev pub entry_text : Documents → Listing → List ℕ → List ℕ
entry_text d p id = document_shown p.collection p.level p.extent (encode_utf8_all id) d

-- the text of the page, or of the one document
abbrev pub listing_text : Documents → Listing → List ℕ
listing_text d p =
    if p.single
    then option_map_or (entry_text d p) (slice_get p.ids 0) []
    else page_text (entry_text d p) p.cursor (record { entries = p.ids; more = is_some p.cursor })

-- the text of the environment of some chosen documents
abbrev pub environment_text : Documents → Chosen → List ℕ
environment_text d chosen = canonical_text environments (chosen_environment d chosen)

abbrev pub plan_text : Documents → Plan → List ℕ
plan_text d (plan.Listing listing) = listing_text d listing
plan_text d (plan.Environment chosen) = environment_text d chosen

-- whether answers to a question are planned, which those are that tell whole documents:
-- a page of any, one submodel, an environment
abbrev pub is_planned : Question → Bool
is_planned (question.Shells s) = true
is_planned (question.Submodels s level extent) = true
is_planned (question.Submodel id level extent) = true
is_planned (question.Concepts s) = true
is_planned (question.Serialization s t c) = true
is_planned q = false

-- the plan tells the answer to the question, which has none exactly where it isn't planned
abbrev pub IsPlanOf : Documents → Question → Option Plan → Type 0
IsPlanOf d q None = is_planned q ≡ false
IsPlanOf d q (Some p) = (is_planned q ≡ true) × (answer_of d q ≡ Ok (plan_text d p))

-- a page of whole documents, submodels at a level and to an extent
abbrev pub page_shown : Collection → Level → Extent → Documents → Selection → Answer
page_shown Shells level extent d s = of_shells d s (canonical_text shells)
page_shown Submodels level extent d s = of_submodels d s (submodel_shown level extent)
page_shown Concepts level extent d s = of_concepts d s (canonical_text concepts)
