-- The faults of documents: the pairs of path and number that don't hold, the document first, then its elements in preorder, at each by number.
-- At which element a broken constraint stands, and which fault is the first, is this profile's own rule.
use Rattle.std.specs.Prelude.{ℕ, ◌≡◌, Bool, true, false, not, ◌&&◌, ◌||◌, List, [], ◌∷◌, ◌++◌, map, flat_map, Option, Some, None, is_some, is_none, bytes_eq, codes}
use Rattle.std.specs.List.{list_all}
use Rattle.std.specs.Char.{to_ascii_lowercase}
use Rattle.aas_model_names.specs.declared.enumerations.ModellingKind.{ModellingKind}
use Rattle.aas_model_names.specs.declared.enumerations.ModellingKind.TheVariants as modelling_kind
use Rattle.aas_reference.specs.Rules.{Rule, row, failing, if_any}
use Rattle.aas_json_spelling.specs.Lists.{is_any}
use Rattle.aas_model.specs.declared.parts.Administration.{Administration}
use Rattle.aas_model.specs.declared.asset.AssetInformation.{AssetInformation}
use Rattle.aas_model.specs.declared.common.Head.{Head}
use Rattle.aas_model.specs.declared.documents.Submodel.{Submodel}
use Rattle.aas_model.specs.declared.documents.Shell.{Shell}
use Rattle.aas_model.specs.declared.documents.Concept.{Concept}
use Rattle.aas_model.specs.declared.element.Element.{Element}
use Rattle.aas_model.specs.declared.path.Fault.{Fault}
use Rattle.aas_model.specs.declared.path.PathStep.{PathStep}
use Rattle.aas_model.specs.declared.reference.Reference.{Reference}
use Rattle.aas_constraint_rules.specs.Sites.{Site, sites_among, tree_of, trees}
use Rattle.aas_constraint_rules.specs.Attributes.{seen_of_submodel, seen_of_shell, seen_of_concept}
use Rattle.aas_constraint_rules.specs.Lexical.{seen_has_form, head_has_form, asset_has_form, reference_has_form}
use Rattle.aas_constraint_rules.specs.Rules.{holds, rules, id_short_is_name, qualifiers_have_form, qualifiers_differ, extensions_differ, semantics_have_main, texts_are_strings, reference_is_string, subjects_are_external, has_template_qualifier}
use Rattle.aas_constraint_rules.specs.Sentences.{Sentence, about, about_references, holds_of, rules_on_references}

abbrev pub fault : List PathStep → ℕ → Fault
fault p n = record { number = n; path = record { steps = p } }

-- ---- elements

-- the numbers of the sentences that don't hold at a place
abbrev pub broken : Site → List ℕ
broken x = failing (λ s. holds s x) rules

abbrev pub faults_at : Site → List Fault
faults_at x = map (fault x.path) (broken x)

-- ---- documents: sentences about the document itself

-- 005: no revision without a version
abbrev pub revision_has_version : Administration → Bool
revision_has_version a = is_some a.version || is_none a.revision

abbrev pub head_is_versioned : Head → Bool
head_is_versioned h = if_any revision_has_version h.administration

abbrev pub is_template : Option ModellingKind → Bool
is_template (Some modelling_kind.Template) = true
is_template _ = false

-- 116: each SpecificAssetId named globalAssetId in any ASCII case has the value of globalAssetId, which is there
abbrev pub is_global_name : List ℕ → Bool
is_global_name s = bytes_eq (map to_ascii_lowercase s) (codes "globalassetid")

abbrev pub equals : Option (List ℕ) → List ℕ → Bool
equals None s = false
equals (Some g) s = bytes_eq g s

abbrev pub global_ids_agree : AssetInformation → Bool
global_ids_agree a = list_all (λ i. not (is_global_name i.name) || equals a.global_asset_id i.value) a.specific_asset_ids

-- 131: a globalAssetId or a specificAssetId is there
abbrev pub asset_is_named : AssetInformation → Bool
asset_is_named a = is_some a.global_asset_id || is_any a.specific_asset_ids

abbrev pub submodel_rules : List (Rule (Sentence Submodel))
submodel_rules =
    row 0 (record { itself = λ d. seen_has_form (seen_of_submodel d) && head_has_form d.head; each_reference = reference_has_form })
    ∷ row 2 (about (λ d. id_short_is_name (seen_of_submodel d)))
    ∷ row 5 (about (λ d. head_is_versioned d.head))
    ∷ row 20 (about (λ d. qualifiers_have_form (seen_of_submodel d)))
    ∷ row 21 (about (λ d. qualifiers_differ (seen_of_submodel d)))
    ∷ row 77 (about (λ d. extensions_differ (seen_of_submodel d)))
    ∷ row 118 (about (λ d. semantics_have_main (seen_of_submodel d)))
    ∷ row 119 (about (λ d. is_template d.kind || not (has_template_qualifier d.qualifiers)))
    ∷ rules_on_references about_references
    ++ row 130 (record { itself = λ d. texts_are_strings (seen_of_submodel d); each_reference = reference_is_string })
    ∷ []

abbrev pub shell_rules : List (Rule (Sentence Shell))
shell_rules =
    row 0 (record { itself = λ d. seen_has_form (seen_of_shell d) && head_has_form d.head && asset_has_form d.asset; each_reference = reference_has_form })
    ∷ row 2 (about (λ d. id_short_is_name (seen_of_shell d)))
    ∷ row 5 (about (λ d. head_is_versioned d.head))
    ∷ row 77 (about (λ d. extensions_differ (seen_of_shell d)))
    ∷ row 116 (about (λ d. global_ids_agree d.asset))
    ∷ row 118 (about (λ d. semantics_have_main (seen_of_shell d)))
    ∷ rules_on_references about_references
    ++ row 130 (record { itself = λ d. texts_are_strings (seen_of_shell d); each_reference = reference_is_string })
    ∷ row 131 (about (λ d. asset_is_named d.asset))
    ∷ row 133 (about (λ d. subjects_are_external (seen_of_shell d)))
    ∷ []

abbrev pub concept_rules : List (Rule (Sentence Concept))
concept_rules =
    row 0 (record { itself = λ d. seen_has_form (seen_of_concept d) && head_has_form d.head; each_reference = reference_has_form })
    ∷ row 2 (about (λ d. id_short_is_name (seen_of_concept d)))
    ∷ row 5 (about (λ d. head_is_versioned d.head))
    ∷ row 77 (about (λ d. extensions_differ (seen_of_concept d)))
    ∷ row 118 (about (λ d. semantics_have_main (seen_of_concept d)))
    ∷ rules_on_references about_references
    ++ row 130 (record { itself = λ d. texts_are_strings (seen_of_concept d); each_reference = reference_is_string })
    ∷ []

-- the faults of a document itself, which has these references
abbrev pub document_faults : {D : Type 0} → List (Rule (Sentence D)) → List Reference → D → List Fault
document_faults rules references d = map (fault []) (failing (holds_of references d) rules)

-- ---- whole documents

abbrev pub sites_of : Submodel → List Site
sites_of d = sites_among (is_template d.kind) None [] (trees (map tree_of d.kids))

abbrev pub faults : Submodel → List Fault
faults d = document_faults submodel_rules (seen_of_submodel d).references d ++ flat_map faults_at (sites_of d)

abbrev pub shell_faults : Shell → List Fault
shell_faults d = document_faults shell_rules (seen_of_shell d).references d

abbrev pub concept_faults : Concept → List Fault
concept_faults d = document_faults concept_rules (seen_of_concept d).references d

-- of an element as the only child of a submodel of kind Template
abbrev pub element_faults : Element → List Fault
element_faults e = flat_map faults_at (sites_among true None [] (trees (tree_of e ∷ [])))

-- ---- documents of each sort

pub data Document : Type 0 where
  submodel : Submodel → Document
  shell : Shell → Document
  concept : Concept → Document

abbrev pub faults_of : Document → List Fault
faults_of (submodel d) = faults d
faults_of (shell d) = shell_faults d
faults_of (concept d) = concept_faults d

abbrev pub HasNoFault : Document → Type 0
HasNoFault x = faults_of x ≡ []
