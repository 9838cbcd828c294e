-- Shells, submodels and concept descriptions: what is whole spells what is good, what spells what is good is whole, and what spells the same is the same.
use Rattle.std.proofs.Common.{◌≡◌, ℕ, ◌&&◌, List, [], ◌∷◌, ◌++◌, Bool, true, Some, codes, refl, sym, ap, ◌∙◌, subst}
use Rattle.std.proofs.lemmas.Bool.{and_from}
use Rattle.std.specs.List.{list_all}
use Rattle.std.proofs.lemmas.Option.{same_Some}
use Rattle.aas_model_names.specs.ModellingKindNames as modelling_kind
use Rattle.aas_json_table.specs.Names.{modelling_kinds}
use Rattle.aas_json_table.specs.Table.{Sort, one, many, word, asset_information, Row, required, optional, valued, shell, submodel, concept, element, submodel_metadata, reference, referable, identifiable, has_semantics, qualifiable}
use Rattle.aas_json_table.specs.TooDeep.{Levels, enter}
use Rattle.aas_json_table.specs.Canonical.{are_there}
use Rattle.aas_json_table.specs.Spelled.{Attributes, attribute, spelled}
use Rattle.aas_model.specs.declared.common.Head.{Head}
use Rattle.aas_model.specs.declared.documents.Shell.{Shell}
use Rattle.aas_model.specs.declared.documents.Submodel.{Submodel}
use Rattle.aas_model.specs.declared.documents.Concept.{Concept}
use Rattle.aas_json_spelling.specs.Good.{Good}
use Rattle.aas_lemmas.proofs.Truth.{and_left, and_right}
use Rattle.aas_json_spelling.proofs.Objects.{Agree, AreGood}
use Rattle.aas_json_spelling.proofs.MemberTypes.{text_good, named_if_good, same_texts, same_words_if}
use Rattle.aas_reference.specs.Whole.{is_whole, whole_if_there}
use Rattle.aas_json_mapping.specs.Documents.{typed, head_attributes, shell_attributes, submodel_attributes, concept_attributes, spell_shell, spell_submodel, spell_concept}
use Rattle.aas_json_mapping.specs.Metadata.{IsSubmodelMetadata}
use Rattle.aas_json_mapping.specs.Shape.{IsShapedSubmodel}
use Rattle.aas_json_mapping.specs.Whole.{whole_kept, whole_extension, whole_administration_if_there, whole_head, whole_semantics, whole_qualifier, whole_asset_information, is_whole_element, is_whole_shell, is_whole_submodel, is_whole_concept}
use Rattle.aas_json_mapping.proofs.Rows.{good_before, good_with, agree_before, object_made, object_inside, same_rows, IsModel, typed_rise, typed_rows}
use Rattle.aas_json_mapping.proofs.Facts.{Facts, ShapedFacts, shaped_good, shaped_back, shaped_same, all_good, all_back, all_same, if_same, reference_facts, reference_if_good, reference_if_back}
use Rattle.aas_json_mapping.proofs.Parts.{administration_facts, administration_if_good, administration_if_back, asset_information_facts, qualifier_facts, semantics_good, semantics_back, same_semantics}
use Rattle.aas_json_mapping.proofs.Referable.{Referable, referable_good, referable_back, same_referable}
use Rattle.aas_json_mapping.proofs.ElementsWhole.{element_facts}

-- ---- objects of one modelType

module _ (s : Sort) (n : List ℕ) (rows : List Row) (model : IsModel s n rows) (l : Levels) (attributes : Attributes)
    (entered : enter s l ≡ Some l) where
  document_good : are_there (referable ++ rows) (attribute (typed n attributes)) ≡ true
      → AreGood l (referable ++ rows) (attribute (typed n attributes))
      → Good l (one s) (Some (spelled (referable ++ rows) (typed n attributes)))
  document_good e good =
      let g = attribute (typed n attributes) in
      object_made s l l (referable ++ rows) g entered (typed_rows s n rows model g refl) e good

  document_back : Good l (one s) (Some (spelled (referable ++ rows) (typed n attributes)))
      → AreGood l (referable ++ rows) (attribute (typed n attributes))
  document_back good =
      let g = attribute (typed n attributes) in
      object_inside s l l (referable ++ rows) g entered (typed_rows s n rows model g refl) good

same_document : (s : Sort) (n : List ℕ) (rows : List Row) → IsModel s n rows → (as_ bs : Attributes)
    → spelled (referable ++ rows) (typed n as_) ≡ spelled (referable ++ rows) (typed n bs)
    → Agree (referable ++ rows) (attribute (typed n as_)) (attribute (typed n bs))
same_document s n rows model as_ bs e =
    same_rows (referable ++ rows) (typed n as_) (typed n bs) (typed_rise s n rows model) e

-- ---- Identifiable

abbrev pub referable_in : Head → Referable
referable_in h = record {
  category = h.category;
  description = h.description;
  display_name = h.display_name;
  extensions = h.extensions;
  id_short = h.id_short;
  embedded_data_specifications = h.embedded_data_specifications;
}

head_good : (l : Levels) (n : List ℕ) (h : Head) (rows : List Row) (own : Attributes) → whole_head l h ≡ true → AreGood l rows (attribute (typed n (head_attributes h ++ own)))
    → AreGood l (referable ++ (identifiable ++ rows)) (attribute (typed n (head_attributes h ++ own)))
head_good l n h rows own w good =
    let g = attribute (typed n (head_attributes h ++ own)) in
    let a = whole_administration_if_there l h.administration in
    let e = list_all (whole_extension l) h.extensions in
    let k = whole_kept l h.embedded_data_specifications in
    let first = and_left (a && e) k w in
    good_with l referable (identifiable ++ rows) g (referable_good l n (referable_in h) (and_right a e first) (and_right (a && e) k w))
    (text_good l (Some h.id), (administration_if_good l h.administration (and_left a e first), good))

head_back : (l : Levels) (n : List ℕ) (h : Head) (rows : List Row) (own : Attributes) → AreGood l (referable ++ (identifiable ++ rows)) (attribute (typed n (head_attributes h ++ own)))
    → (whole_head l h ≡ true) × AreGood l rows (attribute (typed n (head_attributes h ++ own)))
head_back l n h rows own good =
    let g = attribute (typed n (head_attributes h ++ own)) in
    let split = good_before l referable (identifiable ++ rows) g good in
    let first = referable_back l n (referable_in h) split.0 in
    let a = whole_administration_if_there l h.administration in
    let e = list_all (whole_extension l) h.extensions in
    let k = whole_kept l h.embedded_data_specifications in
    (and_from (a && e) k (and_from a e (administration_if_back l h.administration split.1.1.0) first.0) first.1, split.1.1.1)

same_head : (n : List ℕ) (h k : Head) (rows : List Row) (a b : Attributes) → Agree (referable ++ (identifiable ++ rows)) (attribute (typed n (head_attributes h ++ a))) (attribute (typed n (head_attributes k ++ b)))
    → (h ≡ k) × Agree rows (attribute (typed n (head_attributes h ++ a))) (attribute (typed n (head_attributes k ++ b)))
same_head n h k rows a b agree =
    let split = agree_before referable (identifiable ++ rows) (attribute (typed n (head_attributes h ++ a))) (attribute (typed n (head_attributes k ++ b))) agree in
    let first = (same_referable n n (referable_in h) (referable_in k) split.0).1 in
    let id = same_texts h.id k.id split.1.0 in
    let administration = if_same administration_facts h.administration k.administration split.1.1.0 in (
      (λ i. record {
        id = id i;
        administration = administration i;
        id_short = (first i).id_short;
        category = (first i).category;
        description = (first i).description;
        display_name = (first i).display_name;
        extensions = (first i).extensions;
        embedded_data_specifications = (first i).embedded_data_specifications;
      }),
      split.1.1.1,
    )

-- ---- AssetAdministrationShell

abbrev pub shell_rows : List Row
shell_rows = required (codes "assetInformation") (one asset_information) ∷ optional (codes "derivedFrom") (one reference) ∷ optional (codes "submodels") (many reference) ∷ []

abbrev pub shell_name : List ℕ
shell_name = codes "AssetAdministrationShell"

shell_model : IsModel shell shell_name (identifiable ++ shell_rows)
shell_model = record { first = _; rest = _; models = refl; found = refl }

shell_good : (l : Levels) (s : Shell) → is_whole_shell l s ≡ true → Good l (one shell) (Some (spell_shell s))
shell_good l s w =
    let h = whole_head l s.head in
    let d = whole_if_there l s.derived_from in
    let a = whole_asset_information l s.asset in
    let m = list_all (is_whole l) s.submodels in
    let three = and_left (h && d && a) m w in
    let two = and_left (h && d) a three in
    document_good shell shell_name (identifiable ++ shell_rows) shell_model l (head_attributes s.head ++ shell_attributes s) refl refl
    (head_good l shell_name s.head shell_rows (shell_attributes s) (and_left h d two) (
      asset_information_facts.good l s.asset (and_right (h && d) a three),
      (reference_if_good l s.derived_from (and_right h d two), (all_good reference_facts l s.submodels (and_right (h && d && a) m w), tt)),
    ))

shell_back : (l : Levels) (s : Shell) → Good l (one shell) (Some (spell_shell s)) → is_whole_shell l s ≡ true
shell_back l s good =
    let inside = document_back shell shell_name (identifiable ++ shell_rows) shell_model l (head_attributes s.head ++ shell_attributes s) refl good in
    let head = head_back l shell_name s.head shell_rows (shell_attributes s) inside in
    let h = whole_head l s.head in
    let d = whole_if_there l s.derived_from in
    let a = whole_asset_information l s.asset in
    and_from (h && d && a) (list_all (is_whole l) s.submodels)
    (and_from (h && d) a (and_from h d head.0 (reference_if_back l s.derived_from head.1.1.0)) (asset_information_facts.back l s.asset head.1.0))
    (all_back reference_facts l s.submodels head.1.1.1.0)

same_shell : (s t : Shell) → spell_shell s ≡ spell_shell t → s ≡ t
same_shell s t e =
    let agree = same_document shell shell_name (identifiable ++ shell_rows) shell_model (head_attributes s.head ++ shell_attributes s) (head_attributes t.head ++ shell_attributes t) e in
    let head = same_head shell_name s.head t.head shell_rows (shell_attributes s) (shell_attributes t) agree in
    let h = head.0 in
    let a = asset_information_facts.same s.asset t.asset (same_Some _ _ head.1.0) in
    let d = if_same reference_facts s.derived_from t.derived_from head.1.1.0 in
    let m = all_same reference_facts s.submodels t.submodels head.1.1.1.0 in
    λ i. record { head = h i; derived_from = d i; asset = a i; submodels = m i }

pub shell_facts : Facts shell spell_shell is_whole_shell
shell_facts = record { good = shell_good; back = shell_back; same = same_shell }

-- ---- ConceptDescription

abbrev pub concept_rows : List Row
concept_rows = optional (codes "isCaseOf") (many reference) ∷ []

abbrev pub concept_name : List ℕ
concept_name = codes "ConceptDescription"

concept_model : IsModel concept concept_name (identifiable ++ concept_rows)
concept_model = record { first = _; rest = _; models = refl; found = refl }

concept_good : (l : Levels) (c : Concept) → is_whole_concept l c ≡ true → Good l (one concept) (Some (spell_concept c))
concept_good l c w =
    document_good concept concept_name (identifiable ++ concept_rows) concept_model l (head_attributes c.head ++ concept_attributes c) refl refl
    (head_good l concept_name c.head concept_rows (concept_attributes c) (and_left (whole_head l c.head) (list_all (is_whole l) c.is_case_of) w)
    (all_good reference_facts l c.is_case_of (and_right (whole_head l c.head) (list_all (is_whole l) c.is_case_of) w), tt))

concept_back : (l : Levels) (c : Concept) → Good l (one concept) (Some (spell_concept c)) → is_whole_concept l c ≡ true
concept_back l c good =
    let inside = document_back concept concept_name (identifiable ++ concept_rows) concept_model l (head_attributes c.head ++ concept_attributes c) refl good in
    let head = head_back l concept_name c.head concept_rows (concept_attributes c) inside in
    and_from (whole_head l c.head) (list_all (is_whole l) c.is_case_of) head.0 (all_back reference_facts l c.is_case_of head.1.0)

same_concept : (c d : Concept) → spell_concept c ≡ spell_concept d → c ≡ d
same_concept c d e =
    let agree = same_document concept concept_name (identifiable ++ concept_rows) concept_model (head_attributes c.head ++ concept_attributes c) (head_attributes d.head ++ concept_attributes d) e in
    let head = same_head concept_name c.head d.head concept_rows (concept_attributes c) (concept_attributes d) agree in
    let h = head.0 in
    let m = all_same reference_facts c.is_case_of d.is_case_of head.1.0 in
    λ i. record { head = h i; is_case_of = m i }

pub concept_facts : Facts concept spell_concept is_whole_concept
concept_facts = record { good = concept_good; back = concept_back; same = same_concept }

-- ---- Submodel

abbrev pub kids_row : List Row
kids_row = valued (optional (codes "submodelElements") (many element)) ∷ []

-- the rows of a submodel after those of Identifiable, with some of its own
abbrev pub described_rows : List Row → List Row
described_rows own = optional (codes "kind") (word modelling_kinds) ∷ (has_semantics ++ (qualifiable ++ own))

abbrev pub submodel_rows : List Row
submodel_rows = described_rows kids_row

abbrev pub submodel_name : List ℕ
submodel_name = codes "Submodel"

abbrev pub given : Submodel → Attributes
given s = head_attributes s.head ++ submodel_attributes s

-- all that stands in a submodel but its elements is whole
abbrev pub described : Levels → Submodel → Bool
described l s = whole_head l s.head && whole_semantics l s.semantics && list_all (whole_qualifier l) s.qualifiers

module _ (own : List Row) where
  described_good : (l : Levels) (s : Submodel) → described l s ≡ true → AreGood l own (attribute (typed submodel_name (given s)))
      → AreGood l (referable ++ (identifiable ++ described_rows own)) (attribute (typed submodel_name (given s)))
  described_good l s w good =
      let h = whole_head l s.head in
      let m = whole_semantics l s.semantics in
      let q = list_all (whole_qualifier l) s.qualifiers in
      let two = and_left (h && m) q w in
      let g = attribute (typed submodel_name (given s)) in
      head_good l submodel_name s.head (described_rows own) (submodel_attributes s) (and_left h m two) (
        named_if_good l modelling_kind.name_of modelling_kind.all modelling_kind.found s.kind,
        good_with l has_semantics (qualifiable ++ own) g (semantics_good l s.semantics (and_right h m two))
            (all_good qualifier_facts l s.qualifiers (and_right (h && m) q w), good),
      )

  described_back : (l : Levels) (s : Submodel)
      → AreGood l (referable ++ (identifiable ++ described_rows own)) (attribute (typed submodel_name (given s)))
      → (described l s ≡ true) × AreGood l own (attribute (typed submodel_name (given s)))
  described_back l s good =
      let head = head_back l submodel_name s.head (described_rows own) (submodel_attributes s) good in
      let g = attribute (typed submodel_name (given s)) in
      let semantics = good_before l has_semantics (qualifiable ++ own) g head.1.1 in
      let h = whole_head l s.head in
      let m = whole_semantics l s.semantics in
      let q = list_all (whole_qualifier l) s.qualifiers in
      let two = and_from h m head.0 (semantics_back l s.semantics semantics.0) in
      (and_from (h && m) q two (all_back qualifier_facts l s.qualifiers semantics.1.0), semantics.1.1)

  same_described : (s t : Submodel)
      → Agree (referable ++ (identifiable ++ described_rows own)) (attribute (typed submodel_name (given s)))
      (attribute (typed submodel_name (given t)))
      → (s.kids ≡ t.kids → s ≡ t)
      × Agree own (attribute (typed submodel_name (given s))) (attribute (typed submodel_name (given t)))
  same_described s t agree =
      let a = attribute (typed submodel_name (given s)) in
      let b = attribute (typed submodel_name (given t)) in
      let head =
      same_head submodel_name s.head t.head (described_rows own) (submodel_attributes s) (submodel_attributes t) agree in
      let split = agree_before has_semantics (qualifiable ++ own) a b head.1.1 in
      let h = head.0 in
      let k = same_words_if modelling_kind.name_of modelling_kind.all modelling_kind.found s.kind t.kind head.1.0 in
      let m = same_semantics s.semantics t.semantics split.0 in
      let q = all_same qualifier_facts s.qualifiers t.qualifiers split.1.0 in
      ((λ ks i. record { head = h i; kind = k i; semantics = m i; qualifiers = q i; kids = ks i }), split.1.1)

submodel_model : IsModel submodel submodel_name (identifiable ++ submodel_rows)
submodel_model = record { first = _; rest = _; models = refl; found = refl }

submodel_good : (l : Levels) (s : Submodel) → is_whole_submodel l s ≡ true → Good l (one submodel) (Some (spell_submodel s))
submodel_good l s w =
    let d = described l s in
    let k = list_all (is_whole_element l) s.kids in
    document_good submodel submodel_name (identifiable ++ submodel_rows) submodel_model l (given s) refl refl
    (described_good kids_row l s (and_left d k w) (shaped_good element_facts l s.kids (and_right d k w), tt))

submodel_back : (l : Levels) (s : Submodel) → IsShapedSubmodel s → Good l (one submodel) (Some (spell_submodel s))
    → is_whole_submodel l s ≡ true
submodel_back l s shape good =
    let inside = document_back submodel submodel_name (identifiable ++ submodel_rows) submodel_model l (given s) refl good in
    let back = described_back kids_row l s inside in
    and_from (described l s) (list_all (is_whole_element l) s.kids) back.0
    (shaped_back element_facts l s.kids shape back.1.0)

same_submodel : (s t : Submodel) → IsShapedSubmodel s → IsShapedSubmodel t → spell_submodel s ≡ spell_submodel t → s ≡ t
same_submodel s t a b e =
    let agree = same_document submodel submodel_name (identifiable ++ submodel_rows) submodel_model (given s) (given t) e in
    let same = same_described kids_row s t agree in
    same.0 (shaped_same element_facts s.kids t.kids a b same.1.0)

pub submodel_facts : ShapedFacts submodel spell_submodel is_whole_submodel IsShapedSubmodel
submodel_facts = record { good = submodel_good; back = submodel_back; same = same_submodel }

-- ---- the metadata form of a Submodel

abbrev pub form_rows : List Row
form_rows = described_rows []

form_model : IsModel submodel_metadata submodel_name (identifiable ++ form_rows)
form_model = record { first = _; rest = _; models = refl; found = refl }

abbrev bare : Submodel → Submodel
bare s = record s { kids = [] }

is_bare : (s : Submodel) → IsSubmodelMetadata s → s ≡ bare s
is_bare s none = λ i. record s { kids = none i }

-- A submodel without elements has no member that isn't shown.
pub spell_form : (s : Submodel)
    → spell_submodel (bare s) ≡ spelled (referable ++ (identifiable ++ form_rows)) (typed submodel_name (given (bare s)))
spell_form s = refl

bare_good : (l : Levels) (s : Submodel) → is_whole_submodel l s ≡ true
    → Good l (one submodel_metadata) (Some (spell_submodel (bare s)))
bare_good l s w =
    document_good submodel_metadata submodel_name (identifiable ++ form_rows) form_model l (given (bare s)) refl refl
    (described_good [] l (bare s) (and_left (described l s) (list_all (is_whole_element l) s.kids) w) tt)

bare_back : (l : Levels) (s : Submodel) → Good l (one submodel_metadata) (Some (spell_submodel (bare s)))
    → is_whole_submodel l (bare s) ≡ true
bare_back l s good =
    let inside =
    document_back submodel_metadata submodel_name (identifiable ++ form_rows) form_model l (given (bare s)) refl good in
    and_from (described l s) true (described_back [] l (bare s) inside).0 refl

same_bare : (s t : Submodel) → spell_submodel (bare s) ≡ spell_submodel (bare t) → bare s ≡ bare t
same_bare s t e =
    let rows = identifiable ++ form_rows in
    let agree = same_document submodel_metadata submodel_name rows form_model (given (bare s)) (given (bare t)) e in
    (same_described [] (bare s) (bare t) agree).0 refl

pub form_good : (l : Levels) (s : Submodel) → IsSubmodelMetadata s → is_whole_submodel l s ≡ true → Good l (one submodel_metadata) (Some (spell_submodel s))
form_good l s none w = subst (λ d. Good l (one submodel_metadata) (Some (spell_submodel d))) (sym (is_bare s none)) (bare_good l s w)

pub form_back : (l : Levels) (s : Submodel) → IsSubmodelMetadata s → Good l (one submodel_metadata) (Some (spell_submodel s)) → is_whole_submodel l s ≡ true
form_back l s none good =
    subst (λ d. is_whole_submodel l d ≡ true) (sym (is_bare s none)) (bare_back l s (subst (λ d. Good l (one submodel_metadata) (Some (spell_submodel d))) (is_bare s none) good))

pub same_forms : (s t : Submodel) → IsSubmodelMetadata s → IsSubmodelMetadata t → spell_submodel s ≡ spell_submodel t → s ≡ t
same_forms s t a b e =
    is_bare s a ∙ same_bare s t (ap spell_submodel (sym (is_bare s a)) ∙ e ∙ ap spell_submodel (is_bare t b)) ∙ sym (is_bare t b)
