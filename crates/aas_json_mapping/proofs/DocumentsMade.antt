-- What is found under the rows of a document makes one.
use Rattle.std.proofs.Common.{◌≡◌, ℕ, ◌&&◌, List, [], ◌∷◌, ◌++◌, map, true, Option, Some, is_some, codes, refl, sym, ap, ◌∙◌}
use Rattle.serde_json.specs.Data.{Data, string, object, no_items, item, Members}
use Rattle.aas_model_names.specs.ModellingKindNames as modelling_kind
use Rattle.aas_json_table.specs.Table.{reference, qualifier, administration, asset_information, environment, shell, submodel, concept, element, submodel_metadata, MemberType, text, one, many, Row, parts, referable, identifiable, has_semantics, qualifiable}
use Rattle.aas_json_table.specs.Canonical.{canonical, canonical_member, are_there, listed}
use Rattle.aas_json_table.specs.Spelled.{Attributes, attribute, list_of, onto}
use Rattle.aas_model.specs.declared.common.Head.{Head}
use Rattle.aas_model.specs.declared.documents.Environment.{Environment}
use Rattle.aas_model.specs.declared.documents.Shell.{Shell}
use Rattle.aas_model.specs.declared.documents.Submodel.{Submodel}
use Rattle.aas_model.specs.declared.documents.Concept.{Concept}
use Rattle.aas_model.specs.declared.element.Element.{Element}
use Rattle.aas_json_spelling.specs.Lists.{Each}
use Rattle.aas_lemmas.proofs.Truth.{and_left, and_right}
use Rattle.aas_json_spelling.proofs.Objects.{Agree}
use Rattle.aas_json_spelling.proofs.Exists.{IsSpelled, Gives, there}
use Rattle.aas_json_mapping.specs.Documents.{typed, head_attributes, shell_attributes, submodel_attributes, concept_attributes, spell_shell, spell_submodel, spell_concept}
use Rattle.aas_json_mapping.specs.Elements.{spell_element}
use Rattle.aas_json_mapping.specs.Parts.{spell_asset_information}
use Rattle.aas_json_mapping.specs.Shape.{IsShaped, IsShapedSubmodel}
use Rattle.aas_json_mapping.proofs.Rows.{Made, document_made, agree_with}
use Rattle.aas_json_mapping.proofs.Sorts.{With, trees, text_there, word_if}
use Rattle.aas_json_mapping.proofs.PartsMade.{semantics_found, referable_found}
use Rattle.aas_json_mapping.proofs.Documents.{shell_name, shell_rows, concept_name, concept_rows, submodel_name, described_rows, submodel_rows, kids_row, form_rows, spell_form, given}
use Rattle.aas_json_mapping.proofs.Environments.{environment_attributes}

-- lists of trees with their shape
module _ {A : Type 0} (Shape : A → Type 0) (spell_one : A → Data) where
  abbrev trees_of : List (With Shape) → List A
  trees_of ts = map (λ t. t.0) ts

  each_shaped : (ts : List (With Shape)) → Each Shape (trees_of ts)
  each_shaped [] = tt
  each_shaped (t ∷ ts) = (t.1, each_shaped ts)

  onto_trees : (ts : List (With Shape))
      → onto (map (λ (t : With Shape). spell_one t.0) ts) no_items ≡ onto (map spell_one (trees_of ts)) no_items
  onto_trees [] = refl
  onto_trees (t ∷ ts) = ap (item (spell_one t.0)) (onto_trees ts)

  listed_trees : (o : Option Data) (ts : List (With Shape)) → o ≡ list_of (λ (t : With Shape). spell_one t.0) ts
      → o ≡ list_of spell_one (trees_of ts)
  listed_trees o ts is = is ∙ ap listed (onto_trees ts)

-- ---- Identifiable

-- a head, whatever a document has of its own
record FoundHead (g : List ℕ → MemberType → Option Data) (n : List ℕ) : Type 0 where
  head : Head
  agree : (rows : List Row) (own : Attributes) → Agree rows g (attribute (typed n (head_attributes head ++ own)))
      → Agree (referable ++ (identifiable ++ rows)) g (attribute (typed n (head_attributes head ++ own)))

abbrev with_elements : List Element → Submodel → Submodel
with_elements ks s = record s { kids = ks }

-- all that a submodel has but its elements, whatever it has of them
record FoundSubmodel (g : List ℕ → MemberType → Option Data) (ks : List Element) (rows : List Row) : Type 0 where
  tree : Submodel
  agree : Agree rows g (attribute (typed submodel_name (given (with_elements ks tree))))
      → Agree (referable ++ (identifiable ++ described_rows rows)) g
      (attribute (typed submodel_name (given (with_elements ks tree))))

module _ (g : List ℕ → MemberType → Option Data) (each : Gives trees g) where
  head_found : (n : List ℕ) → g (codes "modelType") text ≡ Some (string n) → is_some (g (codes "id") text) ≡ true
      → FoundHead g n
  head_found n model e =
      let r = referable_found g each n model in
      let i = text_there g each (codes "id") e in
      let a = each (codes "administration") (one administration) in
      let h : Head = record {
        id = i.0;
        administration = a.0;
        id_short = r.0.id_short;
        category = r.0.category;
        description = r.0.description;
        display_name = r.0.display_name;
        extensions = r.0.extensions;
        embedded_data_specifications = r.0.embedded_data_specifications;
      } in record {
        head = h;
        agree = λ rows own agree.
            let given = attribute (typed n (head_attributes h ++ own)) in
            agree_with referable (identifiable ++ rows) g given r.1 (i.1, (a.1, agree));
      }

  -- what is there of a document
  id_there : (rows : List Row) → are_there (referable ++ (identifiable ++ rows)) g ≡ true
      → (is_some (g (codes "id") text) ≡ true) × (are_there rows g ≡ true)
  id_there rows e =
      let id = is_some (g (codes "id") text) in
      let later : id && are_there rows g ≡ true =
      and_right (is_some (g (codes "modelType") text)) (id && are_there rows g) e in
      (and_left id (are_there rows g) later, and_right id (are_there rows g) later)

  -- ---- documents

  shell_made : g (codes "modelType") text ≡ Some (string shell_name)
      → are_there (referable ++ (identifiable ++ shell_rows)) g ≡ true
      → Made spell_shell (referable ++ (identifiable ++ shell_rows)) g
  shell_made model e =
      let asset = g (codes "assetInformation") (one asset_information) in
      let all = id_there shell_rows e in
      let h = head_found shell_name model all.0 in
      let information = each (codes "assetInformation") (one asset_information) in
      let a = there spell_asset_information asset information (and_left (is_some asset) true all.1) in
      let d = each (codes "derivedFrom") (one reference) in
      let m = each (codes "submodels") (many reference) in
      let s : Shell = record { head = h.head; derived_from = d.0; asset = a.0; submodels = m.0 } in record {
        tree = s;
        attributes = typed shell_name (head_attributes s.head ++ shell_attributes s);
        agree = h.agree shell_rows (shell_attributes s) (a.1, (d.1, (m.1, tt)));
        spells = refl;
      }

  concept_made : g (codes "modelType") text ≡ Some (string concept_name)
      → are_there (referable ++ (identifiable ++ concept_rows)) g ≡ true
      → Made spell_concept (referable ++ (identifiable ++ concept_rows)) g
  concept_made model e =
      let h = head_found concept_name model (id_there concept_rows e).0 in
      let m = each (codes "isCaseOf") (many reference) in
      let c : Concept = record { head = h.head; is_case_of = m.0 } in record {
        tree = c;
        attributes = typed concept_name (head_attributes c.head ++ concept_attributes c);
        agree = h.agree concept_rows (concept_attributes c) (m.1, tt);
        spells = refl;
      }

  submodel_found : (ks : List Element) (rows : List Row) → g (codes "modelType") text ≡ Some (string submodel_name)
      → are_there (referable ++ (identifiable ++ described_rows rows)) g ≡ true → FoundSubmodel g ks rows
  submodel_found ks rows model e =
      let h = head_found submodel_name model (id_there (described_rows rows) e).0 in
      let k = word_if g each modelling_kind.name_of modelling_kind.all (codes "kind") in
      let m = semantics_found g each in
      let q = each (codes "qualifiers") (many qualifier) in
      let s : Submodel = record { head = h.head; kind = k.0; semantics = m.0; qualifiers = q.0; kids = ks } in record {
        tree = s;
        agree = λ own.
            let given = attribute (typed submodel_name (given s)) in
            h.agree (described_rows rows) (submodel_attributes s)
            (k.1, agree_with has_semantics (qualifiable ++ rows) g given m.1 (q.1, own));
      }

  submodel_made : g (codes "modelType") text ≡ Some (string submodel_name)
      → are_there (referable ++ (identifiable ++ submodel_rows)) g ≡ true
      → Made (trees.spell submodel) (referable ++ (identifiable ++ submodel_rows)) g
  submodel_made model e =
      let ts = each (codes "submodelElements") (many element) in
      let o = g (codes "submodelElements") (many element) in
      let kids = listed_trees IsShaped spell_element o ts.0 ts.1 in
      let ks = trees_of IsShaped spell_element ts.0 in
      let f = submodel_found ks kids_row model e in record {
        tree = (with_elements ks f.tree, each_shaped IsShaped spell_element ts.0);
        attributes = typed submodel_name (given (with_elements ks f.tree));
        agree = f.agree (kids, tt);
        spells = refl;
      }

  form_made : g (codes "modelType") text ≡ Some (string submodel_name)
      → are_there (referable ++ (identifiable ++ form_rows)) g ≡ true
      → Made (trees.spell submodel_metadata) (referable ++ (identifiable ++ form_rows)) g
  form_made model e =
      let f = submodel_found [] [] model e in record {
        tree = (with_elements [] f.tree, refl);
        attributes = typed submodel_name (given (with_elements [] f.tree));
        agree = f.agree tt;
        spells = sym (spell_form f.tree);
      }

  pub environment_made : are_there (parts environment) g ≡ true → Made (trees.spell environment) (parts environment) g
  environment_made e =
      let a = each (codes "assetAdministrationShells") (many shell) in
      let ts = each (codes "submodels") (many submodel) in
      let c = each (codes "conceptDescriptions") (many concept) in
      let found = trees_of IsShapedSubmodel spell_submodel ts.0 in
      let x : Environment = record { shells = a.0; submodels = found; concepts = c.0 } in
      let o = g (codes "submodels") (many submodel) in
      let submodels = listed_trees IsShapedSubmodel spell_submodel o ts.0 ts.1 in record {
        tree = (x, each_shaped IsShapedSubmodel spell_submodel ts.0);
        attributes = environment_attributes x;
        agree = (a.1, (submodels, (c.1, tt)));
        spells = refl;
      }

-- ---- values

module _ (ms : Members) (each : Gives trees (canonical_member ms)) where
  pub shell_tree : IsSpelled spell_shell (canonical (one shell) (object ms))
  shell_tree =
      document_made spell_shell shell ms shell_name (referable ++ (identifiable ++ shell_rows)) refl
      (shell_made (canonical_member ms) each)

  pub concept_tree : IsSpelled spell_concept (canonical (one concept) (object ms))
  concept_tree =
      document_made spell_concept concept ms concept_name (referable ++ (identifiable ++ concept_rows)) refl
      (concept_made (canonical_member ms) each)

  pub submodel_tree : IsSpelled (trees.spell submodel) (canonical (one submodel) (object ms))
  submodel_tree =
      document_made (trees.spell submodel) submodel ms submodel_name (referable ++ (identifiable ++ submodel_rows)) refl
      (submodel_made (canonical_member ms) each)

  pub form_tree : IsSpelled (trees.spell submodel_metadata) (canonical (one submodel_metadata) (object ms))
  form_tree =
      let rows = referable ++ (identifiable ++ form_rows) in
      document_made (trees.spell submodel_metadata) submodel_metadata ms submodel_name rows refl
      (form_made (canonical_member ms) each)
