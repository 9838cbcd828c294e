-- The text of a submodel is the canonical one where those of its elements are.
use Rattle.std.proofs.Common.{◌≡◌, ℕ, false, List, [], ◌∷◌, ◌++◌, map, codes, refl, sym, ap, ap₂, ◌∙◌, append_assoc}
use Rattle.serde_json.specs.Written.{compact_text}
use Rattle.aas_json_mapping.specs.Elements.{spell_element}
use Rattle.aas_json_table.specs.Rows.{find, sorted}
use Rattle.aas_json_table.specs.Spelled.{attribute}
use Rattle.aas_json_table.specs.Table.{Row, model_types, submodel}
use Rattle.aas_model.specs.declared.documents.Submodel.{Submodel}
use Rattle.aas_model.specs.declared.element.Element.{Element}
use Rattle.aas_json_write_members.specs.Heads.{all_attributes, later_before, names_before, names_behind, submodel_fields}
use Rattle.aas_json_write_members.specs.Heads.{submodel_text, SubmodelsHaveTheCanonicalText}
use Rattle.aas_json_write_members.specs.Heads.{ShownSubmodelsHaveTheCanonicalText}
use Rattle.aas_json_write_members.specs.Members.{Field, fields_text}
use Rattle.aas_json_write_members.proofs.Fields.{fields_text-append, members_are_fields}
use Rattle.aas_json_write_members.specs.Script.{Spoken}
use Rattle.aas_json_write_members.specs.Texts.{shown, spoken}
use Rattle.aas_json_write_members.specs.declared.members.Show.{Show}
use Rattle.aas_json_write_members.proofs.Trees as trees
use Rattle.aas_json_write_members.proofs.Children.{array_of, array_text, listed_is_field}
use Rattle.std.proofs.Common.{unwrap_or}

abbrev submodel_rows : List Row
submodel_rows = sorted (unwrap_or (find (codes "Submodel") (model_types submodel)) [])

-- the elements as a member
abbrev elements_field : Submodel → List (List ℕ) → Field
elements_field s ts = (codes "submodelElements", array_of ts)

texts_of : (es : List Element) → map (λ e. compact_text (spell_element e)) es ≡ map compact_text (map spell_element es)
texts_of [] = refl
texts_of (e ∷ es) = ap (λ ts. compact_text (spell_element e) ∷ ts) (texts_of es)

-- the elements stand between the members before and those behind
script_is_fields : (s : Submodel) (ts : List (List ℕ))
    → submodel_text s ts
    ≡ 123 ∷ (fields_text false (submodel_fields s names_before ++ elements_field s ts ∷ submodel_fields s names_behind)
    ++ 125 ∷ [])
script_is_fields s ts =
    let before = submodel_fields s names_before in
    let behind = submodel_fields s names_behind in
    ap (λ t. 123 ∷ (fields_text false before ++ t))
    (listed_is_field (later_before s) (codes "submodelElements") ts behind
    (λ b. fields_text b behind ++ 125 ∷ []) (λ b. refl))
    ∙ ap (λ t. 123 ∷ t) (sym
    (append_assoc (fields_text false before) (fields_text (later_before s) (elements_field s ts ∷ behind)) (125 ∷ [])))
    ∙ ap (λ t. 123 ∷ (t ++ 125 ∷ [])) (sym (fields_text-append false before (elements_field s ts ∷ behind)))

pub canonical : SubmodelsHaveTheCanonicalText
canonical s =
    let before = submodel_fields s names_before in
    let behind = submodel_fields s names_behind in
    script_is_fields s (map (λ e. compact_text (spell_element e)) s.kids)
    ∙ ap (λ o. 123 ∷ (fields_text false (before ++ (codes "submodelElements", o) ∷ behind) ++ 125 ∷ []))
    (ap array_of (texts_of s.kids) ∙ sym (array_text (map spell_element s.kids)))
    ∙ ap (λ t. 123 ∷ t) (sym (members_are_fields submodel_rows (attribute (all_attributes s)) false))

-- the texts of the elements that are shown
shown_texts : (w : Show) (es : List Element)
    → map (λ e. (spoken w e 1).text) es ≡ map (λ e. compact_text (spell_element e)) (map (λ e. shown w e 1) es)
shown_texts w [] = refl
shown_texts w (e ∷ es) = ap₂ (λ t ts. t ∷ ts) (ap (λ (v : Spoken). v.text) (trees.canonical w e 1)) (shown_texts w es)

pub shown_canonical : ShownSubmodelsHaveTheCanonicalText
shown_canonical w s =
    ap (submodel_text s) (shown_texts w s.kids) ∙ canonical (record s { kids = map (λ e. shown w e 1) s.kids })
