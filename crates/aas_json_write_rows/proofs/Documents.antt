-- Submodels by their heads and the rows of their elements.
use Rattle.std.proofs.Common.{◌≡◌, ℕ, Bool, false, ◌||◌, List, [], ◌∷◌, ◌++◌, map, refl, ap, ◌∙◌, subst}
use Rattle.std.specs.Prelude.{codes}
use Rattle.aas_out.specs.Adds.{Adds}
use Rattle.aas_out.specs.Told.{Told}
use Rattle.aas_out.specs.declared.pouring.Pouring.{Pouring}
use Rattle.aas_out.proofs.Adding.{adds_both}
use Rattle.aas_model.specs.declared.documents.Submodel.{Submodel}
use Rattle.aas_model.specs.declared.element.Element.{Element}
use Rattle.aas_json_write_members.specs.Heads.{later_before, names_before, names_behind, submodel_fields, submodel_text}
use Rattle.aas_json_write_members.specs.Members.{fields_text}
use Rattle.aas_json_write_members.specs.Script.{Spoken, is_any, listed_text}
use Rattle.aas_json_write_members.specs.Texts.{spoken}
use Rattle.aas_json_write_members.specs.declared.members.Show.{Show}
use Rattle.aas_json_write_members.proofs.Heads.{shown_canonical}
use Rattle.aas_json_write_rows.specs.Submodels.{RowsGiveTheSubmodel}
use Rattle.aas_json_write_rows.proofs.FromTrees.{rows_give_texts}

-- what stands before the elements, they, and what stands behind
pub submodel_put : {K : Type 0} (s : Submodel) (ts : List (List ℕ))
    (so_far a b after : Pouring) (t u v z : Told K) (later then_later : Bool)
    → Adds so_far a t u (123 ∷ fields_text false (submodel_fields s names_before)) → later ≡ later_before s
    → Adds a b u v (listed_text later (codes "submodelElements") ts) → then_later ≡ (later || is_any ts)
    → Adds b after v z (fields_text then_later (submodel_fields s names_behind) ++ 125 ∷ [])
    → Adds so_far after t z (submodel_text s ts)
submodel_put s ts so_far a b after t u v z later then_later begun is elements then_is ended =
    let name : List ℕ = codes "submodelElements" in
    let listed : List ℕ = listed_text (later_before s) name ts in
    let behind : List ℕ = fields_text (later_before s || is_any ts) (submodel_fields s names_behind) ++ 125 ∷ [] in
    adds_both so_far a after t u z (123 ∷ fields_text false (submodel_fields s names_before)) (listed ++ behind) begun
    (adds_both a b after u v z listed behind
    (subst (λ l. Adds a b u v (listed_text l name ts)) is elements)
    (subst (λ l. Adds b after v z (fields_text l (submodel_fields s names_behind) ++ 125 ∷ []))
    (then_is ∙ ap (λ l. l || is_any ts) is) ended))

texts_of : (w : Show) (es : List Element)
    → map (λ (v : Spoken). v.text) (map (λ e. spoken w e 1) es) ≡ map (λ e. (spoken w e 1).text) es
texts_of w [] = refl
texts_of w (e ∷ es) = ap (λ ts. (spoken w e 1).text ∷ ts) (texts_of w es)

pub rows_give_submodel : RowsGiveTheSubmodel
rows_give_submodel w s es =
    ap (submodel_text s) (ap (map (λ (v : Spoken). v.text)) (rows_give_texts w es 0) ∙ texts_of w es)
    ∙ shown_canonical w (record s { kids = es })
