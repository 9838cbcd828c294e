-- Pages that are planned.
use Rattle.std.proofs.Common.{◌≡◌, ℕ, List, ◌++◌, Bool, map, Option, Some, None, option_map, Ok, refl, sym, ap, ◌∙◌}
use Rattle.std.specs.List.{last_or}
use Rattle.std.specs.Str.{encode_utf8_all}
use Rattle.base64.specs.Engines.{url_safe_no_pad}
use Rattle.base64.specs.GeneralPurpose.{encode_of}
use Rattle.aas_model_names.specs.declared.collection.Collection.{Collection}
use Rattle.aas_model_names.specs.declared.collection.Collection.TheVariants.{Shells, Submodels, Concepts}
use Rattle.aas_model_names.specs.declared.modifiers.Extent.{Extent}
use Rattle.aas_model_names.specs.declared.modifiers.Level.{Level}
use Rattle.aas_page.specs.Pages.{page_of}
use Rattle.aas_page.specs.declared.filter.Selection.{Selection}
use Rattle.aas_store.specs.Documents.{Documents}
use Rattle.aas_answer.specs.Plans.{page_shown}
use Rattle.aas_answer.specs.Shown.{document_shown}
use Rattle.aas_json_mapping.specs.Trees.{concepts, shells}
use Rattle.aas_json_spelling.specs.Spells.{canonical_text}
use Rattle.aas_page.specs.Filters.{passes_concept, passes_shell, passes_submodel}
use Rattle.std.specs.Prelude.{codes, is_some, if◌then◌else◌}
use Rattle.aas_out.specs.Adds.{Adds}
use Rattle.aas_out.specs.Told.{Told}
use Rattle.aas_out.specs.declared.pouring.Pouring.{Pouring}
use Rattle.aas_out.proofs.Adding.{adds_both, adds_same}
use Rattle.aas_answer.specs.Answers.{page_begin, page_text, submodel_shown}
use Rattle.aas_answer.proofs.Pages.{joined, told_on}

same : (c : Option (List ℕ)) → c ≡ (if is_some c then c else None)
same None = refl
same (Some c) = refl

-- a page whose beginning, entries and end were put
pub page_added : {X K : Type 0} (text : X → List ℕ) (ids : List X)
    (cursor : Option (List ℕ)) (s a b r : Pouring) (t u v w : Told K)
    → Adds s a t u (page_begin cursor) → Adds a b u v (joined text ids) → Adds b r v w (codes "]}")
    → Adds s r t w (page_text text cursor (record { entries = ids; more = is_some cursor }))
page_added text ids cursor s a b r t u v w begun told ended =
    adds_same s r t w ((page_begin cursor ++ joined text ids) ++ codes "]}")
    (page_text text cursor (record { entries = ids; more = is_some cursor }))
    (adds_both s b r t v w (page_begin cursor ++ joined text ids) (codes "]}")
    (adds_both s a b t u v (page_begin cursor) (joined text ids) begun told) ended)
    (ap (λ c. (page_begin c ++ joined text ids) ++ codes "]}") (same cursor))

-- the text of a page of documents, and of its entries
abbrev page_over : Documents → Collection → Level → Extent → List (List ℕ) → Option (List ℕ) → List ℕ
page_over d c level extent ids cursor =
    (page_begin cursor ++ joined (λ id. document_shown c level extent (encode_utf8_all id) d) ids) ++ codes "]}"

abbrev page_told : Documents → Collection → Level → Extent → List (List ℕ) → Option (List ℕ) → List ℕ
page_told d c level extent ids cursor =
    page_text (λ id. document_shown c level extent (encode_utf8_all id) d) cursor
    (record { entries = ids; more = is_some cursor })

over : (d : Documents) (c : Collection) (level : Level)
    (extent : Extent) (ids : List (List ℕ)) (cursor : Option (List ℕ))
    → page_over d c level extent ids cursor ≡ page_told d c level extent ids cursor
over d c level extent ids cursor = ap (page_over d c level extent ids) (same cursor)

-- a page whose entries and end were put is the one that is asked for
documents_shown : (c : Collection) (level : Level) (extent : Extent) (d : Documents)
    (s : Selection) (ids : List (List ℕ)) (more : Bool) (cursor : Option (List ℕ)) (written page : List ℕ)
    → record { entries = map encode_utf8_all ids; more = more }
    ≡ page_of c s.filter (option_map encode_utf8_all s.after) s.limit d
    → cursor ≡ (if more then option_map (encode_of url_safe_no_pad) (last_or None (map encode_utf8_all ids)) else None)
    → written ≡ page_begin cursor ++ joined (λ id. document_shown c level extent (encode_utf8_all id) d) ids
    → page ≡ written ++ codes "]}"
    → Ok page ≡ page_shown c level extent d s
documents_shown Shells level extent d s =
    told_on d.shells (passes_shell s.filter) (canonical_text shells) (λ id. document_shown Shells level extent id d)
    (λ id. refl) (option_map encode_utf8_all s.after) s.limit
documents_shown Submodels level extent d s =
    told_on d.submodels (passes_submodel s.filter) (submodel_shown level extent)
    (λ id. document_shown Submodels level extent id d)
    (λ id. refl) (option_map encode_utf8_all s.after) s.limit
documents_shown Concepts level extent d s =
    told_on d.concepts (passes_concept s.filter) (canonical_text concepts)
    (λ id. document_shown Concepts level extent id d)
    (λ id. refl) (option_map encode_utf8_all s.after) s.limit

-- the page of a plan
pub page_planned : (c : Collection) (level : Level) (extent : Extent) (d : Documents)
    (s : Selection) (ids : List (List ℕ)) (more : Bool) (cursor : Option (List ℕ))
    → record { entries = map encode_utf8_all ids; more = more }
    ≡ page_of c s.filter (option_map encode_utf8_all s.after) s.limit d
    → cursor ≡ (if more then option_map (encode_of url_safe_no_pad) (last_or None (map encode_utf8_all ids)) else None)
    → page_shown c level extent d s
    ≡ Ok (page_text (λ id. document_shown c level extent (encode_utf8_all id) d) cursor
    (record { entries = ids; more = is_some cursor }))
page_planned c level extent d s ids more cursor shown next =
    sym
    (documents_shown c level extent d s ids more cursor
    (page_begin cursor ++ joined (λ id. document_shown c level extent (encode_utf8_all id) d) ids)
    (page_over d c level extent ids cursor) shown next refl refl)
    ∙ ap (λ t. Ok t) (over d c level extent ids cursor)
