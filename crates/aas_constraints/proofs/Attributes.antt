-- An element breaks by itself what the attributes break that every element has, and what those of its kind break.
use Rattle.std.proofs.Common.{◌≡◌, ℕ, Bool, true, false, ◌&&◌, not, cond, List, [], ◌∷◌, ◌++◌, length, map, filter, flat_map, Option, Some, None}
use Rattle.std.proofs.Common.{refl, sym, ap, ap₂, ◌∙◌}
use Rattle.std.specs.List.{AllByRecursion, list_all}
use Rattle.std.specs.Prelude.{nat_le}
use Rattle.std.proofs.lemmas.List.{append-nil}
use Rattle.aas_lexical.specs.Names.{most_name_characters}
use Rattle.aas_model.specs.declared.parts.Extension.{Extension}
use Rattle.aas_model.specs.declared.parts.LangText.{LangText}
use Rattle.aas_model.specs.declared.parts.Qualifier.{Qualifier}
use Rattle.aas_model.specs.declared.parts.SpecificAssetId.{SpecificAssetId}
use Rattle.aas_model.specs.declared.payload.Payload.{Payload}
use Rattle.aas_model.specs.declared.reference.Reference.{Reference}
use Rattle.aas_reference.specs.Rules.{Rule, first, if_any}
use Rattle.aas_reference.specs.Faults.{least}
use Rattle.aas_reference.proofs.Faults.{least_of_both}
use Rattle.aas_constraint_rules.specs.Attributes.{common_references, common_texts, lang_texts_of, payload_lang_texts, payload_references}
use Rattle.aas_constraint_rules.specs.Attributes.{payload_specific_asset_ids, payload_texts, references_of, seen_of, specific_asset_id_texts}
use Rattle.aas_constraint_rules.specs.Attributes.{texts_of_languages}
use Rattle.aas_constraint_rules.specs.Decided.{is_language, is_string}
use Rattle.aas_constraint_rules.specs.Lexical.{extension_has_form, payload_has_form, qualifier_has_form, specific_asset_id_has_form}
use Rattle.aas_constraint_rules.specs.Rules.{ElementSentence, element_has_form, has_main_semantics, holds_locally, local, placed, rules}
use Rattle.aas_constraint_rules.specs.Rules.{semantics_have_main, texts_are_strings}
use Rattle.aas_constraint_rules.specs.Sites.{Own, of_common, of_payload}
use Rattle.aas_constraint_parts.proofs.Lists.{all_append, all_flat_append}
use Rattle.aas_constraints.specs.Own.{common_fault, itself, local_fault, payload_fault}
use Rattle.aas_constraints.proofs.Split.{rising}

-- ---- truth

and_true : (b : Bool) → b ≡ (b && true)
and_true false = refl
and_true true = refl

regroup : (a b c d : Bool) → ((a && b) && (c && d)) ≡ ((a && c) && (b && d))
regroup false b c d = refl
regroup true b false d = both b
  where
    both : (b : Bool) → (b && false) ≡ false
    both false = refl
    both true = refl
regroup true b true d = refl

-- a list whose end is of the kind's own
apart : {X : Type 0} (test : X → Bool) (xs ys : List X) → list_all test (xs ++ ys) ≡ (list_all test (xs ++ []) && list_all test ys)
apart test xs ys = all_append test xs ys ∙ ap (λ l. list_all test l && list_all test ys) (sym (append-nil xs))

module _ (o : Own) where
  abbrev common_own : Own
  common_own = of_common o.common

  abbrev kind_own : Own
  kind_own = of_payload o.payload

  -- ---- sentences

  abbrev IsInTwo : (Own → Bool) → Type 0
  IsInTwo test = test o ≡ (test common_own && test kind_own)

  main_in_two : IsInTwo (λ x. semantics_have_main (seen_of x))
  main_in_two =
      by_parts (list_all has_main_semantics (o.common.semantics ∷ [])) (list_all (λ (q : Qualifier). has_main_semantics q.semantics) o.common.qualifiers)
      (list_all (λ (x : Extension). has_main_semantics x.semantics) o.common.extensions)
      (list_all (λ (a : SpecificAssetId). has_main_semantics a.semantics) (payload_specific_asset_ids o.payload))
    where
      by_parts : (s q x i : Bool) → (s && q && x && i) ≡ ((s && q && x && true) && i)
      by_parts false q x i = refl
      by_parts true false x i = refl
      by_parts true true false i = refl
      by_parts true true true i = refl

  languages : (test : LangText → Bool) → list_all test (lang_texts_of o)
      ≡ (list_all test (lang_texts_of common_own) && list_all test (lang_texts_of kind_own))
  languages test = apart test (o.common.description ++ o.common.display_name) (payload_lang_texts o.payload)

  form_in_two : IsInTwo element_has_form
  form_in_two =
      let named = if_any (λ s. nat_le (length s) most_name_characters) o.common.id_short in
      let extensions = list_all extension_has_form o.common.extensions in
      let qualifiers = list_all qualifier_has_form o.common.qualifiers in
      let ids = list_all specific_asset_id_has_form (payload_specific_asset_ids o.payload) in
      let form = payload_has_form o.payload in
      let language : LangText → Bool = λ l. is_language l.language in
      ap (λ l. (named && extensions && qualifiers && ids && l) && form) (languages language)
      ∙ by_parts named extensions qualifiers ids (list_all language (lang_texts_of common_own)) (list_all language (lang_texts_of kind_own)) form
    where
      by_parts : (n e q i c l p : Bool) → ((n && e && q && i && (c && l)) && p) ≡ (((n && e && q && true && c) && true) && ((i && l) && p))
      by_parts false e q i c l p = refl
      by_parts true false q i c l p = refl
      by_parts true true false i c l p = refl
      by_parts true true true false false l p = refl
      by_parts true true true false true l p = refl
      by_parts true true true true false l p = refl
      by_parts true true true true true l p = refl

  texts_in_two : IsInTwo (λ x. texts_are_strings (seen_of x))
  texts_in_two =
      let own = common_texts o.common in
      let kinds = payload_texts o.payload in
      let common_langs = texts_of_languages (lang_texts_of common_own) in
      let langs = texts_of_languages (payload_lang_texts o.payload) in
      let ids = flat_map specific_asset_id_texts (payload_specific_asset_ids o.payload) in
      let all = list_all is_string in
      all_append is_string ((own ++ kinds) ++ texts_of_languages (lang_texts_of o)) ids
      ∙ ap (λ b. b && all ids) (all_append is_string (own ++ kinds) (texts_of_languages (lang_texts_of o))
      ∙ ap₂ (λ a b. a && b) (apart is_string own kinds) strings)
      ∙ by_parts (all (own ++ [])) (all kinds) (all common_langs) (all langs) (all ids)
      ∙ sym (ap₂ (λ a b. a && b)
      (ap all (append-nil ((own ++ []) ++ common_langs)) ∙ all_append is_string (own ++ []) common_langs)
      (all_append is_string (kinds ++ langs) ids ∙ ap (λ b. b && all ids) (all_append is_string kinds langs)))
    where
      texts : LangText → List (List ℕ)
      texts l = l.language ∷ l.text ∷ []

      strings : list_all is_string (texts_of_languages (lang_texts_of o))
          ≡ (list_all is_string (texts_of_languages (lang_texts_of common_own)) && list_all is_string (texts_of_languages (lang_texts_of kind_own)))
      strings =
          let c = o.common.description ++ o.common.display_name in
          all_flat_append is_string texts c (payload_lang_texts o.payload)
          ∙ ap (λ l. list_all is_string (flat_map texts l) && list_all is_string (flat_map texts (payload_lang_texts o.payload)))
          (sym (append-nil c))

      by_parts : (t p c l i : Bool) → (((t && p) && (c && l)) && i) ≡ ((t && c) && ((p && l) && i))
      by_parts false p c l i = refl
      by_parts true false false l i = refl
      by_parts true false true l i = refl
      by_parts true true false l i = refl
      by_parts true true true l i = refl

  -- ---- the table

  abbrev IsRowInTwo : Rule ElementSentence → Type 0
  IsRowInTwo r = itself r.sentence o ≡ (itself r.sentence common_own && itself r.sentence kind_own)

  itself_in_two : AllByRecursion IsRowInTwo rules
  itself_in_two = (
    form_in_two,
    (
      and_true _,
      (
        refl,
        (
          and_true _,
          (
            and_true _,
            (
              refl,
              (
                and_true _,
                (
                  refl,
                  (
                    refl,
                    (
                      refl,
                      (
                        refl,
                        (
                          refl,
                          (
                            main_in_two,
                            (
                              refl,
                              (refl, (refl, (refl, (refl, (refl, (refl, (refl, (refl, (refl, (texts_in_two, (refl, (refl, tt)))))))))))),
                            ),
                          ),
                        ),
                      ),
                    ),
                  ),
                ),
              ),
            ),
          ),
        ),
      ),
    ),
  )

  references_in_two : (test : Reference → Bool) → list_all test (references_of o)
      ≡ (list_all test (references_of common_own) && list_all test (references_of kind_own))
  references_in_two test = apart test (common_references o.common) (payload_references o.payload)

  sentence_in_two : (s : ElementSentence) → itself s o ≡ (itself s common_own && itself s kind_own)
      → holds_locally s o ≡ (holds_locally s common_own && holds_locally s kind_own)
  sentence_in_two (local s) h = ap₂ (λ a b. a && b) h (references_in_two s.each_reference)
      ∙ regroup (s.itself common_own) (s.itself kind_own) (list_all s.each_reference (references_of common_own))
      (list_all s.each_reference (references_of kind_own))
  sentence_in_two (placed test) h = refl

  all_in_two : (rs : List (Rule ElementSentence)) → AllByRecursion IsRowInTwo rs
      → filter (λ r. not (holds_locally r.sentence o)) rs
      ≡ filter (λ r. not (holds_locally r.sentence common_own && holds_locally r.sentence kind_own)) rs
  all_in_two [] h = refl
  all_in_two (r ∷ rs) h = ap₂ (λ b l. cond (not b) (r ∷ l) l) (sentence_in_two r.sentence h.0) (all_in_two rs h.1)

  pub by_attributes : local_fault o ≡ least (common_fault o.common) (payload_fault o.payload)
  by_attributes =
      ap (λ rs. first (map (λ r. r.number) rs)) (all_in_two rules itself_in_two)
      ∙ least_of_both (λ s. holds_locally s common_own) (λ s. holds_locally s kind_own) rules (rising (map (λ r. r.number) rules) refl)

-- an element that breaks nothing by itself breaks with other attributes of its kind what these break
pub payload_decides : (o : Own) (x : Payload) → local_fault o ≡ None → local_fault (record o { payload = x }) ≡ payload_fault x
payload_decides o x none =
    by_attributes (record o { payload = x })
    ∙ ap (λ n. least n (payload_fault x)) (no_lesser (common_fault o.common) (payload_fault o.payload) (sym (by_attributes o) ∙ none))
  where
    no_lesser : (a b : Option ℕ) → least a b ≡ None → a ≡ None
    no_lesser None b e = refl
    no_lesser (Some n) None e = absurd (cc)
    no_lesser (Some n) (Some m) e = absurd (cc)
