-- Pages, entry by entry.
use Rattle.std.proofs.Common.{◌≡◌, ⊎_elim, ℕ, suc, ◌+◌, ◌-◌, ◌<◌, ◌≤◌, min, Bool, true, false, nat_lt, List, [], ◌∷◌}
use Rattle.std.proofs.Common.{◌++◌, length, map, take, drop, slice_get, decimal, Option, Some, None, option_map, Ok}
use Rattle.std.proofs.Common.{refl, sym, ap, ap₂, ◌∙◌, arith}
use Rattle.std.specs.Prelude.{codes, filter, get_or, if◌then◌else◌, ◌&&◌}
use Rattle.std.specs.FinMap as fin
use Rattle.std.specs.FinMap.{entries_sorted, get-entries}
use Rattle.std.specs.List.{All, flat_map, join_by, last_or}
use Rattle.std.specs.Option.{option_map_or}
use Rattle.std.specs.Str.{encode_utf8_all}
use Rattle.std.proofs.lemmas.Bool.{cases_lt, lt-ltb, ltb_from_iff, ltb-true}
use Rattle.std.proofs.lemmas.List.{append-nil, append_assoc, drop_all, get_or-drop, length-drop, length-take-le}
use Rattle.std.proofs.lemmas.List.{take_all, take_more}
use Rattle.std.proofs.lemmas.List.Concat.{flat_map-append}
use Rattle.std.proofs.lemmas.List.Elements.{All-filter, All-take}
use Rattle.std.proofs.lemmas.List.Folds.{flat_map-map}
use Rattle.std.proofs.lemmas.Option.{get_or_from_slice_get, slice_get_within, slice_get-get_or, same_Some}
use Rattle.std.proofs.lemmas.Simd.{map-map}
use Rattle.aas_lemmas.proofs.Lists.{map_same}
use Rattle.base64.specs.Engines.{url_safe_no_pad}
use Rattle.base64.specs.GeneralPurpose.{encode_of}
use Rattle.serde_json.specs.Data.{string}
use Rattle.serde_json.specs.Written.{comma_if, compact_text}
use Rattle.aas_json_table.specs.Spelled.{text_of}
use Rattle.aas_page.specs.Filters.{passes_shell, passes_submodel}
use Rattle.aas_page.specs.Pages.{PageOf, ids_on, page_after, page_from, page_of}
use Rattle.aas_page.specs.declared.filter.Selection.{Selection}
use Rattle.aas_page.specs.declared.filter.Span.{Span}
use Rattle.aas_model.specs.declared.documents.Submodel.{Submodel}
use Rattle.aas_form.specs.ReferenceTo.{shell_reference}
use Rattle.aas_store.specs.Documents.{Documents, Identifier, Map, is_above, without_children}
use Rattle.aas_store.proofs.Ordered.{found_at}
use Rattle.aas_answer.specs.Answers.{documents_page, ids_page, page_begin, page_text, places_page, reference_text}
use Rattle.aas_answer.specs.Listed.{collection_of, document_text, documents_in, submodel_text}
use Rattle.aas_answer.specs.declared.forms.DocumentForm.{DocumentForm}
use Rattle.aas_answer.specs.declared.forms.DocumentForm.TheVariants as document

-- ---- entries with commas

abbrev pub joined : {X : Type 0} → (X → List ℕ) → List X → List ℕ
joined text xs = join_by text (codes ",") xs

joined_more : {X : Type 0} (text : X → List ℕ) (xs : List X) (x : X)
    → joined text (xs ++ x ∷ []) ≡ (joined text xs ++ comma_if (nat_lt 0 (length xs))) ++ text x
joined_more text [] x = append-nil (text x)
joined_more {X = X} text (y ∷ ys) x =
    let after : X → List ℕ = λ y. codes "," ++ text y in
    ap (λ t. text y ++ t) (flat_map-append after ys (x ∷ []) ∙ ap (λ t. flat_map after ys ++ t) (append-nil (after x)))
    ∙ sym (append_assoc (text y) (flat_map after ys) (after x))
    ∙ sym (append_assoc (text y ++ flat_map after ys) (codes ",") (text x))
    ∙ ap (λ later. ((text y ++ flat_map after ys) ++ comma_if later) ++ text x)
    (sym (lt-ltb 0 (length (y ∷ ys)) (omega arith)))

joined_texts : {X : Type 0} (text : X → List ℕ) (xs : List X) → joined text xs ≡ joined (λ t. t) (map text xs)
joined_texts text [] = refl
joined_texts text (x ∷ xs) = ap (λ t. text x ++ t) (sym (flat_map-map (λ t. codes "," ++ t) text xs))

taken_more : {X : Type 0} (xs : List X) (k : ℕ) (x : X)
    → slice_get xs k ≡ Some x → take (k + 1) xs ≡ take k xs ++ x ∷ []
taken_more xs k x at =
    take_more xs k x (slice_get_within xs k x at) ∙ ap (λ y. take k xs ++ y ∷ []) (get_or_from_slice_get xs k x x at)

-- one more entry, behind a comma where it isn't the first
pub joined_next : {X : Type 0} (text : X → List ℕ) (xs : List X) (k : ℕ) (x : X) → slice_get xs k ≡ Some x
    → joined text (take (k + 1) xs) ≡ (joined text (take k xs) ++ comma_if (nat_lt 0 k)) ++ text x
joined_next text xs k x at =
    let within : k < length xs = slice_get_within xs k x at in
    let long : length (take k xs) ≡ k = length-take-le k xs (omega arith) in
    ap (joined text) (taken_more xs k x at) ∙ joined_more text (take k xs) x
    ∙ ap (λ n. (joined text (take k xs) ++ comma_if (nat_lt 0 n)) ++ text x) long

-- all entries, in another view of them
pub page_ended : {X Y : Type 0} (f : X → List ℕ) (g : Y → List ℕ) (xs : List X)
    (p : PageOf Y) (found next : Option (List ℕ)) (text page : List ℕ)
    → map f xs ≡ map g p.entries → found ≡ (if p.more then next else None) → text ≡ page_begin found ++ joined f xs
    → page ≡ text ++ codes "]}" → page ≡ page_text g next p
page_ended f g xs p found next text page same cursor whole is =
    is
    ∙ ap (λ t. t ++ codes "]}")
    (whole ∙ ap₂ (λ c t. page_begin c ++ t) cursor
    (joined_texts f xs ∙ ap (joined (λ t. t)) same ∙ sym (joined_texts g p.entries)))

-- ---- entries by their places

module _ {X : Type 0} (xs : List X) (from limit : ℕ) where
  pub entry_behind : (k : ℕ) (x : X) → slice_get xs (from + k) ≡ Some x → slice_get (drop from xs) k ≡ Some x
  entry_behind k x at =
      let within : from + k < length xs = slice_get_within xs (from + k) x at in
      let long = length-drop from xs in
      slice_get-get_or (drop from xs) k x (omega (arith, long))
      ∙ ap Some (get_or-drop from xs k x ∙ get_or_from_slice_get xs (from + k) x x at)

  -- what stands from the first entry of a page up to its end is all of it
  pub entries_shown : (end first : ℕ) → end ≡ min (from + limit) (length xs) → first ≡ min from end
      → take (end - first) (drop first xs) ≡ take limit (drop from xs)
  entries_shown end first is first_is = ⊎_elim beyond within (cases_lt end from)
    where
      beyond : end < from → take (end - first) (drop first xs) ≡ take limit (drop from xs)
      beyond less =
          let none : end - first ≡ 0 = omega arith in
          let past : length xs ≤ from = omega arith in
          let long = length-drop from xs in
          ap (λ n. take n (drop first xs)) none ∙ sym (drop_all from xs past)
          ∙ sym (take_all limit (drop from xs) (omega (arith, long)))

      within : from ≤ end → take (end - first) (drop first xs) ≡ take limit (drop from xs)
      within le =
          let same : first ≡ from = omega arith in
          let long = length-drop from xs in
          ap (λ n. take (end - n) (drop n xs)) same
          ∙ ⊎_elim
          (λ less. take_all (end - from) (drop from xs) (omega (arith, long))
          ∙ sym (take_all limit (drop from xs) (omega (arith, long))))
          (λ fits. let many : end - from ≡ limit = omega arith in ap (λ n. take n (drop from xs)) many)
          (cases_lt (length xs) (from + limit))

  further : (end : ℕ) → end ≡ min (from + limit) (length xs)
      → nat_lt end (length xs) ≡ nat_lt limit (length (drop from xs))
  further end is =
      let long = length-drop from xs in
      ltb_from_iff (
        λ less. let lt = ltb-true end (length xs) less in omega (arith, long),
        λ more. lt-ltb end (length xs) (omega (arith, long)),
      )

  -- the place of the next page
  pub next_place : (end : ℕ) → end ≡ min (from + limit) (length xs)
      → (if nat_lt end (length xs) then Some (decimal end) else None)
      ≡ (if (page_from from limit xs).more then Some (decimal (from + limit)) else None)
  next_place end is =
      by (nat_lt end (length xs)) refl
      ∙ ap (λ more. if more then Some (decimal (from + limit)) else None) (further end is)
    where
      by : (b : Bool) → nat_lt end (length xs) ≡ b
          → (if b then Some (decimal end) else None) ≡ (if b then Some (decimal (from + limit)) else None)
      by true less =
          let lt = ltb-true end (length xs) less in
          let same : end ≡ from + limit = omega arith in
          ap (λ n. Some (decimal n)) same
      by false more = refl

pub places_told : {X : Type 0} (text : X → List ℕ) (xs : List X)
    (span : Span) (end : ℕ) (cursor : Option (List ℕ)) (written page : List ℕ)
    → end ≡ min (span.from + span.limit) (length xs)
    → cursor ≡ (if nat_lt end (length xs) then Some (decimal end) else None)
    → written ≡ page_begin cursor ++ joined text (take span.limit (drop span.from xs)) → page ≡ written ++ codes "]}"
    → Ok page ≡ places_page text span xs
places_told text xs span end cursor written page is next whole ended =
    ap (λ t. Ok t)
    (page_ended text text (take span.limit (drop span.from xs))
    (page_from span.from span.limit xs) cursor (Some (decimal (span.from + span.limit)))
    written page refl (next ∙ next_place xs span.from span.limit end is) whole ended)

-- ---- documents

module _ {X : Type 0} (m : Map X) (passes : X → Bool) (text : X → List ℕ) (told : Identifier → List ℕ)
    (tells : (id : Identifier) → told id ≡ option_map_or text (fin.get m id) []) where
  abbrev Entry : Type 0
  Entry = Identifier × X

  tells_each : All (λ (e : Entry). told e.0 ≡ text e.1) (fin.entries m)
  tells_each k e within =
      let x = get_or (fin.entries m) k e in
      tells x.0 ∙ ap (λ o. option_map_or text o [])
      (get-entries m x.0
      ∙ found_at (fin.entries m) k x.0 x.1 (entries_sorted m) (slice_get-get_or (fin.entries m) k e within))

  texts_on : (after : Option Identifier) (limit : ℕ) (ids : List (List ℕ))
      → map encode_utf8_all ids ≡ map (λ (e : Entry). e.0) (page_after passes after limit m).entries
      → map (λ id. told (encode_utf8_all id)) ids
      ≡ map (λ (e : Entry). text e.1) (page_after passes after limit m).entries
  texts_on after limit ids same =
      let test : Entry → Bool = λ e. is_above after e.0 && passes e.1 in
      let entries = (page_after passes after limit m).entries in
      let Tells : Entry → Type 0 = λ e. told e.0 ≡ text e.1 in
      sym (map-map told encode_utf8_all ids) ∙ ap (map told) same ∙ map-map told (λ (e : Entry). e.0) entries
      ∙ map_same (λ (e : Entry). told e.0) (λ (e : Entry). text e.1) entries
      (All-take Tells limit (filter test (fin.entries m)) (All-filter test Tells (fin.entries m) tells_each))

  pub told_on : (after : Option Identifier) (limit : ℕ) (ids : List (List ℕ))
      (more : Bool) (cursor : Option (List ℕ)) (written page : List ℕ)
      → record { entries = map encode_utf8_all ids; more = more } ≡ ids_on (page_after passes after limit m)
      → cursor
      ≡ (if more then option_map (encode_of url_safe_no_pad) (last_or None (map encode_utf8_all ids)) else None)
      → written ≡ page_begin cursor ++ joined (λ id. told (encode_utf8_all id)) ids → page ≡ written ++ codes "]}"
      → Ok page ≡ documents_page text (page_after passes after limit m)
  told_on after limit ids more cursor written page shown next whole ended =
      let p = page_after passes after limit m in
      let same = ap (λ (q : PageOf Identifier). q.entries) shown in
      ap (λ t. Ok t)
      (page_ended (λ id. told (encode_utf8_all id)) (λ (e : Entry). text e.1) ids p cursor
      (option_map (encode_of url_safe_no_pad) (last_or None (map (λ (e : Entry). e.0) p.entries))) written page
      (texts_on after limit ids same)
      (next
      ∙ ap₂ (λ (more : Bool) ids. if more then option_map (encode_of url_safe_no_pad) (last_or None ids) else None)
      (ap (λ (q : PageOf Identifier). q.more) shown) same)
      whole ended)

pub documents_told : (form : DocumentForm) (d : Documents) (s : Selection)
    (ids : List (List ℕ)) (more : Bool) (cursor : Option (List ℕ))
    (written page : List ℕ)
    → record { entries = map encode_utf8_all ids; more = more }
    ≡ page_of (collection_of form) s.filter (option_map encode_utf8_all s.after) s.limit d
    → cursor ≡ (if more then option_map (encode_of url_safe_no_pad) (last_or None (map encode_utf8_all ids)) else None)
    → written ≡ page_begin cursor ++ joined (λ id. document_text form (encode_utf8_all id) d) ids
    → page ≡ written ++ codes "]}"
    → Ok page ≡ documents_in form d s
documents_told document.ShellReference d s =
    told_on d.shells (passes_shell s.filter) (λ x. reference_text (shell_reference x))
    (λ id. document_text document.ShellReference id d) (λ id. refl)
    (option_map encode_utf8_all s.after) s.limit
documents_told (document.Submodel form) d s =
    told_on d.submodels (passes_submodel s.filter) (submodel_text form)
    (λ id. document_text (document.Submodel form) id d) (λ id. refl)
    (option_map encode_utf8_all s.after) s.limit

-- the identifiers of documents, as they are told
pub ids_told : (ids : List (List ℕ)) (more : Bool) (cursor : Option (List ℕ)) (written page : List ℕ)
    → cursor ≡ (if more then option_map (encode_of url_safe_no_pad) (last_or None (map encode_utf8_all ids)) else None)
    → written ≡ page_begin cursor ++ joined (λ id. compact_text (text_of id)) ids → page ≡ written ++ codes "]}"
    → Ok page ≡ ids_page (record { entries = map encode_utf8_all ids; more = more })
ids_told ids more cursor written page next whole ended =
    ap (λ t. Ok t)
    (page_ended (λ id. compact_text (text_of id))
    (λ id. compact_text (string id)) ids (record { entries = map encode_utf8_all ids; more = more }) cursor
    (option_map (encode_of url_safe_no_pad) (last_or None (map encode_utf8_all ids))) written page
    (sym (map-map (λ id. compact_text (string id)) encode_utf8_all ids)) next whole ended)

-- the cursor of the page behind one

last_behind : {X : Type 0} (x : X) (xs : List X) → slice_get (x ∷ xs) (length xs) ≡ last_or (Some x) xs
last_behind x [] = refl
last_behind x (y ∷ ys) = last_behind y ys

last_is : {X : Type 0} (xs : List X) → slice_get xs (length xs - 1) ≡ last_or None xs
last_is [] = refl
last_is (x ∷ xs) =
    let same : suc (length xs) - 1 ≡ length xs = omega arith in
    ap (slice_get (x ∷ xs)) same ∙ last_behind x xs

last_of_texts : (o : Option (List ℕ)) (ids : List (List ℕ))
    → last_or (option_map encode_utf8_all o) (map encode_utf8_all ids) ≡ option_map encode_utf8_all (last_or o ids)
last_of_texts o [] = refl
last_of_texts o (id ∷ ids) = last_of_texts (Some id) ids

pub last_cursor : (more : Bool) (ids : List (List ℕ)) (found : Option (List ℕ))
    → more ≡ true → found ≡ slice_get ids (length ids - 1)
    → option_map (λ id. encode_of url_safe_no_pad (encode_utf8_all id)) found
    ≡ (if more then option_map (encode_of url_safe_no_pad) (last_or None (map encode_utf8_all ids)) else None)
last_cursor more ids found is at =
    coded found ∙ ap (λ o. option_map (encode_of url_safe_no_pad) (option_map encode_utf8_all o)) (at ∙ last_is ids)
    ∙ ap (option_map (encode_of url_safe_no_pad)) (sym (last_of_texts None ids))
    ∙ ap (λ (more : Bool).
    if more then option_map (encode_of url_safe_no_pad) (last_or None (map encode_utf8_all ids)) else None)
    (sym is)
  where
    coded : (o : Option (List ℕ))
        → option_map (λ id. encode_of url_safe_no_pad (encode_utf8_all id)) o
        ≡ option_map (encode_of url_safe_no_pad) (option_map encode_utf8_all o)
    coded None = refl
    coded (Some id) = refl

-- ---- what a store tells of a submodel without its children

pub head_there : (o : Option Submodel) (h : Submodel) → Some (without_children h) ≡ option_map without_children o
    → (s : Submodel) × (o ≡ Some s) × (without_children h ≡ without_children s)
head_there None h is = absurd (cc)
head_there (Some s) h is = (s, refl, same_Some (without_children h) (without_children s) is)

-- what doesn't look at the children is told of the head
pub told_of_head : {A : Type 0} (tell : Submodel → A) (none : A) (o : Option Submodel) (h : Submodel)
    → Some (without_children h) ≡ option_map without_children o
    → tell (without_children h) ≡ option_map_or (λ s. tell (without_children s)) o none
told_of_head tell none o h is =
    let there = head_there o h is in
    ap tell there.2 ∙ ap (λ o. option_map_or (λ s. tell (without_children s)) o none) (sym there.1)
