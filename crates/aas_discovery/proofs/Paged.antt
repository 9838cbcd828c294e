-- The shells that carry a name and a value, and pages of them.
use Rattle.std.proofs.Common.{◌≡◌, ℕ, zero, suc, ◌+◌, Bool, true, false, cond, ◌&&◌, T, List, []}
use Rattle.std.proofs.Common.{◌∷◌, ◌++◌, map, length, take, drop, slice_get, is_some, nat_lt, Option, Some, None, refl}
use Rattle.std.proofs.Common.{sym, ap, ap₂, ◌∙◌, subst, arith}
use Rattle.std.specs.Prelude.{filter, ⊤}
use Rattle.std.specs.FinMap as fin
use Rattle.std.specs.FinMap.{empty_of_len, entries-from_sorted, entries_sorted, get-empty, get-entries, len-entries}
use Rattle.std.specs.FinMap.Entries.{below_all, is_sorted, same_entries}
use Rattle.std.specs.List.{list_all}
use Rattle.std.specs.Option.{option_map_or}
use Rattle.std.specs.Ordering.{is_eq, is_lt}
use Rattle.std.specs.declared.cmp.Ordering.{Ordering}
use Rattle.std.specs.declared.cmp.Ordering.TheVariants.{Less, Equal, Greater}
use Rattle.std.specs.Str.{encode_utf8_all}
use Rattle.std.proofs.lemmas.Cmp.{nat_list_cmp_total}
use Rattle.std.proofs.Math.Seq.{take-append_seam}
use Rattle.std.proofs.lemmas.Bool.{lt-ltb}
use Rattle.std.proofs.lemmas.List.{length-append, length-map, map-append, take-append-drop, take-map}
use Rattle.std.proofs.lemmas.List.{take_more}
use Rattle.std.proofs.lemmas.List.Elements.{filter-append}
use Rattle.std.proofs.lemmas.Option.{get_or_from_slice_get, slice_get_within}
use Rattle.aas_lemmas.proofs.Lists.{append_one}
use Rattle.std.proofs.lemmas.Simd.{map-map}
use Rattle.aas_model.specs.declared.documents.Shell.{Shell}
use Rattle.aas_model.specs.declared.parts.SpecificAssetId.{SpecificAssetId}
use Rattle.aas_page.specs.Filters.{carries, has_asset_id, passes_shell}
use Rattle.aas_page.specs.Pages.{first_page, ids_on, left_after, page_after}
use Rattle.aas_store.specs.Documents.{Documents, Identifier, Map, is_above}
use Rattle.aas_store.proofs.Ordered.{both, found_none, head_below, order, parts, same_id, tail}
use Rattle.aas_discovery.specs.Carriers.{carriers, lookup_page, with_asset_ids}
use Rattle.aas_store.proofs.Shelves.{found_there}
use Rattle.aas_discovery.specs.Finding.{HoldOneOf, has_all}
use Rattle.aas_discovery.specs.Index.{IsPosting, carried}

abbrev Entries : Type 0 → Type 0
Entries X = List (Identifier × X)

-- ---- entries that are kept, as a set

module _ {X : Type 0} (q : X → Bool) where
  mark : Identifier × X → Identifier × ⊤
  mark e = (e.0, tt)

  abbrev passing : Entries X → Entries X
  passing es = filter (λ (e : Identifier × X). q e.1) es

  kept : Entries X → Entries ⊤
  kept es = map mark (passing es)

  kept_by : (b : Bool) → Identifier → Entries ⊤ → Entries ⊤
  kept_by b id es = cond b ((id, tt) ∷ es) es

  kept_more : (e : Identifier × X) (es : Entries X) → kept (e ∷ es) ≡ kept_by (q e.1) e.0 (kept es)
  unfolding kept kept_by mark
  kept_more e es = by (q e.1)
    where
      by : (b : Bool) → map mark (cond b (e ∷ passing es) (passing es)) ≡ kept_by b e.0 (map mark (passing es))
      by true = refl
      by false = refl

  kept_below : (id : Identifier) (es : Entries X) → T (below_all order id es) → T (below_all order id (kept es))
  unfolding kept_by kept
  kept_below id [] h = tt
  kept_below id (e ∷ es) h =
      let first = parts (is_lt (order id e.0)) (below_all order id es) h in
      subst (λ es. T (below_all order id es)) (sym (kept_more e es)) (by (q e.1) first.0 (kept_below id es first.1))
    where
      by : (b : Bool) → T (is_lt (order id e.0)) → T (below_all order id (kept es))
          → T (below_all order id (kept_by b e.0 (kept es)))
      by true low rest = both (is_lt (order id e.0)) (below_all order id (kept es)) low rest
      by false low rest = rest

  kept_sorted : (es : Entries X) → T (is_sorted order es) → T (is_sorted order (kept es))
  unfolding kept_by kept
  kept_sorted [] h = tt
  kept_sorted (e ∷ es) h =
      let first = parts (below_all order e.0 es) (is_sorted order es) h in
      subst (λ es. T (is_sorted order es)) (sym (kept_more e es))
      (by (q e.1) (kept_below e.0 es first.0) (kept_sorted es first.1))
    where
      by : (b : Bool) → T (below_all order e.0 (kept es)) → T (is_sorted order (kept es))
          → T (is_sorted order (kept_by b e.0 (kept es)))
      by true low rest = both (below_all order e.0 (kept es)) (is_sorted order (kept es)) low rest
      by false low rest = rest

  passes_found : Entries X → Identifier → Bool
  passes_found es k = option_map_or q (fin.find order k es) false

  found_kept : (es : Entries X) (k : Identifier) → T (is_sorted order es)
      → fin.find order k (kept es) ≡ cond (passes_found es k) (Some tt) None
  unfolding passes_found kept_by kept
  found_kept [] k sorted = refl
  found_kept (e ∷ es) k sorted = ap (fin.find order k) (kept_more e es)
      ∙ by (q e.1) refl (order k e.0) refl (found_kept es k (tail e es sorted))
    where
      by : (b : Bool) → q e.1 ≡ b → (r : Ordering) → order k e.0 ≡ r
          → fin.find order k (kept es) ≡ cond (passes_found es k) (Some tt) None
          → fin.find order k (kept_by b e.0 (kept es))
          ≡ cond (option_map_or q (cond (is_eq (order k e.0)) (Some e.1) (fin.find order k es)) false) (Some tt) None
      by true pass Less is rest = rw is rest
      by true pass Greater is rest = rw is rest
      by true pass Equal is rest = rw is (rw pass refl)
      by false pass Less is rest = rw is rest
      by false pass Greater is rest = rw is rest
      by false pass Equal is rest = rw is (rw pass (
          rest ∙ ap (λ o. cond (option_map_or q o false) (Some tt) None)
          (found_none es k (λ j f at. ap is_eq (ap (λ k. order k f.0) (same_id k e.0 is)
          ∙ head_below e f es j sorted at)))))

  -- a set of exactly the keys whose values pass
  pub keys_kept : (ids : Map ⊤) (m : Map X) → ((k : Identifier) → fin.contains_key ids k
      ≡ option_map_or q (fin.get m k) false)
      → fin.keys ids ≡ map (λ (e : Identifier × X). e.0) (filter (λ (e : Identifier × X). q e.1) (fin.entries m))
  unfolding kept passes_found mark
  keys_kept ids m is =
      ap (map (λ (e : Identifier × ⊤). e.0))
      (same_entries order nat_list_cmp_total same_id (fin.entries ids) (kept (fin.entries m)) (entries_sorted ids)
      (kept_sorted (fin.entries m) (entries_sorted m))
      (λ k. sym (get-entries ids k) ∙ whole (fin.get ids k)
      ∙ ap (λ b. cond b (Some tt) None) (is k ∙ ap (λ o. option_map_or q o false) (get-entries m k))
      ∙ sym (found_kept (fin.entries m) k (entries_sorted m))))
      ∙ map-map _ _ (filter (λ (e : Identifier × X). q e.1) (fin.entries m))
    where
      whole : (o : Option ⊤) → o ≡ cond (is_some o) (Some tt) None
      whole None = refl
      whole (Some x) = refl

abbrev test : List ℕ → List ℕ → Shell → Bool
test name value s = carries s.asset name value

pub carriers_are : (ids : Map ⊤) (shells : Map Shell) (name value : List ℕ)
    → ((k : Identifier) → fin.contains_key ids k ≡ carried shells name value k)
    → fin.keys ids ≡ carriers name value shells
carriers_are ids shells name value is = keys_kept (test name value) ids shells is

no_entries : fin.entries (fin.from_sorted {X = ⊤} {R = order} []) ≡ []
no_entries = entries-from_sorted order [] tt

no_keys : fin.keys (fin.empty {X = ⊤} {R = order}) ≡ []
no_keys =
    ap fin.keys (sym (empty_of_len (fin.from_sorted []) (len-entries (fin.from_sorted []) ∙ ap length no_entries)))
    ∙ ap (map (λ (e : Identifier × ⊤). e.0)) no_entries

pub no_carriers : (shells : Map Shell) (name value : List ℕ) → ((k : Identifier) → carried shells name value k ≡ false)
    → carriers name value shells ≡ []
no_carriers shells name value none =
    sym (carriers_are fin.empty shells name value (λ k. ap is_some (get-empty order k) ∙ sym (none k))) ∙ no_keys

-- ---- a page

abbrev id_of : {X : Type 0} → Identifier × X → Identifier
id_of e = e.0

-- of entries of which some are looked at, those that pass all tests are among them
module _ {X : Type 0} (after : Option Identifier) (q passes : X → Bool) (h : Identifier → Bool)
    (narrow : (x : X) → passes x ≡ true → q x ≡ true) where
  abbrev looked : Entries X → Entries X
  looked es = filter (λ (e : Identifier × X). q e.1) es

  abbrev all : Entries X → Entries X
  all es = filter (λ (e : Identifier × X). is_above after e.0 && passes e.1) es

  abbrev ids : Entries X → List Identifier
  ids es = map (λ (e : Identifier × X). e.0) es

  pub narrowed : (es : Entries X) → ((i : ℕ) (e : Identifier × X) → slice_get es i ≡ Some e → h e.0 ≡ passes e.1)
      → filter h (filter (is_above after) (map (λ (e : Identifier × X). e.0)
      (filter (λ (e : Identifier × X). q e.1) es)))
      ≡ map (λ (e : Identifier × X). e.0) (filter (λ (e : Identifier × X). is_above after e.0 && passes e.1) es)
  narrowed [] each = refl
  narrowed (e ∷ es) each = by (q e.1) refl (is_above after e.0) refl (passes e.1) refl
      (narrowed es (λ i f at. each (suc i) f at))
    where
      by : (a : Bool) → q e.1 ≡ a → (b : Bool) → is_above after e.0 ≡ b → (c : Bool) → passes e.1 ≡ c
          → filter h (filter (is_above after) (ids (looked es))) ≡ ids (all es)
          → filter h (filter (is_above after) (ids (cond (q e.1) (e ∷ looked es) (looked es))))
          ≡ ids (cond (is_above after e.0 && passes e.1) (e ∷ all es) (all es))
      by true is_a true is_b true is_c rest = rw is_a (rw is_b
          (rw (each zero e refl) (rw is_c (ap (λ xs. e.0 ∷ xs) rest))))
      by true is_a true is_b false is_c rest = rw is_a (rw is_b (rw (each zero e refl) (rw is_c rest)))
      by true is_a false is_b c is_c rest = rw is_a (rw is_b rest)
      by false is_a true is_b true is_c rest = absurd (false_true (sym is_a ∙ narrow e.1 is_c))
        where
          false_true : false ≡ true → ⊥
          false_true e = cc
      by false is_a true is_b false is_c rest = rw is_a (rw is_b (rw is_c rest))
      by false is_a false is_b c is_c rest = rw is_a (rw is_b rest)

  pub page_is : (limit : ℕ) (m : Map X) → ((i : ℕ) (e : Identifier × X) → slice_get (fin.entries m) i ≡ Some e
      → h e.0 ≡ passes e.1)
      → first_page limit (filter h (filter (is_above after)
      (map (λ (e : Identifier × X). e.0) (filter (λ (e : Identifier × X). q e.1) (fin.entries m)))))
      ≡ ids_on (page_after passes after limit m)
  page_is limit m each =
      let left = left_after passes after m in
      ap (first_page limit) (narrowed (fin.entries m) each)
      ∙ ap₂ (λ entries more. record { entries = entries; more = more })
      (take-map (λ (e : Identifier × X). e.0) limit left)
      (ap (nat_lt limit) (length-map left (λ (e : Identifier × X). e.0)))

-- ---- a page of those that pass, one by one

page_by : (limit : ℕ) (xs ys : List Identifier) (more : Bool) → ys ≡ take limit xs → more ≡ nat_lt limit (length xs)
    → record { entries = ys; more = more } ≡ first_page limit xs
page_by limit xs ys more entries follows = ap₂ (λ entries more. record { entries = entries; more = more }) entries
    follows

page_full : (limit : ℕ) (taken rest all : List Identifier) (id : Identifier) → all ≡ taken ++ id ∷ rest
    → length taken ≡ limit
    → record { entries = taken; more = true } ≡ first_page limit all
page_full limit taken rest all id is full =
    let xs = taken ++ id ∷ rest in
    let long = length-append taken (id ∷ rest) in
    page_by limit xs taken true (sym (take-append_seam taken (id ∷ rest)) ∙ ap (λ n. take n xs) full)
    (sym (lt-ltb limit (length xs) (omega (arith, long, full))))
    ∙ ap (first_page limit) (sym is)

module _ (p : Identifier → Bool) (ids : List (List ℕ)) where
  abbrev found : ℕ → List Identifier
  found i = filter p (map encode_utf8_all (take i ids))

  abbrev all_found : List Identifier
  all_found = filter p (map encode_utf8_all ids)

  pub found_next : (i : ℕ) (id : List ℕ) → slice_get ids i ≡ Some id
      → found (i + 1) ≡ found i ++ filter p (encode_utf8_all id ∷ [])
  found_next i id at =
      ap (λ (ts : List (List ℕ)). filter p (map encode_utf8_all ts))
      (take_more ids i id (slice_get_within ids i id at)
      ∙ ap (λ t. take i ids ++ t ∷ []) (get_or_from_slice_get ids i id id at))
      ∙ ap (filter p) (map-append encode_utf8_all (take i ids) (id ∷ []))
      ∙ filter-append p (map encode_utf8_all (take i ids)) (encode_utf8_all id ∷ [])

  all_is : (i : ℕ) → all_found ≡ found i ++ filter p (map encode_utf8_all (drop i ids))
  all_is i =
      ap (λ (ts : List (List ℕ)). filter p (map encode_utf8_all ts)) (sym (take-append-drop i ids))
      ∙ ap (filter p) (map-append encode_utf8_all (take i ids) (drop i ids))
      ∙ filter-append p (map encode_utf8_all (take i ids)) (map encode_utf8_all (drop i ids))

  one_by : (id : List ℕ) (b : Bool) → p (encode_utf8_all id) ≡ b
      → filter p (encode_utf8_all id ∷ []) ≡ cond b (encode_utf8_all id ∷ []) []
  one_by id b is = ap (λ b. cond b (encode_utf8_all id ∷ []) []) is

  pub page_ends : (limit i : ℕ) (id : List ℕ) (listed : List (List ℕ)) → slice_get ids i ≡ Some id
      → map encode_utf8_all listed ≡ found i
      → p (encode_utf8_all id) ≡ true → length listed ≡ limit
      → record { entries = map encode_utf8_all listed; more = true } ≡ first_page limit all_found
  page_ends limit i id listed at so_far pass full =
      let rest = filter p (map encode_utf8_all (drop (i + 1) ids)) in
      page_full limit (map encode_utf8_all listed) rest all_found (encode_utf8_all id)
      (all_is (i + 1) ∙ ap (λ ks. ks ++ rest) (found_next i id at
      ∙ ap₂ (λ a b. a ++ b) (sym so_far) (one_by id true pass))
      ∙ append_one (map encode_utf8_all listed) (encode_utf8_all id) rest)
      (length-map listed encode_utf8_all ∙ full)

-- ---- whose identifiers are looked at

pub posted : (shells : Map Shell) (name value : List ℕ) (ids : Map ⊤) (texts : List (List ℕ))
    → IsPosting shells name value (Some ids)
    → map encode_utf8_all texts ≡ fin.keys ids → map encode_utf8_all texts ≡ carriers name value shells
posted shells name value ids texts is same = same ∙ carriers_are ids shells name value is

pub none_posted : (shells : Map Shell) (name value : List ℕ) → IsPosting shells name value None
    → carriers name value shells ≡ []
none_posted shells name value none = no_carriers shells name value none

pub looked_up : (d : Documents) (wanted : List SpecificAssetId) (after : Option Identifier) (limit : ℕ)
    (ids found : List (List ℕ)) → HoldOneOf d.shells wanted ids
    → map encode_utf8_all found ≡ filter (is_above after) (map encode_utf8_all ids)
    → first_page limit (filter (has_all d.shells wanted) (map encode_utf8_all found)) ≡ lookup_page wanted after limit d
looked_up d wanted after limit ids found holds above =
    ap (λ ks. first_page limit (filter (has_all d.shells wanted) ks))
    (above ∙ ap (filter (is_above after)) holds.ids_are)
    ∙ page_is after (test (encode_utf8_all holds.one.name) (encode_utf8_all holds.one.value))
    (passes_shell (with_asset_ids wanted)) (has_all d.shells wanted) holds.has_it limit d.shells
    (λ i e at. ap (λ o. option_map_or (λ (s : Shell). list_all (has_asset_id s.asset) wanted) o false)
    (found_there d.shells e.0 i e.1 at))
