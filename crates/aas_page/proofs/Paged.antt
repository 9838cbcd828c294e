-- What a page shows, as far as a loop over identifiers has found it.
use Rattle.std.proofs.Common.{◌≡◌, ℕ, ◌<◌, ◌≤◌, Bool, true, false, cond, nat_lt, List, [], ◌∷◌, ◌++◌, length, take, Option, Some, None, sym}
use Rattle.std.proofs.Common.{ap, ap₂, ◌∙◌, arith}
use Rattle.std.specs.Option.{option_map_or}
use Rattle.std.specs.FinMap as fin
use Rattle.std.specs.FinMap.{entries_sorted, get-entries}
use Rattle.std.proofs.Math.Seq.{take-append_seam}
use Rattle.std.proofs.lemmas.Bool.{lt-ltb, le-ltb}
use Rattle.std.proofs.lemmas.List.{append-nil, length-append, length-map, take_all, take-map}
use Rattle.aas_lemmas.proofs.Lists.{append_one}
use Rattle.aas_model_names.specs.declared.collection.Collection.{Collection}
use Rattle.aas_model_names.specs.declared.collection.Collection.TheVariants.{Shells, Submodels, Concepts}
use Rattle.aas_store.specs.Documents.{Documents, Identifier, Map, first_above, ids, is_above}
use Rattle.aas_store.proofs.Ordered.{found_at}
use Rattle.aas_page.specs.Filters.{passes_concept, passes_shell, passes_submodel}
use Rattle.aas_page.specs.Pages.{first_page, ids_on, left_after, page_after, page_of, passes_at}
use Rattle.aas_page.specs.declared.filter.Filter.{Filter}
use Rattle.aas_page.proofs.Following.{ends_after, following, following_is, found_entry, goes_on_after}

module _ {X : Type 0} (passes : X → Bool) (m : Map X) where
  first_of : (after : Option Identifier) (limit : ℕ)
      → first_page limit (following passes after (fin.entries m)) ≡ ids_on (page_after passes after limit m)
  first_of after limit =
      let left = left_after passes after m in
      ap (first_page limit) (following_is passes after m)
      ∙ ap₂ (λ entries more. record { entries = entries; more = more }) (take-map (λ (e : Identifier × X). e.0) limit left)
      (ap (nat_lt limit) (length-map left (λ (e : Identifier × X). e.0)))

  next_of : (after : Option Identifier) (id : Identifier) → first_above after (fin.keys m) ≡ Some id
      → let rest = following passes (Some id) (fin.entries m) in
      following passes after (fin.entries m) ≡ cond (option_map_or passes (fin.get m id) false) (id ∷ rest) rest
  next_of after id is =
      let rest = following passes (Some id) (fin.entries m) in
      goes_on_after passes after (fin.entries m) id (entries_sorted m) is
      ∙ ap (λ found. cond (option_map_or passes found false) (id ∷ rest) rest) (sym (get-entries m id))

every : {X : Type 0} → X → Bool
every x = true

fewer_of : {X : Type 0} (m : Map X) (after : Option Identifier) (id : Identifier) → first_above after (fin.keys m) ≡ Some id
    → length (following every (Some id) (fin.entries m)) < length (following every after (fin.entries m))
unfolding every
fewer_of m after id is =
    let es = fin.entries m in
    let there = found_entry (is_above after) es id is in
    let rest = following every (Some id) es in
    let goes : following every after es ≡ id ∷ rest =
    goes_on_after every after es id (entries_sorted m) is
    ∙ ap (λ o. cond (option_map_or every o false) (id ∷ rest) rest) (found_at es there.0 id there.1 (entries_sorted m) there.2) in
    let more = ap length goes in
    omega (arith, more)

-- ---- of a collection

-- the identifiers of the documents that pass, from behind one on
pub passing : Collection → Filter → Option Identifier → Documents → List Identifier
passing Shells f after d = following (passes_shell f) after (fin.entries d.shells)
passing Submodels f after d = following (passes_submodel f) after (fin.entries d.submodels)
passing Concepts f after d = following (passes_concept f) after (fin.entries d.concepts)

-- how many identifiers are behind one
pub count_behind : Collection → Option Identifier → Documents → ℕ
count_behind Shells after d = length (following every after (fin.entries d.shells))
count_behind Submodels after d = length (following every after (fin.entries d.submodels))
count_behind Concepts after d = length (following every after (fin.entries d.concepts))

next : (c : Collection) (f : Filter) (after : Option Identifier) (d : Documents) (id : Identifier) → first_above after (ids c d) ≡ Some id
    → passing c f after d ≡ cond (passes_at c f id d) (id ∷ passing c f (Some id) d) (passing c f (Some id) d)
unfolding passing
next Shells f after d id is = next_of (passes_shell f) d.shells after id is
next Submodels f after d id is = next_of (passes_submodel f) d.submodels after id is
next Concepts f after d id is = next_of (passes_concept f) d.concepts after id is

pub no_next : (c : Collection) (f : Filter) (after : Option Identifier) (d : Documents) → first_above after (ids c d) ≡ None
    → passing c f after d ≡ []
unfolding passing
no_next Shells f after d is = ends_after (passes_shell f) after (fin.entries d.shells) is
no_next Submodels f after d is = ends_after (passes_submodel f) after (fin.entries d.submodels) is
no_next Concepts f after d is = ends_after (passes_concept f) after (fin.entries d.concepts) is

pub fewer_behind : (c : Collection) (after : Option Identifier) (d : Documents) (id : Identifier) → first_above after (ids c d) ≡ Some id
    → count_behind c (Some id) d < count_behind c after d
unfolding count_behind
fewer_behind Shells after d id is = fewer_of d.shells after id is
fewer_behind Submodels after d id is = fewer_of d.submodels after id is
fewer_behind Concepts after d id is = fewer_of d.concepts after id is

first_is : (c : Collection) (f : Filter) (after : Option Identifier) (limit : ℕ) (d : Documents)
    → first_page limit (passing c f after d) ≡ page_of c f after limit d
unfolding passing
first_is Shells f after limit d = first_of (passes_shell f) d.shells after limit
first_is Submodels f after limit d = first_of (passes_submodel f) d.submodels after limit
first_is Concepts f after limit d = first_of (passes_concept f) d.concepts after limit

-- ---- one identifier further

module _ (c : Collection) (f : Filter) (d : Documents) (all taken : List Identifier) (last : Option Identifier) (id : Identifier) where
  abbrev rest : List Identifier
  rest = passing c f (Some id) d

  by_test : (b : Bool) → all ≡ taken ++ passing c f last d → first_above last (ids c d) ≡ Some id → passes_at c f id d ≡ b
      → all ≡ taken ++ cond b (id ∷ rest) rest
  by_test b so_far is test = so_far ∙ ap (λ ids. taken ++ ids) (next c f last d id is ∙ ap (λ b. cond b (id ∷ rest) rest) test)

  pub next_passes : all ≡ taken ++ passing c f last d → first_above last (ids c d) ≡ Some id → passes_at c f id d ≡ true
      → all ≡ taken ++ id ∷ rest
  next_passes so_far is pass = by_test true so_far is pass

  pub next_taken : (more : List Identifier) → all ≡ taken ++ passing c f last d → first_above last (ids c d) ≡ Some id
      → passes_at c f id d ≡ true → more ≡ taken ++ id ∷ [] → all ≡ more ++ rest
  next_taken more so_far is pass added =
      by_test true so_far is pass ∙ sym (append_one taken id rest) ∙ ap (λ ids. ids ++ rest) (sym added)

  pub next_passed_over : all ≡ taken ++ passing c f last d → first_above last (ids c d) ≡ Some id → passes_at c f id d ≡ false
      → all ≡ taken ++ rest
  next_passed_over so_far is pass = by_test false so_far is pass

-- ---- the ends of the loop

page_by : (limit : ℕ) (xs ys : List Identifier) (more : Bool) → ys ≡ take limit xs → more ≡ nat_lt limit (length xs)
    → record { entries = ys; more = more } ≡ first_page limit xs
page_by limit xs ys more entries follows = ap₂ (λ entries more. record { entries = entries; more = more }) entries follows

pub page_is_full : (c : Collection) (f : Filter) (after : Option Identifier) (limit : ℕ) (d : Documents) (taken : List Identifier)
    (id : Identifier) (rest : List Identifier) → passing c f after d ≡ taken ++ id ∷ rest → length taken ≡ limit
    → record { entries = taken; more = true } ≡ page_of c f after limit d
page_is_full c f after limit d taken id rest is full =
    let all = taken ++ id ∷ rest in
    let long = length-append taken (id ∷ rest) in
    let front : taken ≡ take limit all = sym (take-append_seam taken (id ∷ rest)) ∙ ap (λ n. take n all) full in
    let further : true ≡ nat_lt limit (length all) = sym (lt-ltb limit (length all) (omega (arith, long, full))) in
    page_by limit all taken true front further ∙ ap (first_page limit) (sym is) ∙ first_is c f after limit d

pub page_is_all : (c : Collection) (f : Filter) (after : Option Identifier) (limit : ℕ) (d : Documents) (taken : List Identifier)
    → passing c f after d ≡ taken ++ [] → length taken ≤ limit → record { entries = taken; more = false } ≡ page_of c f after limit d
page_is_all c f after limit d taken is few =
    page_by limit taken taken false (sym (take_all limit taken few)) (sym (le-ltb limit (length taken) few))
    ∙ ap (first_page limit) (sym (is ∙ append-nil taken)) ∙ first_is c f after limit d
