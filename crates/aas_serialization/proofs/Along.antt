-- What some references name is taken, one reference after another.
use Rattle.std.proofs.Common.{◌≡◌, ℕ, ◌+◌, ◌<◌, ◌≤◌, false, List, [], ◌∷◌, ◌++◌, length, take, get_or, slice_get, flat_map, Option, Some, None, refl, sym, ap, ◌∙◌, subst, arith}
use Rattle.std.specs.FinMap as fin
use Rattle.std.specs.List.{cons_option}
use Rattle.std.specs.Option.{option_map_or}
use Rattle.std.proofs.lemmas.Grind.{flat_map-append}
use Rattle.std.proofs.lemmas.List.{append-nil, take_all, take_more}
use Rattle.std.proofs.lemmas.List.Elements.{filter_map-append}
use Rattle.std.proofs.lemmas.Option.{get_or_from_slice_get, slice_get_within}
use Rattle.aas_lemmas.proofs.Lists.{past_end}
use Rattle.aas_model.specs.declared.documents.Concept.{Concept}
use Rattle.aas_model.specs.declared.documents.Shell.{Shell}
use Rattle.aas_model.specs.declared.documents.Submodel.{Submodel}
use Rattle.aas_model.specs.declared.reference.Reference.{Reference}
use Rattle.aas_model_names.specs.declared.collection.Collection.TheVariants.{Concepts}
use Rattle.aas_path_trees.specs.Patched.{element_count}
use Rattle.aas_rows.proofs.Edited.{count_at}
use Rattle.aas_rows.specs.Rows.{Line, rows_of_all}
use Rattle.aas_store.specs.Documents.{Documents, Identifier, ids, without_children}
use Rattle.aas_serialization.specs.Closure.{cases_named, concept_named, concepts_named, concept_is_known}
use Rattle.aas_serialization.specs.Reached.{Takes, takes_again, takes_both, takes_last, takes_nothing, takes_one}
use Rattle.aas_serialization.specs.Reaches.{IsIn, Set}
use Rattle.aas_serialization.specs.Roots.{head_roots, line_roots, shell_roots, shell_roots_at, submodel_roots, submodel_roots_at}
use Rattle.aas_serialization.specs.Taken.{TakesAlong, TakesIds, waiting_in}
use Rattle.aas_serialization.specs.declared.taken.Taken.{Taken}

-- the references of the rows before one
abbrev pub rows_to : List Line → ℕ → List Reference
rows_to rows rank = flat_map line_roots (take rank rows)

module _ (m : Documents) where
  pub along_nothing : (t : Taken) → TakesAlong m t t []
  along_nothing t = takes_nothing (cases_named m) (ids Concepts m) t.ids (waiting_in t)

  pub along_both : (a b c : Taken) (xs ys : List Reference) → TakesAlong m a b xs → TakesAlong m b c ys → TakesAlong m a c (xs ++ ys)
  along_both a b c xs ys first later =
      subst (λ (found : List Identifier). TakesIds m a c found) (sym (filter_map-append (concept_named m) xs ys))
      (takes_both (cases_named m) (ids Concepts m) a.ids b.ids c.ids (waiting_in a) (waiting_in b) (waiting_in c)
      (concepts_named m xs) (concepts_named m ys) first later)

  pub along_same : (a b : Taken) (xs ys : List Reference) → xs ≡ ys → TakesAlong m a b xs → TakesAlong m a b ys
  along_same a b xs ys same = subst (λ (rs : List Reference). TakesAlong m a b rs) same

  -- ---- one reference

  named_alone : (r : Reference) (o : Option Identifier) → concept_named m r ≡ o → concepts_named m (r ∷ []) ≡ cons_option o []
  named_alone r o is = ap (λ (o : Option Identifier). cons_option o []) is

  -- one that names nothing
  pub along_none : (t : Taken) (r : Reference) → concept_named m r ≡ None → TakesAlong m t t (r ∷ [])
  along_none t r none = subst (λ (found : List Identifier). TakesIds m t t found) (sym (named_alone r None none)) (along_nothing t)

  -- one that names what is taken already
  pub along_again : (t : Taken) (r : Reference) (id : Identifier) → concept_named m r ≡ Some id → IsIn t.ids id → TakesAlong m t t (r ∷ [])
  along_again t r id is there =
      subst (λ (found : List Identifier). TakesIds m t t found) (sym (named_alone r (Some id) is))
      (takes_again (cases_named m) (ids Concepts m) t.ids (waiting_in t) id there)

  -- one that names what isn't
  along_taken : (a b : Taken) (r : Reference) (id : Identifier) (w : List Identifier) → Some id ≡ concept_named m r
      → b.ids ≡ fin.insert a.ids id tt → waiting_in b ≡ w
      → Takes (cases_named m) (ids Concepts m) a.ids (waiting_in a) (fin.insert a.ids id tt) w (id ∷ [])
      → TakesAlong m a b (r ∷ [])
  along_taken a b r id w is put waits takes =
      let TakesTo : Set → List Identifier → Type 0 =
      λ s w. Takes (cases_named m) (ids Concepts m) a.ids (waiting_in a) s w (id ∷ []) in
      subst (λ (found : List Identifier). TakesIds m a b found) (sym (named_alone r (Some id) (sym is)))
      (subst (λ (w : List Identifier). TakesTo b.ids w) (sym waits) (subst (λ (s : Set). TakesTo s w) (sym put) takes))

  -- which waits from then on
  pub along_new : (a b : Taken) (r : Reference) (id : Identifier) → Some id ≡ concept_named m r
      → fin.contains_key a.ids id ≡ false → b.ids ≡ fin.insert a.ids id tt → waiting_in b ≡ waiting_in a ++ id ∷ []
      → TakesAlong m a b (r ∷ [])
  along_new a b r id is out put waits =
      along_taken a b r id (waiting_in a ++ id ∷ []) is put waits
      (takes_one (cases_named m) (ids Concepts m) a.ids (waiting_in a) id tt (concept_is_known m r id (sym is)) out)

  -- without isCaseOf references none is named
  names_none : (o : Option Concept) → option_map_or (λ c. c.is_case_of) o [] ≡ []
      → option_map_or (λ c. concepts_named m c.is_case_of) o [] ≡ []
  names_none None none = refl
  names_none (Some c) none = ap (concepts_named m) none

  -- which has no isCaseOf references, and doesn't wait
  pub along_last : (a b : Taken) (r : Reference) (id : Identifier) → Some id ≡ concept_named m r
      → fin.contains_key a.ids id ≡ false → b.ids ≡ fin.insert a.ids id tt → waiting_in b ≡ waiting_in a
      → option_map_or (λ c. c.is_case_of) (fin.get m.concepts id) [] ≡ [] → TakesAlong m a b (r ∷ [])
  along_last a b r id is out put waits none =
      along_taken a b r id (waiting_in a) is put waits
      (takes_last (cases_named m) (ids Concepts m) a.ids (waiting_in a) id tt (concept_is_known m r id (sym is)) out
      (names_none (fin.get m.concepts id) none))

  -- ---- one thing after another, each with references

  pub along_item : {X : Type 0} (roots : X → List Reference) (a b c : Taken) (xs : List X) (i : ℕ) (x : X) → i < length xs → x ≡ get_or xs i x
      → TakesAlong m a b (flat_map roots (take i xs)) → TakesAlong m b c (roots x) → TakesAlong m a c (flat_map roots (take (i + 1) xs))
  along_item {X = X} roots a b c xs i x lt at so_far more =
      let one : flat_map roots (x ∷ []) ≡ roots x = append-nil (roots x) in
      let front : take (i + 1) xs ≡ take i xs ++ x ∷ [] = take_more xs i x lt ∙ ap (λ (y : X). take i xs ++ y ∷ []) (sym at) in
      along_same a c (flat_map roots (take i xs) ++ roots x) (flat_map roots (take (i + 1) xs))
      (ap (λ (rs : List Reference). flat_map roots (take i xs) ++ rs) (sym one) ∙ sym (flat_map-append roots (take i xs) (x ∷ [])) ∙ ap (flat_map roots) (sym front))
      (along_both a b c (flat_map roots (take i xs)) (roots x) so_far more)

  pub along_reference : (a b c : Taken) (rs : List Reference) (i : ℕ) (r : Reference) → i < length rs → r ≡ get_or rs i r
      → TakesAlong m a b (take i rs) → TakesAlong m b c (r ∷ []) → TakesAlong m a c (take (i + 1) rs)
  along_reference a b c rs i r lt at so_far more =
      let front : take (i + 1) rs ≡ take i rs ++ r ∷ [] = take_more rs i r lt ∙ ap (λ (y : Reference). take i rs ++ y ∷ []) (sym at) in
      along_same a c (take i rs ++ r ∷ []) (take (i + 1) rs) (sym front) (along_both a b c (take i rs) (r ∷ []) so_far more)

  -- ---- rows

  -- the row of a rank, or none
  pub along_row : (a b c : Taken) (rows : List Line) (rank : ℕ) → TakesAlong m a b (rows_to rows rank)
      → TakesAlong m b c (option_map_or line_roots (slice_get rows rank) []) → TakesAlong m a c (rows_to rows (rank + 1))
  along_row a b c rows rank so_far more = by (slice_get rows rank) refl more
    where
      by : (o : Option Line) → slice_get rows rank ≡ o → TakesAlong m b c (option_map_or line_roots o [])
          → TakesAlong m a c (rows_to rows (rank + 1))
      by (Some l) at more =
          let within = slice_get_within rows rank l at in
          along_item line_roots a b c rows rank l within (sym (get_or_from_slice_get rows rank l l at)) so_far more
      by None at more =
          let past : length rows ≤ rank = past_end rows rank at in
          let same = take_all rank rows past ∙ sym (take_all (rank + 1) rows (omega (arith, past))) in
          along_same a c (rows_to rows rank ++ []) (rows_to rows (rank + 1))
          (append-nil (rows_to rows rank) ∙ ap (flat_map line_roots) same)
          (along_both a b c (rows_to rows rank) [] so_far more)

  -- all rows of a submodel that has so many elements
  pub along_rows : (a b : Taken) (s : Submodel) (all rank : ℕ) → all ≡ element_count s → all ≤ rank
      → TakesAlong m a b (rows_to (rows_of_all s.kids 1) rank) → TakesAlong m a b (flat_map line_roots (rows_of_all s.kids 1))
  along_rows a b s all rank is le so_far =
      let rows = rows_of_all s.kids 1 in
      along_same a b (rows_to rows rank) (flat_map line_roots rows)
      (ap (flat_map line_roots) (take_all rank rows (omega (arith, is, le, count_at s.kids 1)))) so_far

  -- ---- documents

  pub along_shell : (a b : Taken) (id : Identifier) (s : Shell) → Some s ≡ fin.get m.shells id → TakesAlong m a b (shell_roots s) → TakesAlong m a b (shell_roots_at m id)
  along_shell a b id s is = along_same a b (shell_roots s) (shell_roots_at m id) (ap (λ (o : Option Shell). option_map_or shell_roots o []) is)

  pub along_no_shell : (t : Taken) (id : Identifier) → None ≡ fin.get m.shells id → TakesAlong m t t (shell_roots_at m id)
  along_no_shell t id is = along_same t t [] (shell_roots_at m id) (ap (λ (o : Option Shell). option_map_or shell_roots o []) is) (along_nothing t)

  -- a submodel that is told by its head and its rows
  pub along_submodel : (a b c : Taken) (id : Identifier) (h s : Submodel) → Some s ≡ fin.get m.submodels id → without_children h ≡ without_children s
      → TakesAlong m a b (head_roots h) → TakesAlong m b c (flat_map line_roots (rows_of_all s.kids 1)) → TakesAlong m a c (submodel_roots_at m id)
  along_submodel a b c id h s is head first later =
      along_same a c (head_roots h ++ flat_map line_roots (rows_of_all s.kids 1)) (submodel_roots_at m id)
      (ap (λ (d : Submodel). head_roots d ++ flat_map line_roots (rows_of_all s.kids 1)) head ∙ ap (λ (o : Option Submodel). option_map_or submodel_roots o []) is)
      (along_both a b c (head_roots h) (flat_map line_roots (rows_of_all s.kids 1)) first later)

  pub along_no_submodel : (t : Taken) (id : Identifier) → None ≡ fin.get m.submodels id → TakesAlong m t t (submodel_roots_at m id)
  along_no_submodel t id is = along_same t t [] (submodel_roots_at m id) (ap (λ (o : Option Submodel). option_map_or submodel_roots o []) is) (along_nothing t)

  -- what the isCaseOf references of a concept description name
  pub along_cases : (a b : Taken) (id : Identifier) (c : Concept) → Some c ≡ fin.get m.concepts id → TakesAlong m a b c.is_case_of → TakesIds m a b (cases_named m id)
  along_cases a b id c is = subst (λ (found : List Identifier). TakesIds m a b found) (ap (λ (o : Option Concept). option_map_or (λ c. concepts_named m c.is_case_of) o []) is)

  pub along_no_cases : (t : Taken) (id : Identifier) → None ≡ fin.get m.concepts id → TakesIds m t t (cases_named m id)
  along_no_cases t id is = subst (λ (found : List Identifier). TakesIds m t t found) (ap (λ (o : Option Concept). option_map_or (λ c. concepts_named m c.is_case_of) o []) is) (along_nothing t)
