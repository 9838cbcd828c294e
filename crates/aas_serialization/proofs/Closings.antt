-- All that is taken is taken along, and in the end all that is taken along is taken.
use Rattle.std.proofs.Common.{◌≡◌, Bor, ℕ, ◌+◌, ◌<◌, List, [], ◌∷◌, ◌++◌, length, map, flat_map, Some, None, sym, ap, ◌∙◌, subst, arith, length-append}
use Rattle.std.specs.FinMap as fin
use Rattle.std.specs.Option.{option_to_list}
use Rattle.std.specs.Str.{encode_utf8_all}
use Rattle.std.proofs.lemmas.List.{append-nil, map-append}
use Rattle.std.proofs.lemmas.List.Elements.{Contains-append_left, Contains-push, Contains-push_cases}
use Rattle.aas_model.specs.declared.reference.Reference.{Reference}
use Rattle.aas_model_names.specs.declared.collection.Collection.TheVariants.{Concepts}
use Rattle.aas_store.specs.Documents.{Documents, Identifier, ids}
use Rattle.aas_serialization.specs.Chosen.{roots_of}
use Rattle.aas_serialization.specs.Closure.{cases_named, concept_closure, concepts_named, same_closure}
use Rattle.aas_serialization.specs.Reached.{Closing, Takes, closing_begun, closing_done, closing_next, weight}
use Rattle.aas_serialization.specs.Reaches.{Set}
use Rattle.aas_serialization.specs.Roots.{shell_roots_at, submodel_roots_at}
use Rattle.aas_serialization.specs.Taken.{IsClosing, TakesAlong, TakesIds, waiting_in}
use Rattle.aas_serialization.specs.declared.taken.Taken.{Taken}
use Rattle.aas_serialization.proofs.Along.{along_both}

-- a text that the store keeps
abbrev Lent : Type 0
Lent = Bor (List ℕ)

abbrev id_of : Lent → Identifier
id_of text = encode_utf8_all text.now

module _ (m : Documents) where
  pub left : Taken → ℕ
  left t = weight (ids Concepts m) t.ids (waiting_in t)

  -- one that waits is taken out
  pub popped : (old new : Taken) (text : Lent) → old.waiting.items ≡ new.waiting.items ++ option_to_list (Some text)
      → waiting_in old ≡ waiting_in new ++ encode_utf8_all text.now ∷ []
  popped old new text is = ap (map id_of) is ∙ map-append id_of new.waiting.items (text ∷ [])

  pub closing_on : (roots : List Reference) (old mid new : Taken) (text : Lent) (bytes : Identifier) → mid.ids ≡ old.ids
      → old.waiting.items ≡ mid.waiting.items ++ option_to_list (Some text) → bytes ≡ encode_utf8_all text.now
      → TakesIds m mid new (cases_named m bytes) → IsClosing m roots old → IsClosing m roots new
  closing_on roots old mid new text bytes same is spelled takes closing =
      let id : Identifier = encode_utf8_all text.now in
      let w : List Identifier = waiting_in mid in
      let next = cases_named m in
      let named = concepts_named m roots in
      closing_next next named (ids Concepts m) mid.ids new.ids (w ++ id ∷ []) w (waiting_in new) id
      (λ q has. Contains-push_cases w id q has) (λ q has. Contains-append_left w (id ∷ []) q has) (Contains-push w id)
      (subst (λ (s : Set). Closing next named s (w ++ id ∷ [])) (sym same)
      (subst (λ (l : List Identifier). Closing next named old.ids l) (popped old mid text is) closing))
      (subst (λ (id : Identifier). TakesIds m mid new (cases_named m id)) spelled takes)

  pub less_left : (old mid new : Taken) (text : Lent) (bytes : Identifier) → mid.ids ≡ old.ids
      → old.waiting.items ≡ mid.waiting.items ++ option_to_list (Some text) → TakesIds m mid new (cases_named m bytes)
      → left new < left old
  unfolding left
  less_left old mid new text bytes same is takes =
      let id : Identifier = encode_utf8_all text.now in
      let all = ids Concepts m in
      let ids_left : weight all old.ids (waiting_in old) ≡ weight all mid.ids (waiting_in old) =
      ap (λ (s : Set). weight all s (waiting_in old)) (sym same) in
      let long : length (waiting_in old) ≡ length (waiting_in mid) + 1 =
      ap length (popped old mid text is) ∙ length-append (waiting_in mid) (id ∷ []) in
      omega (arith, takes.lighter, long, ids_left)

  pub closing_ended : (roots : List Reference) (t : Taken) (rest : List Lent)
      → t.waiting.items ≡ rest ++ option_to_list {X = Lent} None → rest ≡ [] → IsClosing m roots t
      → t.ids ≡ concept_closure m roots
  closing_ended roots t rest is none closing =
      let next = cases_named m in
      let named = concepts_named m roots in
      let empty : waiting_in t ≡ [] = ap (map id_of) (is ∙ append-nil rest ∙ none) in
      same_closure m roots t.ids
      (closing_done next named t.ids (subst (λ (l : List Identifier). Closing next named t.ids l) empty closing))

  pub closing_first : (shells submodels : Set) (none a b : Taken) → none.ids ≡ fin.empty → none.waiting.items ≡ []
      → TakesAlong m none a (flat_map (shell_roots_at m) (fin.keys shells)) → TakesAlong m a b (flat_map (submodel_roots_at m) (fin.keys submodels)) → IsClosing m (roots_of m shells submodels) b
  closing_first shells submodels none a b empty idle first later =
      let roots : List Reference = roots_of m shells submodels in
      let takes : TakesAlong m none b roots = along_both m none a b (flat_map (shell_roots_at m) (fin.keys shells)) (flat_map (submodel_roots_at m) (fin.keys submodels)) first later in
      let TakesFrom : Set → List Identifier → Type 0 =
      λ s w. Takes (cases_named m) (ids Concepts m) s w b.ids (waiting_in b) (concepts_named m roots) in
      closing_begun (cases_named m) (concepts_named m roots) (ids Concepts m) b.ids (waiting_in b)
      (subst (λ (w : List Identifier). TakesFrom fin.empty w) (ap (map id_of) idle)
      (subst (λ (s : Set). TakesFrom s (waiting_in none)) empty takes))
