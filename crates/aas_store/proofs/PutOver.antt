-- Documents that are put in one after another, and a map that is laid over another.
use Rattle.std.proofs.Common.{◌≡◌, ◌+◌, ℕ, Bool, true, false, cond, List, [], ◌∷◌, ◌++◌, length-append, Some, refl, sym, ap, ◌∙◌, arith}
use Rattle.std.specs.FinMap as fin
use Rattle.std.specs.FinMap.{get-empty, get-insert, same_map}
use Rattle.std.specs.List.{fold}
use Rattle.std.specs.Option.{option_or}
use Rattle.std.specs.Ordering.{eq_by_cmp}
use Rattle.std.specs.Str.{encode_utf8_all}
use Rattle.std.proofs.lemmas.Cmp.{nat_list_cmp_total}
use Rattle.std.proofs.lemmas.List.{append_assoc}
use Rattle.std.proofs.lemmas.List.Sums.{fold-append}
use Rattle.aas_model.specs.declared.documents.Concept.{Concept}
use Rattle.aas_model.specs.declared.documents.Environment.{Environment}
use Rattle.aas_model.specs.declared.documents.Shell.{Shell}
use Rattle.aas_model.specs.declared.documents.Submodel.{Submodel}
use Rattle.aas_store.specs.Documents.{Documents, Identifier, Map, with_all, with_concept, with_shell, with_submodel}
use Rattle.aas_store.specs.Merged.{IsGathered, IsOverlaid, with_each}
use Rattle.aas_store.proofs.Ordered.{order, same_id}

module _ {D : Type 0} (id_of : D → Identifier) where
  -- documents put into a map that lies over another
  over : (ds : List D) (m n below : Map D) → ((id : Identifier) → fin.get m id ≡ option_or (fin.get n id) (fin.get below id))
      → (id : Identifier) → fin.get (with_each id_of m ds) id ≡ option_or (fin.get (with_each id_of n ds) id) (fin.get below id)
  over [] m n below lies id = lies id
  over (d ∷ ds) m n below lies id = over ds (fin.insert m (id_of d) d) (fin.insert n (id_of d) d) below (λ q.
      get-insert nat_list_cmp_total m (id_of d) d q ∙ ap (cond (eq_by_cmp order q (id_of d)) (Some d)) (lies q) ∙ by q (eq_by_cmp order q (id_of d))
      ∙ ap (λ o. option_or o (fin.get below q)) (sym (get-insert nat_list_cmp_total n (id_of d) d q))) id
    where
      by : (q : Identifier) (b : Bool) → cond b (Some d) (option_or (fin.get n q) (fin.get below q)) ≡ option_or (cond b (Some d) (fin.get n q)) (fin.get below q)
      by q true = refl
      by q false = refl

  -- what lies over a map is put into it
  pub put_over : (ds : List D) (m newer both : Map D) → newer ≡ with_each id_of fin.empty ds → IsOverlaid m newer both → both ≡ with_each id_of m ds
  put_over ds m newer both is lies = same_map nat_list_cmp_total same_id both (with_each id_of m ds) (λ q.
      lies q ∙ ap (λ (n : Map D). option_or (fin.get n q) (fin.get m q)) is
      ∙ sym (over ds m fin.empty m (λ k. ap (λ o. option_or o (fin.get m k)) (sym (get-empty order k))) q))

  -- some from the end, and then some before them
  pub both_gathered : (old between new : List D) (later earlier count : ℕ) (above below both : Map D) → IsGathered id_of old between later above → IsGathered id_of between new earlier below
      → IsOverlaid below above both → count ≡ earlier + later → IsGathered id_of old new count both
  both_gathered old between new later earlier count above below both first second lies sum = record {
    taken = second.taken ++ first.taken;
    old_is = first.old_is ∙ ap (λ ds. ds ++ first.taken) second.old_is ∙ append_assoc new second.taken first.taken;
    as_many = omega (arith, sum, first.as_many, second.as_many, length-append second.taken first.taken);
    holds = put_over first.taken below above both first.holds lies ∙ ap (λ (m : Map D). with_each id_of m first.taken) second.holds
        ∙ sym (fold-append (λ (m : Map D) d. fin.insert m (id_of d) d) fin.empty second.taken first.taken);
  }

-- ---- the three collections

pub shells_put : (d : Documents) (ss : List Shell) → fold with_shell d ss ≡ record d { shells = with_each (λ s. encode_utf8_all s.head.id) d.shells ss }
shells_put d [] = refl
shells_put d (s ∷ ss) = shells_put (with_shell d s) ss

pub submodels_put : (d : Documents) (ss : List Submodel) → fold with_submodel d ss ≡ record d { submodels = with_each (λ s. encode_utf8_all s.head.id) d.submodels ss }
submodels_put d [] = refl
submodels_put d (s ∷ ss) = submodels_put (with_submodel d s) ss

pub concepts_put : (d : Documents) (cs : List Concept) → fold with_concept d cs ≡ record d { concepts = with_each (λ c. encode_utf8_all c.head.id) d.concepts cs }
concepts_put d [] = refl
concepts_put d (c ∷ cs) = concepts_put (with_concept d c) cs

pub all_put : (d : Documents) (e : Environment) (new_shells : Map Shell) (new_submodels : Map Submodel) (new_concepts : Map Concept)
    → new_shells ≡ with_each (λ s. encode_utf8_all s.head.id) d.shells e.shells
    → new_submodels ≡ with_each (λ s. encode_utf8_all s.head.id) d.submodels e.submodels
    → new_concepts ≡ with_each (λ c. encode_utf8_all c.head.id) d.concepts e.concepts
    → record { shells = new_shells; submodels = new_submodels; concepts = new_concepts } ≡ with_all d e
all_put d e new_shells new_submodels new_concepts is_shells is_submodels is_concepts = sym (
    ap (λ (d : Documents). fold with_concept (fold with_submodel d e.submodels) e.concepts) (shells_put d e.shells ∙ ap (λ m. record d { shells = m }) (sym is_shells))
    ∙ ap (λ (d : Documents). fold with_concept d e.concepts) (submodels_put (record d { shells = new_shells }) e.submodels ∙ ap (λ m. record { shells = new_shells; submodels = m; concepts = d.concepts }) (sym is_submodels))
    ∙ concepts_put (record { shells = new_shells; submodels = new_submodels; concepts = d.concepts }) e.concepts ∙ ap (λ m. record { shells = new_shells; submodels = new_submodels; concepts = m }) (sym is_concepts))
