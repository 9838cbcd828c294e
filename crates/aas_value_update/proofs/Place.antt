-- The law of place, where all children of a submodel are changed in their values, and what an update by a value leaves.
use Rattle.std.proofs.Common.{◌≡◌, ℕ, suc, Bool, true, List, [], ◌∷◌, ◌++◌, map, flat_map, Option, Some, None, refl}
use Rattle.std.proofs.Common.{sym, ap, ap₂, ◌∙◌, subst}
use Rattle.std.specs.Prelude.{if◌then◌else◌}
use Rattle.std.proofs.lemmas.Option.{same_Some}
use Rattle.aas_lemmas.proofs.Lists.{no_first, no_second}
use Rattle.aas_model.specs.declared.documents.Submodel.{Submodel}
use Rattle.aas_model.specs.declared.element.Element.{Element}
use Rattle.aas_model.specs.declared.element.Role.TheVariants as role
use Rattle.aas_model.specs.declared.path.Fault.{Fault}
use Rattle.aas_model.specs.declared.path.PathStep.TheVariants.{Place}
use Rattle.aas_model.specs.declared.payload.Payload.TheVariants as payload
use Rattle.aas_constraint_rules.specs.Faults.{faults, faults_at, is_template, submodel, HasNoFault}
use Rattle.aas_model.specs.Common.{no_attributes}
use Rattle.aas_constraint_rules.specs.Sites.{Own, Trees, none, first, root, sites_among, stands_in_list}
use Rattle.aas_constraint_rules.specs.Sites.{named_or, tree_of, trees}
use Rattle.aas_constraint_rules.proofs.Elements.{under_fault}
use Rattle.aas_constraint_laws.specs.Law.{behind, local_faults}
use Rattle.aas_constraint_laws.specs.Values.{bare, DifferInValues}
use Rattle.aas_constraint_laws.proofs.Bare.{bare_trees, tree_made, same_bare}
use Rattle.aas_constraint_laws.proofs.Bridge.{document_alike, law, own_faults}
use Rattle.aas_constraint_laws.proofs.Changed.{local_here, local_among, free, free_among}
use Rattle.aas_constraint_laws.proofs.Places.{all_none_placed, all_local, same_placed}
use Rattle.aas_value_update.specs.Laws.{LawOfWholeSubmodel, FaultsAfterUpdate, ValidAfterUpdate}
use Rattle.aas_value_update.specs.Update.{body}
use Rattle.aas_value_update.proofs.Alone.{fields}
use Rattle.aas_value_update.proofs.Composed.{again}
use Rattle.aas_value_update.proofs.Rest.{bare_at}
use Rattle.aas_value_update.proofs.WholeSubmodel.{update_stays_whole}

-- ---- where all children are changed

trees_alike : (ks us : List Element)
    → map bare ks ≡ map bare us → bare_trees (trees (map tree_of us)) ≡ bare_trees (trees (map tree_of ks))
unfolding bare_trees
trees_alike [] [] same = refl
trees_alike [] (u ∷ us) same = absurd (cc)
trees_alike (k ∷ ks) [] same = absurd (cc)
trees_alike (k ∷ ks) (u ∷ us) same =
    let one : bare k ≡ bare u = cc in
    let more : map bare ks ≡ map bare us = cc in
    ap₂ (λ t ts. first t ts) (same_bare k u one) (trees_alike ks us more)

-- only that a parent is a list matters to the paths
among_alike : (a b : Option Own) (n : ℕ) (ts : Trees)
    → stands_in_list a ≡ stands_in_list b → local_among a n ts ≡ local_among b n ts
unfolding local_among
among_alike a b n none same = refl
among_alike a b n (first t ts) same =
    ap₂ (λ s l. map (under_fault s) (local_here t) ++ l)
    (ap (λ (c : Bool). if c then Place n else named_or (root t).common.id_short n) same)
    (among_alike a b (suc n) ts same)

own_body : Own
own_body = record { common = no_attributes; payload = payload.SubmodelElementCollection; role = role.Member }

body_local : (s : Submodel) → local_faults (body s) ≡ local_among (Some own_body) 0 (trees (map tree_of s.kids))
unfolding own_body local_here
body_local s = free true None [] (tree_of (body s)) ∙ ap local_here (tree_made own_body s.kids)

law_of_body : (s : Submodel) (us : List Element) → HasNoFault (submodel s) → map bare s.kids ≡ map bare us
    → faults (record s { kids = us }) ≡ local_faults (body (record s { kids = us }))
unfolding own_faults own_body
law_of_body s us valid same =
    let t = is_template s.kind in
    let ts = trees (map tree_of s.kids) in
    let ws = trees (map tree_of us) in
    let own_none : own_faults s ≡ [] = no_first (own_faults s) (flat_map faults_at (sites_among t None [] ts)) valid in
    let clean : flat_map faults_at (sites_among t None [] ts) ≡ [] =
    no_second (own_faults s) (flat_map faults_at (sites_among t None [] ts)) valid in
    ap (λ l. l ++ flat_map faults_at (sites_among t None [] ws)) (document_alike s us ∙ own_none)
    ∙ all_local (sites_among t None [] ws)
    (same_placed t ws ts (trees_alike s.kids us same) ∙ all_none_placed (sites_among t None [] ts) clean)
    ∙ free_among t None [] ws
    ∙ among_alike None (Some own_body) 0 ws refl
    ∙ sym (body_local (record s { kids = us }))

bodies_alike : (d u : Submodel) → DifferInValues (body d) (body u) → map bare d.kids ≡ map bare u.kids
bodies_alike d u same =
    (fields role.Member role.Member no_attributes no_attributes
    payload.SubmodelElementCollection payload.SubmodelElementCollection
    (map bare d.kids) (map bare u.kids)
    (sym (bare_at role.Member no_attributes payload.SubmodelElementCollection d.kids) ∙ same
    ∙ bare_at role.Member no_attributes payload.SubmodelElementCollection u.kids)).kids

pub law_of_whole_submodel : LawOfWholeSubmodel
law_of_whole_submodel d u clean rest same =
    subst (λ (s : Submodel). faults s ≡ local_faults (body s))
    (sym rest) (law_of_body d u.kids clean (bodies_alike d u same))

-- ---- updates by a value

behind_nothing : (fs : List Fault) → fs ≡ map (behind []) fs
behind_nothing [] = refl
behind_nothing (f ∷ fs) = ap (λ l. f ∷ l) (behind_nothing fs)

pub faults_after_update : FaultsAfterUpdate
faults_after_update d u [] v e valid update there =
    law_of_whole_submodel d u valid.faultless update.outside update.update.metadata
    ∙ ap local_faults (same_Some (body u) e there) ∙ behind_nothing (local_faults e)
faults_after_update d u (s ∷ p) v e valid update there =
    let after = again d u (s ∷ p) v valid update in
    let same : update.new ≡ e = same_Some update.new e (sym after.found ∙ there) in
    ap faults update.outside
    ∙ law d (s ∷ p) update.old update.new valid.faultless update.found update.update.metadata
    ∙ ap (λ (z : Element). map (behind (s ∷ p)) (local_faults z)) same

pub valid_after_update : ValidAfterUpdate
valid_after_update d u p v e valid ordered update there clean = record {
  whole = update_stays_whole d u p v valid ordered update;
  faultless = faults_after_update d u p v e valid update there ∙ ap (map (behind p)) clean;
}
