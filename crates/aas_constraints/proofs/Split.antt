-- The least broken number is the lesser of what is broken apart from references and what the references break.
use Rattle.std.proofs.Common.{◌≡◌, ℕ, ◌&&◌, not, cond, List, [], ◌∷◌, map, filter, Bool, true, false, refl, ap, ap₂, ◌∙◌}
use Rattle.std.specs.Prelude.{nat_lt}
use Rattle.std.specs.List.{list_all}
use Rattle.std.proofs.lemmas.Bool.{and_parts, ltb-true}
use Rattle.aas_model.specs.declared.reference.Reference.{Reference}
use Rattle.aas_model.specs.declared.documents.Submodel.{Submodel}
use Rattle.aas_model.specs.declared.documents.Shell.{Shell}
use Rattle.aas_model.specs.declared.documents.Concept.{Concept}
use Rattle.aas_reference.specs.Rules.{Rule, failing, first}
use Rattle.aas_reference.specs.Faults.{least, least_of}
use Rattle.aas_reference.proofs.Faults.{AreAbove, Rise, least_of_both, least_of_each}
use Rattle.aas_constraint_rules.specs.Attributes.{references_of, seen_of_submodel, seen_of_shell, seen_of_concept}
use Rattle.aas_constraint_rules.specs.Faults.{broken, submodel_rules, shell_rules, concept_rules}
use Rattle.aas_constraint_rules.specs.Rules.{ElementSentence, local, placed, holds, holds_locally, rules}
use Rattle.aas_constraint_rules.specs.Sentences.{holds_of}
use Rattle.aas_constraint_rules.specs.Sites.{Own, Site}
use Rattle.aas_constraint_parts.specs.References.{each_reference, reference_fault, references_fault}
use Rattle.aas_constraint_parts.specs.Tests.{first_failed, tests}
use Rattle.aas_constraint_parts.proofs.Tests.{first_failing}
use Rattle.aas_constraints.specs.Own.{itself, at_place, least_broken, own_fault, own_element_fault, place_fault}

-- ---- a table in two

-- the numbers rise, from above n on
abbrev rise_above : ℕ → List ℕ → Bool
rise_above n [] = true
rise_above n (m ∷ ms) = nat_lt n m && rise_above m ms

abbrev rise : List ℕ → Bool
rise [] = true
rise (n ∷ ns) = rise_above n ns

above : (n : ℕ) (ns : List ℕ) → rise_above n ns ≡ true → AreAbove n ns
above n [] e = tt
above n (m ∷ ms) e = let p = and_parts (nat_lt n m) (rise_above m ms) e in (ltb-true n m p.0, above m ms p.1)

pub rising : (ns : List ℕ) → rise ns ≡ true → Rise ns
rising [] e = tt
rising (n ∷ ns) e = above n ns e

map_same : {X Y : Type 0} (f g : X → Y) → ((x : X) → f x ≡ g x) → (xs : List X) → map f xs ≡ map g xs
map_same f g h [] = refl
map_same f g h (x ∷ xs) = ap₂ (λ y ys. y ∷ ys) (h x) (map_same f g h xs)

-- where each sentence wants something of a thing itself and something of each of its references, and of a reference the same as any other table
split : {S : Type 0} (own : S → Bool) (each : S → Reference → Bool) (rs : List (Rule S)) (references : List Reference) → rise (map (λ r. r.number) rs) ≡ true
    → ((r : Reference) → first_failed (tests (λ s. each s r) rs) ≡ reference_fault r)
    → first (failing (λ s. own s && list_all (each s) references) rs) ≡ least (first_failed (tests own rs)) (references_fault references)
split own each rs references in_order same =
    let rises = rising (map (λ r. r.number) rs) in_order in
    least_of_both own (λ s. list_all (each s) references) rs rises ∙ ap (least (first (failing own rs))) (least_of_each each rs rises references)
    ∙ ap₂ (λ a bs. least a (least_of bs)) (first_failing own rs) (map_same _ _ (λ r. first_failing (λ s. each s r) rs ∙ same r) references)

-- ---- documents

pub submodel_split : (d : Submodel) → least_broken submodel_rules (seen_of_submodel d).references d ≡ least (own_fault submodel_rules d) (references_fault (seen_of_submodel d).references)
submodel_split d = split (λ s. s.itself d) (λ s. s.each_reference) submodel_rules (seen_of_submodel d).references refl (λ r. refl)

pub shell_split : (d : Shell) → least_broken shell_rules (seen_of_shell d).references d ≡ least (own_fault shell_rules d) (references_fault (seen_of_shell d).references)
shell_split d = split (λ s. s.itself d) (λ s. s.each_reference) shell_rules (seen_of_shell d).references refl (λ r. refl)

pub concept_split : (d : Concept) → least_broken concept_rules (seen_of_concept d).references d ≡ least (own_fault concept_rules d) (references_fault (seen_of_concept d).references)
concept_split d = split (λ s. s.itself d) (λ s. s.each_reference) concept_rules (seen_of_concept d).references refl (λ r. refl)

-- ---- elements

no_references : (b : Bool) (rs : List Reference) → b ≡ (b && list_all (λ r. true) rs)
no_references false rs = refl
no_references true [] = refl
no_references true (r ∷ rs) = no_references true rs

alone_in_two : (o : Own) (s : ElementSentence) → holds_locally s o ≡ (itself s o && list_all (each_reference s) (references_of o))
alone_in_two o (local s) = refl
alone_in_two o (placed test) = no_references true (references_of o)

kept : (b : Bool) → b ≡ (b && true)
kept false = refl
kept true = refl

placed_in_two : (x : Site) (s : ElementSentence) → holds s x ≡ (holds_locally s x.own && at_place s x)
placed_in_two x (local s) = kept (holds_of (references_of x.own) x.own s)
placed_in_two x (placed test) = refl

failing_same : {S : Type 0} (test other : S → Bool) → ((s : S) → test s ≡ other s) → (rs : List (Rule S)) → filter (λ r. not (test r.sentence)) rs ≡ filter (λ r. not (other r.sentence)) rs
failing_same test other h [] = refl
failing_same test other h (r ∷ rs) = ap₂ (λ b l. cond (not b) (r ∷ l) l) (h r.sentence) (failing_same test other h rs)

-- what an element breaks by itself
pub local_split : (o : Own) → first (failing (λ s. holds_locally s o) rules) ≡ least (own_element_fault o) (references_fault (references_of o))
local_split o =
    ap (λ rs. first (map (λ r. r.number) rs)) (failing_same (λ s. holds_locally s o) (λ s. itself s o && list_all (each_reference s) (references_of o)) (alone_in_two o) rules)
    ∙ split (λ s. itself s o) each_reference rules (references_of o) refl (λ r. refl)

-- what it breaks at its place is the lesser of that and of what the place breaks
pub element_split : (x : Site) → first (broken x) ≡ least (first (failing (λ s. holds_locally s x.own) rules)) (place_fault x)
element_split x =
    ap (λ rs. first (map (λ r. r.number) rs)) (failing_same (λ s. holds s x) (λ s. holds_locally s x.own && at_place s x) (placed_in_two x) rules)
    ∙ least_of_both (λ s. holds_locally s x.own) (λ s. at_place s x) rules (rising (map (λ r. r.number) rules) refl)
    ∙ ap (least (first (failing (λ s. holds_locally s x.own) rules))) (first_failing (λ s. at_place s x) rules)
